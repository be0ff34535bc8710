-- How long a number is in decimal.
use Rattle.std.proofs.Common.{ℕ, ◌<◌, ◌≤◌, ◌^◌, length, arith}
use Rattle.std.proofs.lemmas.Fmt.{length-decimal-le}
use Rattle.std.specs.Fmt.{decimal}

-- a number of 64 bits has at most 20 digits
pub digits_of_u64 : (n : ℕ) → n < 2 ^ 64 → length (decimal n) ≤ 20
digits_of_u64 n small = length-decimal-le 20 n (omega arith) (omega arith) small

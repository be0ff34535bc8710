-- Networks stay within the addresses.
use Rattle.std.proofs.Common.{◌≡◌, ◌==◌, ℕ, ◌+◌, ◌-◌, ◌*◌, ◌/◌, ◌%◌, ◌^◌, ◌<◌, ◌≤◌, nat_le, true, ap, arith}
use Rattle.std.proofs.lemmas.Bool.{and_parts}
use Rattle.std.proofs.lemmas.Bool.Decides.{nat_tests}
use Rattle.std.proofs.lemmas.Nat.{pow_pos, pow-add, shr_split, shr_below, mul-add-lt}
use Rattle.asa_base.specs.Networks.{is_prefix, block_size}

within_parts : (a j k : ℕ) → a < 2 ^ (j + k) → a % 2 ^ k ≡ 0 → a + (2 ^ k - 1) < 2 ^ (j + k)
within_parts a j k small none =
    let q : a / 2 ^ k * 2 ^ k + a % 2 ^ k ≡ a = shr_split a k in
    let fits : a / 2 ^ k * 2 ^ k + (2 ^ k - 1) < 2 ^ k * 2 ^ j = mul-add-lt (a / 2 ^ k) (2 ^ k) (2 ^ k - 1) (2 ^ j) (shr_below a j k small) (omega (arith, pow_pos k)) in
    let whole : 2 ^ (k + j) ≡ 2 ^ k * 2 ^ j = pow-add 2 k j in
    let turned : 2 ^ (j + k) ≡ 2 ^ (k + j) = ap (λ n. 2 ^ n) (omega arith) in
    omega (arith, q, fits, whole, turned)

-- the last address of a network is an address
pub network_fits : (a len : ℕ) → a < 2 ^ 32 → is_prefix a len ≡ true → a + (block_size len - 1) < 2 ^ 32
network_fits a len small prefix =
    let parts : (nat_le len 32 ≡ true) × ((a % block_size len == 0) ≡ true) = and_parts _ _ prefix in
    let few : len ≤ 32 = grind (arith, nat_tests) in
    let none : a % block_size len ≡ 0 = grind (arith, nat_tests) in
    let e : 32 ≡ len + (32 - len) = omega arith in
    rw (ap (λ n. 2 ^ n) e) (within_parts a len (32 - len) (rw (← ap (λ n. 2 ^ n) e) small) none)

-- The network that has an address has no host bits, and begins at or before the address.
use Rattle.std.proofs.Common.{◌≡◌, ℕ, ◌*◌, ◌%◌, ◌/◌, ◌≤◌}
use Rattle.std.proofs.Math.Nat.{mul-mod_left, div-mul-le_self}

pub no_host_bits : (a size : ℕ) → a / size * size % size ≡ 0
no_host_bits a size = mul-mod_left (a / size) size

pub begins_before : (a size : ℕ) → a / size * size ≤ a
begins_before a size = div-mul-le_self a size

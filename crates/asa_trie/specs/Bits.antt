-- The bits of an address, and where a prefix stands among the blocks of addresses that hold it. A block of level n has 2 ^ n addresses.
use Rattle.std.specs.Prelude.{◌≡◌, ℕ, ◌-◌, ◌/◌, ◌%◌, ◌^◌, ◌<◌, Bool, not, ◌&&◌, ◌||◌, ◌==◌, List, [], ◌∷◌}
use Rattle.std.specs.List.{list_all}
use Rattle.asa_base.specs.Networks.{Network, same_network}

-- how many low bits of an address a prefix leaves open: the level of its block
abbrev pub height : Network → ℕ
height p = 32 - p.len

-- the prefix covers the address with this number
abbrev pub covers_number : Network → ℕ → Bool
covers_number p a = same_network p.len p.addr.0 a

-- the address lies in the upper half of its block of this level
abbrev pub bit_below : ℕ → ℕ → Bool
bit_below level a = a / 2 ^ (level - 1) % 2 == 1

-- the prefix is the whole block of this level
abbrev pub is_here : ℕ → Network → Bool
is_here level p = height p == level

-- the prefix is less than a block of this level, and lies in its lower half
abbrev pub is_low : ℕ → Network → Bool
is_low level p = not (is_here level p) && not (bit_below level p.addr.0)

-- the prefix is less than a block of this level, and lies in its upper half
abbrev pub is_high : ℕ → Network → Bool
is_high level p = not (is_here level p) && bit_below level p.addr.0

-- the address at which the first item's prefix begins; 0 where there is none
abbrev pub home_of : {T : Type 0} → (T → Network) → List T → ℕ
home_of prefix_of [] = 0
home_of prefix_of (x ∷ _) = (prefix_of x).addr.0

-- all items lie in one half of a block of this level
abbrev pub one_half : {T : Type 0} → (T → Network) → ℕ → List T → Bool
one_half prefix_of level xs = list_all (λ x. is_low level (prefix_of x)) xs || list_all (λ x. is_high level (prefix_of x)) xs

-- the prefix lies in the block of level `levels - 1` that has the address `home`
pub record IsWithin (levels home : ℕ) (p : Network) : Type 0 where
  pub below : height p < levels
  pub inside : p.addr.0 / 2 ^ (levels - 1) ≡ home / 2 ^ (levels - 1)

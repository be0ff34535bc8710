-- Static maps: which mapped addresses stand for a real one.
use Rattle.std.specs.Prelude.{ℕ, Bool, false, ◌==◌, List, Option, Some, None}
use Rattle.std.specs.List.{list_any}
use Rattle.asa_base.specs.Ranges.{AddressSpan}
use Rattle.asa_nat_rules.specs.Maps.{addresses_of, static_map}
use Rattle.asa_nat_maps.specs.Places.{Placed, address_at, first_place, place_in}

-- the real and the mapped addresses of a map, as ranges in order
pub record Sets : Type 0 where
  pub from : List AddressSpan
  pub to : List AddressSpan

-- there is a number, and it is this one
abbrev pub is_this : Option ℕ → ℕ → Bool
is_this None b = false
is_this (Some c) b = c == b

-- some real address, taken at its first place, is sent there
abbrev pub is_reached : List AddressSpan → List AddressSpan → ℕ → Bool
is_reached from to b = list_any (λ a. is_this (static_map from to a) b) (addresses_of from)

-- the address at a place is taken at that place
abbrev pub is_first_of : List AddressSpan → Option ℕ → ℕ → Bool
is_first_of spans None k = false
is_first_of spans (Some a) k = is_this (first_place spans a) k

abbrev pub is_first : List AddressSpan → ℕ → Bool
is_first spans k = is_first_of spans (address_at spans k) k

-- a numbered range of the mapped addresses has the address, at a place at which the real address is taken
abbrev pub is_first_if : List AddressSpan → Option ℕ → Bool
is_first_if from None = false
is_first_if from (Some k) = is_first from k

abbrev pub lands : List AddressSpan → Placed → ℕ → Bool
lands from x b = is_first_if from (place_in x b)

-- Ranges of addresses numbered for look-ups: each has the place of its first address among the addresses of all.
use Rattle.std.specs.Prelude.{◌≡◌, ℕ, zero, suc, ◌+◌, ◌-◌, min, Bool, true, ◌&&◌, ◌==◌, nat_lt, nat_le, List, [], ◌∷◌, map, slice_get, Option, Some, None, if◌then◌else◌}
use Rattle.std.specs.List.{position}
use Rattle.std.specs.List.Sorted.{IsPermutation, IsNonDecreasingBy}
use Rattle.asa_base.specs.Ranges.{AddressSpan}
use Rattle.asa_nat_rules.specs.Maps.{addresses_of}
use Rattle.asa_nat_rules.specs.Sets.{span_size}

-- the address at a place of ranges, counted from 0
abbrev pub address_at : List AddressSpan → ℕ → Option ℕ
address_at spans k = slice_get (addresses_of spans) k

-- the first place of an address
abbrev pub first_place : List AddressSpan → ℕ → Option ℕ
first_place spans a = position (λ x. x == a) (addresses_of spans)

-- a range with the place of its first address
pub record Placed : Type 0 where
  pub range : AddressSpan
  pub place : ℕ

-- ranges with their places, counted from a number
abbrev pub placed_from : ℕ → List AddressSpan → List Placed
placed_from n [] = []
placed_from n (s ∷ ss) = record { range = s; place = n } ∷ placed_from (n + span_size s) ss

-- the ranges without their places
abbrev pub ranges_of : List Placed → List AddressSpan
ranges_of pieces = map (λ x. x.range) pieces

-- the place of an address that a range has
abbrev pub place_in : Placed → ℕ → Option ℕ
place_in x a = if nat_le x.range.first.0 a && nat_le a x.range.last.0 then Some (x.place + (a - x.range.first.0)) else None

-- the address at a place that a range has
abbrev pub address_in : Placed → ℕ → Option ℕ
address_in x k = if nat_lt (k - x.place) (span_size x.range) then Some (x.range.first.0 + (k - x.place)) else None

-- the lesser of two places, where there are two
abbrev pub lesser : Option ℕ → Option ℕ → Option ℕ
lesser None b = b
lesser (Some a) None = Some a
lesser (Some a) (Some b) = Some (min a b)

-- the least place of an address
abbrev pub least_place : List Placed → ℕ → Option ℕ
least_place [] a = None
least_place (x ∷ xs) a = lesser (place_in x a) (least_place xs a)

-- no range begins before the one ahead of it has ended, the first not before a number
abbrev pub apart_from : ℕ → List Placed → Bool
apart_from end [] = true
apart_from end (x ∷ xs) = nat_le end x.range.first.0 && apart_from (x.range.last.0 + 1) xs

-- the value ahead of an index, where there is one
abbrev pub before : {X : Type 0} → List X → ℕ → Option X
before xs zero = None
before xs (suc k) = slice_get xs k

-- ranges with their places, in order and by first address; it is told where no two of them meet
pub record IsPlaces (listed sorted : List Placed) (apart : Bool) : Type 0 where
  pub numbered : listed ≡ placed_from 0 (ranges_of listed)
  pub same : IsPermutation listed sorted
  pub rising : IsNonDecreasingBy (λ x. x.range.first.0) sorted
  pub separate : apart ≡ true → apart_from 0 sorted ≡ true

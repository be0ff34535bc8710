-- NAT order: the manual rules as they stand, then the rules of objects by rank, then the manual rules after these as they stand.
use Rattle.std.specs.Prelude.{◌≡◌, ℕ, Bool, ◌&&◌, nat_le, ◌==◌, List, ◌++◌, length, filter, Option, Some, None}
use Rattle.std.specs.List.{range_with_len, slice_get}
use Rattle.std.specs.List.Sorted.{IsPermutation, IsSortedByKey}
use Rattle.std.specs.Option.{option_map, option_cmp}
use Rattle.std.specs.declared.cmp.Ordering.{Ordering}
use Rattle.std.specs.Ordering.{ordering_then, nat_cmp}
use Rattle.asa_nat_order.specs.declared.keys.NatKey.{NatKey}
use Rattle.asa_nat_order.specs.declared.sections.Seat.{Seat}
use Rattle.asa_nat_order.specs.Ranks.{rank_of, rank_cmp}

-- the sections are numbered from 1 to 3
abbrev pub has_section : NatKey → Bool
has_section k = nat_le 1 k.section && nat_le k.section 3

-- the section of the key, where there is one
abbrev pub section_in : Option NatKey → ℕ
section_in None = 0
section_in (Some k) = k.section

-- the indexes of the keys of a section, as they stand
abbrev pub in_section : ℕ → List NatKey → List ℕ
in_section s keys = filter (λ i. section_in (slice_get keys i) == s) (range_with_len 0 (length keys))

-- the indexes of all keys, as they stand
abbrev pub all_indexes : List NatKey → List ℕ
all_indexes keys = range_with_len 0 (length keys)

-- the rank of the key at an index, and the index
abbrev pub seat_at : List NatKey → ℕ → Seat
seat_at keys i = record { rank = option_map rank_of (slice_get keys i); index = i }

-- by rank, and where ranks are equal by index
abbrev pub seat_cmp : Seat → Seat → Ordering
seat_cmp a b = ordering_then (option_cmp rank_cmp a.rank b.rank) (nat_cmp a.index b.index)

-- the first section, the rules of objects, and the third section; the rules of objects are sorted by rank, then by index
pub record IsNatOrder (keys : List NatKey) (indexes : List ℕ) : Type 0 where
  pub objects : List ℕ
  pub sections : indexes ≡ in_section 1 keys ++ objects ++ in_section 3 keys
  pub all : IsPermutation (in_section 2 keys) objects
  pub sorted : IsSortedByKey (seat_at keys) seat_cmp objects

-- Members of which some are to go, and others that come after them.
use Rattle.std.specs.Prelude.{◌≡◌, Bool, not, true, false, List, [], ◌∷◌, ◌++◌, Some}
use Rattle.std.specs.List.{filter, find, AllByRecursion}
use Rattle.asa_objects_lines.specs.declared.statement.Item.{Item}
use Rattle.asa_objects_values.specs.Tables.{Entry}
use Rattle.asa_objects_values.specs.Definition.{has_item, same_item}

-- former members, those of them that are to go, and those that come after the others
pub record Marked : Type 0 where
  pub former : List Item
  pub gone : List Item
  pub added : List Item

-- the members that aren't to go
abbrev pub standing : List Item → List Item → List Item
standing items gone = filter (λ k. not (has_item gone k)) items

-- the members after a change
abbrev pub changed : List Item → List Item → List Item → List Item
changed former gone added = standing former gone ++ added

-- a value after a change of its members
abbrev pub changed_entry : Entry → List Item → List Item → Entry
changed_entry entry gone added = record { block = entry.block; items = changed entry.items gone added }

-- the members of a draft
abbrev pub marked : Marked → List Item
marked m = changed m.former m.gone m.added

-- none of these further members is there already
abbrev pub AreNew : List Item → List Item → Type 0
AreNew items added = AllByRecursion (λ i. has_item items i ≡ false) added

-- no member stands twice
abbrev pub AreDistinct : List Item → Type 0
AreDistinct [] = Unit {0}
AreDistinct (i ∷ is) = (has_item is i ≡ false) × AreDistinct is

-- these are some of the former members, none of them twice
abbrev pub AreFormer : List Item → List Item → Type 0
AreFormer items gone = AllByRecursion (λ i. find (same_item i) items ≡ Some i) gone × AreDistinct gone

-- there is no member
abbrev pub is_none : List Item → Bool
is_none [] = true
is_none (_ ∷ _) = false

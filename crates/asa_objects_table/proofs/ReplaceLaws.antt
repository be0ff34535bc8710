-- A name's value is replaced, or put back.
use Rattle.std.proofs.Common.{◌≡◌, ℕ, Bool, true, false, ◌||◌, List, [], ◌∷◌, Option, Some, None, refl, sym, ap, ◌∙◌}
use Rattle.std.specs.List.{list_any}
use Rattle.std.specs.Option.{option_to_list}
use Rattle.asa_objects_lines.specs.declared.statement.Item.{Item}
use Rattle.asa_objects_values.specs.Tables.{Entry, Table, entry_of, items_in, named, refers_to, same_name, refs_in}
use Rattle.asa_objects_table.specs.Ranks.{IsSound, Ranks, Uses, has_name}
use Rattle.asa_objects_table.specs.Changes.{SameUsers, RefersTo}
use Rattle.asa_objects_values.proofs.ReachLaws.{any-append, test_of}

-- the names that members refer to
pub refs-any : (c : List ℕ) (xs : List Item) → list_any (refers_to c) xs ≡ has_name (refs_in xs) c
refs-any c [] = refl
refs-any c (x ∷ xs) = ap (λ b. b || list_any (refers_to c) xs) (one (named x)) ∙ ap (λ b. has_name (option_to_list (named x)) c || b) (refs-any c xs)
    ∙ sym (any-append _ (option_to_list (named x)) (refs_in xs))
  where
    or-false : (b : Bool) → b ≡ (b || false)
    or-false true = refl
    or-false false = refl

    one : (o : Option (List ℕ)) → test_of (same_name c) o ≡ has_name (option_to_list o) c
    one None = refl
    one (Some n) = or-false (same_name c n)

-- a name refers to what its members refer to
pub refers-former : (t : Table) (ranks : Ranks) (uses : Uses) (stamp : ℕ) (name : List ℕ) (former : Entry) → IsSound t ranks uses stamp → entry_of t name ≡ Some former
    → RefersTo uses name (refs_in former.items)
refers-former t ranks uses stamp name former sound is c = sound.used c name ∙ ap (λ o. list_any (refers_to c) (items_in o)) is ∙ refs-any c former.items

-- other lists of the same users
pub sound-users : (t : Table) (ranks : Ranks) (uses uses2 : Uses) (stamp : ℕ) → IsSound t ranks uses stamp → SameUsers uses uses2 → IsSound t ranks uses2 stamp
sound-users t ranks uses uses2 stamp sound same = record {
  ranked = sound.ranked;
  there = sound.there;
  falls = sound.falls;
  early = sound.early;
  unlike = sound.unlike;
  sums = sound.sums;
  small = sound.small;
  used = λ c u. same c u ∙ sound.used c u;
}

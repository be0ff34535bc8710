-- Histories of a machine: what they make of a first state, and when each entry may come.
use Rattle.std.specs.Prelude.{◌≡◌, List, [], ◌∷◌, fold}
use Rattle.asa_live.specs.declared.deed.Deed.{Deed}

module _ {S E L : Type 0} where
  -- the state after these entries, from a state on
  abbrev pub after : (S → E → L → S) → S → List (Deed E L) → S
  after next first deeds = fold (λ s d. next s d.entry d.load) first deeds

  -- each entry fits the state at which it comes
  abbrev pub EachFits : (S → E → L → S) → (S → E → L → Type 0) → S → List (Deed E L) → Type 0
  EachFits next fits s [] = Unit {0}
  EachFits next fits s (d ∷ deeds) = fits s d.entry d.load × EachFits next fits (next s d.entry d.load) deeds

  -- these entries, each of which fits, lead from some first state to this one
  abbrev pub Reaches : (S → Type 0) → (S → E → L → S) → (S → E → L → Type 0) → List (Deed E L) → S → Type 0
  Reaches is_first next fits deeds s = (first : S) × is_first first × (s ≡ after next first deeds) × EachFits next fits first deeds

-- The rule of the two copies: what each reader has seen begins the list that the published copy stands for.
use Rattle.std.specs.Prelude.{ℕ, ◌≡◌, List, Option, Some}
use mathlib.Core.Option.{some}
use mathlib.Core.List.{IsPrefix}
use lib.ListN.{get_elem?}
use Rattle.logbook.specs.Pages.{Book}
use Rattle.asa_live.specs.declared.front.Front.{Front}
use Rattle.asa_live.specs.History.{Reaches}

-- both are beginnings of one list, and the first begins the second
abbrev pub Behind : {E L : Type 0} → Front E L → Front E L → Type 0
Behind known now = (known.seen.book ≡ now.seen.book) × IsPrefix known.seen.log now.seen.log

module _ {S E L : Type 0} (is_first : S → Type 0) (next : S → E → L → S) (fits : S → E → L → Type 0) where
  -- what any of those that look at the copies has seen begins what the published copy stands for
  abbrev pub Kept : S → Front E L → List (Option (Front E L)) → Type 0
  Kept s now views = Reaches is_first next fits now.seen.log s
      × ((seat : ℕ) (known : Front E L) → get_elem? views seat ≡ some (Some known) → Behind known now)

  -- a look at the published copy: it is a state of the machine, all that was seen before begins its list, and its list is seen
  abbrev pub Enters : Option (Front E L) → S → Front E L → Option (Front E L) → Type 0
  Enters v s now w = Reaches is_first next fits now.seen.log s × ((known : Front E L) → v ≡ Some known → Behind known now) × (w ≡ Some now)

-- who knows this knows a beginning of the list of this book
abbrev pub Knows : {E L : Type 0} → Option (Front E L) → Book → Type 0
Knows {E} {L} v book = (known : Front E L) × (v ≡ Some known) × (known.seen.book ≡ book)

-- What a reader is to its callers, and how it goes on.
use Rattle.std.specs.Prelude.{ℕ, ◌≡◌, ◌≤◌, List, [], Option, None}
use mathlib.Core.List.{IsPrefix}
use Rattle.logbook.specs.Pages.{Book}
use Rattle.asa_live.specs.Counts.{Rose}
use Rattle.asa_live.specs.declared.deed.Deed.{Deed}

-- the copies that it reads, the entries that it has seen, the state that it has open, and how often a copy was not given
pub record Viewed (S E L : Type 0) : Type 0 where
  pub copies : Book
  pub seen : List (Deed E L)
  pub opened : Option S
  pub aways : ℕ

-- it reads the same copies, has seen no less, and its count did not fall
pub record GoesOn {S E L : Type 0} (old new : Viewed S E L) : Type 0 where
  pub copies : new.copies ≡ old.copies
  pub seen : IsPrefix old.seen new.seen
  pub aways : old.aways ≤ new.aways

-- the copy was not given: nothing is open, it has seen no more, and the count of such times rose
pub record StaysOut {S E L : Type 0} (old new : Viewed S E L) : Type 0 where
  pub closed : new.opened ≡ None
  pub seen : new.seen ≡ old.seen
  pub aways : Rose old.aways new.aways

-- it reads these copies, and has seen nothing yet
abbrev pub IsNew : {S E L : Type 0} → Book → Viewed S E L → Type 0
IsNew copies reader = reader ≡ record { copies = copies; seen = []; opened = None; aways = 0 }

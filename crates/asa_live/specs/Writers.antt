-- What the writer is to its callers.
use Rattle.std.specs.Prelude.{Bool, List}
use Rattle.logbook.specs.Pages.{Book}
use Rattle.asa_live.specs.declared.deed.Deed.{Deed}

-- the copies that it publishes, the history of its entries, the state after them, and whether it will add no more
pub record Written (S E L : Type 0) : Type 0 where
  pub copies : Book
  pub history : List (Deed E L)
  pub state : S
  pub is_spent : Bool

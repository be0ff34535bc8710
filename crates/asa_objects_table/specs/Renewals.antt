-- New totals and labels of the names that reach a name, one after another, each from those that are new already.
use Rattle.std.specs.Prelude.{◌≡◌, ℕ, ◌+◌, ◌*◌, ◌<◌, ◌≤◌, ◌⊎◌, true, false, cond, List, [], ◌∷◌, ◌++◌, Option, Some, None, Result, Ok, Err, is_some}
use Rattle.std.specs.List.{AllByRecursion}
use Rattle.asa_objects_lines.specs.declared.statement.Item.{Item}
use Rattle.asa_objects_table.specs.Amounts.{Amounts}
use Rattle.asa_objects_table.specs.declared.rank.Rank.{Rank}
use Rattle.asa_objects_values.specs.declared.faults.ObjectFault.{ObjectFault}
use Rattle.asa_objects_values.specs.declared.faults.ObjectFault.TheVariants as fault
use Rattle.asa_objects_values.specs.Spreads.{total}
use Rattle.asa_objects_values.specs.Tables.{Table, entry_of, items_of, named, refers_to, same_name}
use Rattle.asa_objects_table.specs.Climbs.{IsInner, IsLaid}
use Rattle.asa_objects_table.specs.Ranks.{Part, members, services, amount, Ranks, rank_of, label_of, amount_in, amount_of, has_name, weigh, no_totals}

-- the rank that is new, or else the old one
abbrev pub newer : Option Rank → Option Rank → Option Rank
newer None old = old
newer (Some new) old = Some new

-- the rank of a name where some are new
abbrev pub rank_now : Ranks → Ranks → List ℕ → Option Rank
rank_now new ranks name = newer (rank_of new name) (rank_of ranks name)

abbrev pub amount_now : Part → Ranks → Ranks → List ℕ → ℕ
amount_now k new ranks name = amount_in k (rank_now new ranks name)

abbrev pub totals_in_rank : Option Rank → Amounts
totals_in_rank None = no_totals
totals_in_rank (Some r) = r.totals

-- the sum over a name's members
abbrev pub summed : Part → Table → Ranks → Ranks → List ℕ → ℕ
summed k t new ranks name = total (weigh k t (amount_now k new ranks) name) (items_of t name)

-- these totals are the sums over a name's members
abbrev pub AreSums : Table → Ranks → Ranks → List ℕ → Amounts → Type 0
AreSums t new ranks name totals = (k : Part) → amount k totals ≡ summed k t new ranks name

-- how often members refer to a name
abbrev pub times : List ℕ → List Item → ℕ
times name items = total (λ i. cond (refers_to name i) 1 0) items

-- how often a name refers to another, where it is among these users
abbrev pub times_among : Table → List ℕ → List (List ℕ) → List ℕ → ℕ
times_among t name users q = total (λ u. cond (same_name u q) (times name (items_of t q)) 0) users

-- totals after so many old ones in them became new ones
abbrev pub AreMoved : ℕ → Amounts → Amounts → Amounts → Amounts → Type 0
AreMoved count old new before after = (k : Part) → amount k after + count * amount k old ≡ amount k before + count * amount k new

-- a name has too many members
abbrev pub IsOver : Table → Ranks → Ranks → List ℕ → Type 0
IsOver t new ranks name = (65536 < summed members t new ranks name) ⊎ (65536 < summed services t new ranks name)

-- the new ranks of the first of these names, with labels from the stamp on
pub record IsRenewed (t : Table) (ranks : Ranks) (stamp : ℕ) (names : List (List ℕ)) (new : Ranks) (label : ℕ) : Type 0 where
  pub covers : (q : List ℕ) → is_some (rank_of new q) ≡ has_name names q
  pub later : stamp ≤ label
  pub fresh : (q : List ℕ) → is_some (rank_of new q) ≡ true → (stamp ≤ label_of new q) × (label_of new q < label)
  pub inner : (q : List ℕ) → has_name names q ≡ true → AllByRecursion (λ i. IsInner names (label_of new) (label_of new q) (named i)) (items_of t q)
  pub unlike : (p q : List ℕ) → is_some (rank_of new p) ≡ true → is_some (rank_of new q) ≡ true → label_of new p ≡ label_of new q → p ≡ q
  pub sums : (k : Part) (q : List ℕ) → is_some (rank_of new q) ≡ true → amount_of k new q ≡ summed k t new ranks q

-- new totals are within the limit
abbrev pub AreSmall : Ranks → Type 0
AreSmall new = (q : List ℕ) → is_some (rank_of new q) ≡ true → (amount_of members new q ≤ 65536) × (amount_of services new q ≤ 65536)

-- one of these names has too many members, where those before it are renewed
pub record IsOverfull (t : Table) (ranks : Ranks) (stamp : ℕ) (names : List (List ℕ)) : Type 0 where
  pub before : List (List ℕ)
  pub name : List ℕ
  pub after : List (List ℕ)
  pub split : names ≡ before ++ name ∷ after
  pub new : Ranks
  pub label : ℕ
  pub renewed : IsRenewed t ranks stamp before new label
  pub over : IsOver t new ranks name

-- what a fault in the renewal of these names tells
abbrev pub Overfills : Table → Ranks → ℕ → List (List ℕ) → ObjectFault → Type 0
Overfills t ranks stamp names fault.TooMany = IsOverfull t ranks stamp names
Overfills t ranks stamp names fault.NoMemory = Unit {0}
Overfills t ranks stamp names _ = ⊥

-- what a sum over a name's members may answer
abbrev pub Sums : Table → Ranks → Ranks → List ℕ → Result Amounts ObjectFault → Type 0
Sums t new ranks name (Ok totals) = AreSums t new ranks name totals × (totals.members ≤ 65536) × (totals.services ≤ 65536)
Sums t new ranks name (Err fault.TooMany) = IsOver t new ranks name
Sums t new ranks name (Err fault.NoMemory) = Unit {0}
Sums t new ranks name (Err _) = ⊥

-- whether totals that are told are within the limit
abbrev pub Limits : Amounts → Result Amounts ObjectFault → Type 0
Limits told (Ok totals) = (totals ≡ told) × (totals.members ≤ 65536) × (totals.services ≤ 65536)
Limits told (Err fault.TooMany) = (65536 < told.members) ⊎ (65536 < told.services)
Limits told (Err _) = ⊥

-- the name that a member refers to is none of these
abbrev pub IsOutside : List (List ℕ) → Option (List ℕ) → Type 0
IsOutside names None = Unit {0}
IsOutside names (Some name) = has_name names name ≡ false

-- after is the table t but for what one name stands for, whose totals then are those that are told
pub record IsTold (t after : Table) (ranks : Ranks) (name : List ℕ) (told : Amounts) (names : List (List ℕ)) : Type 0 where
  pub order : List ℕ → ℕ
  pub laid : IsLaid after order names
  pub others : (q : List ℕ) → same_name name q ≡ false → entry_of after q ≡ entry_of t q
  pub sums : AreSums after [] ranks name told
  pub apart : AllByRecursion (λ i. IsOutside names (named i)) (items_of after name)

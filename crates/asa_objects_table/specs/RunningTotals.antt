-- New totals and labels of the names that reach a name, where each tells the names that refer to it how its totals changed.
use Rattle.std.specs.Prelude.{◌≡◌, ℕ, false, List, Option, Some, None, Result, Ok, Err}
use Rattle.std.specs.Map.{lookup}
use Rattle.std.specs.BTreeMap.{is_at}
use Rattle.std.specs.Ordering.{nat_cmp}
use Rattle.std.specs.Cmp.Lexicographic.{slice_cmp}
use Rattle.asa_objects_table.specs.Amounts.{Amounts}
use Rattle.asa_objects_table.specs.declared.running_totals.Renewed.{Renewed}
use Rattle.asa_objects_values.specs.declared.faults.ObjectFault.{ObjectFault}
use Rattle.asa_objects_values.specs.Tables.{Table, items_of, same_name}
use Rattle.asa_objects_table.specs.Ranks.{Part, amount, Ranks, rank_of}
use Rattle.asa_objects_table.specs.Renewals.{totals_in_rank, summed, times, AreMoved, IsRenewed, Overfills, AreSmall}

-- the totals of names that refer to new ones, as far as these go
abbrev pub Running : Type 0
Running = List (List ℕ × Amounts)

-- a name's running totals
abbrev pub sum_of : Running → List ℕ → Option Amounts
sum_of sums name = lookup (is_at (slice_cmp nat_cmp name)) sums

-- the totals that are new, or else the old ones
abbrev pub or_old : Option Amounts → Amounts → Amounts
or_old None old = old
or_old (Some new) old = new

-- the running totals of a name, or else those that are kept of it
abbrev pub sum_now : Running → Ranks → List ℕ → Amounts
sum_now sums ranks name = or_old (sum_of sums name) (totals_in_rank (rank_of ranks name))

-- a name's totals became others, and each name's running totals tell it as often as it refers to that name
abbrev pub ArePassed : Table → Ranks → List ℕ → Amounts → Amounts → Running → Running → Type 0
ArePassed t ranks name old new before after = (q : List ℕ) → AreMoved (times name (items_of t q)) old new (sum_now before ranks q) (sum_now after ranks q)

-- running totals are the sums over the members of each name but for the one that changes
abbrev pub AreRunning : Table → Ranks → Ranks → List ℕ → Running → Type 0
AreRunning t new ranks changed sums = (k : Part) (q : List ℕ) → same_name changed q ≡ false → amount k (sum_now sums ranks q) ≡ summed k t new ranks q

-- what the renewal of all these names may answer
abbrev pub Renews : Table → Ranks → ℕ → List (List ℕ) → Result Renewed ObjectFault → Type 0
Renews t ranks stamp names (Ok x) = IsRenewed t ranks stamp names x.ranks.entries x.label × AreSmall x.ranks.entries
Renews t ranks stamp names (Err f) = Overfills t ranks stamp names f

-- What a change of the members of a name does to what is kept of it.
use Rattle.std.specs.Prelude.{◌≡◌, ℕ, List, Result, Ok, Err}
use Rattle.asa_objects_lines.specs.declared.statement.Item.{Item}
use Rattle.asa_objects_values.specs.declared.faults.ObjectFault.{ObjectFault}
use Rattle.asa_objects_values.specs.declared.faults.ObjectFault.TheVariants as fault
use Rattle.asa_objects_table.specs.declared.effects.Effect.{Effect}
use Rattle.asa_objects_values.specs.Tables.{Table, entry_of, group_at, items_of, refs_in}
use Rattle.asa_objects_table.specs.Changes.{freed_by}
use Rattle.asa_objects_values.specs.Drafts.{AreDistinct}
use Rattle.asa_objects_table.specs.Ranks.{Ranks, both_totals, rank_of}
use Rattle.asa_objects_table.specs.Renewals.{totals_in_rank}
use Rattle.asa_objects_table.specs.Weights.{weights}

-- what a change of a name's members does: which names come to be referred to, which no longer are, and what totals the name
-- then has
pub record HasEffect (t : Table) (ranks : Ranks) (name : List ℕ) (gone added : List Item) (e : Effect) : Type 0 where
  pub refs : e.refs.items ≡ refs_in added
  pub freed : e.freed.items ≡ freed_by (items_of t name) gone added
  pub distinct : AreDistinct (items_of t name)
  pub totals : both_totals e.totals (weights ranks (group_at (entry_of t name)) gone)
      ≡ both_totals (totals_in_rank (rank_of ranks name)) (weights ranks (group_at (entry_of t name)) added)

-- what finding that out may answer
abbrev pub HasEffects : Table → Ranks → List ℕ → List Item → List Item → Result Effect ObjectFault → Type 0
HasEffects t ranks name gone added (Ok e) = HasEffect t ranks name gone added e
HasEffects t ranks name gone added (Err fault.NoMemory) = Unit {0}
HasEffects t ranks name gone added (Err _) = ⊥

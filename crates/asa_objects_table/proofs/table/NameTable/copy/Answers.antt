use Rattle.std.proofs.Common.{ℕ, sym, subst}
use Rattle.asa_objects_values.specs.Tables.{Table}
use Rattle.asa_objects_table.specs.Ranks.{IsSound, Ranks}
use Rattle.asa_objects_table.proofs.ReplaceLaws.{sound-users}
use Rattle.asa_objects_table.proofs.table.NameTable.copy.Goals as goal

pub invariant_of-result : goal.invariant_of-result
invariant_of-result c =
    subst (λ (t : Table). IsSound t c.in_ok-index.index.ranks.entries c.in_ok-index.index.uses.entries c.in_ok-index.index.stamp) (sym c.in_ok-values.ensures)
    (subst (λ (rs : Ranks). IsSound c.self.inside.values.entries rs c.in_ok-index.index.uses.entries c.in_ok-index.index.stamp) (sym c.in_ok-index.ensures.ranks)
    (subst (λ (n : ℕ). IsSound c.self.inside.values.entries c.self.inside.index.ranks.entries c.in_ok-index.index.uses.entries n) (sym c.in_ok-index.ensures.stamp)
    (sound-users c.self.inside.values.entries c.self.inside.index.ranks.entries c.self.inside.index.uses.entries c.in_ok-index.index.uses.entries c.self.inside.index.stamp c.self.invariant c.in_ok-index.ensures.uses)))

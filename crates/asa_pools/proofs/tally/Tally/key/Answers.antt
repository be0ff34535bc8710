-- The rows are those of the invariant.
use Rattle.std.proofs.Common.{ap, subst}
use Rattle.asa_pools.specs.Tally.{AreRows, Tallied}
use Rattle.asa_pools.proofs.tally.Tally.key.Goals as goal

pub returns-clause-rows : goal.returns-clause-rows
returns-clause-rows c = subst AreRows (ap (λ (t : Tallied). t.rows) c.self.view_is) c.self.invariant.rows

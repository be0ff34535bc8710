-- A key that is counted has a row.
use Rattle.std.proofs.Common.{arith}
use Rattle.asa_pools.proofs.TallyLaws.{times_zero}
use Rattle.asa_pools.proofs.tally.Tally.remove.Goals as goal

pub returns-in_default-clause-each : goal.returns-in_default-clause-each
returns-in_default-clause-each c = λ t. absurd (omega (arith, c.requires.counted, times_zero c.args.key c.args.self.now.rows c.find.result c.find.ensures c.in_default.is))

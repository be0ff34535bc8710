-- A key has one row, or none.
use Rattle.std.proofs.Common.{sym, ap, ◌∙◌}
use Rattle.asa_pools.specs.Tally.{row_at}
use Rattle.asa_pools.proofs.TallyLaws.{times_some, times_zero}
use Rattle.asa_pools.proofs.tally.Tally.times.Goals as goal

pub returns-in-Some : goal.returns-in-Some
returns-in-Some c =
    c.count_at.ensures ∙ ap (λ xs. (row_at xs c.in-Some.place).count) c.deref.ensures.value ∙ times_some c.self.inside c.args.self.now c.self.view_is c.self.invariant c.args.key c.in-Some.place c.find.result c.find.ensures c.in-Some.is

pub returns-in-None : goal.returns-in-None
returns-in-None c = sym (times_zero c.args.key c.args.self.now.rows c.find.result c.find.ensures c.in-None.is)

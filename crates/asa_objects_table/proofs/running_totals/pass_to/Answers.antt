use Rattle.std.proofs.Common.{rules}
use Rattle.asa_objects_table.proofs.SumLaws.{user-told}
use Rattle.asa_objects_table.proofs.running_totals.pass_to.Goals as goal

pub returns-in-Some-clause-ok : goal.returns-in-Some-clause-ok
returns-in-Some-clause-ok c = user-told c.args.values.now.entries c.args.ranks.now.entries c.args.name.now c.args.user.now c.args.old c.args.new c.in-Some.totals c.args.sums.now.entries c.put_sum.new.sums.entries
    c.times_at-count.result c.times_at-count.ensures (search rules) c.put_sum.result c.put_sum.ensures.ok

use Rattle.std.proofs.Common.{rules}
use Rattle.asa_objects_table.proofs.SumLaws.{users-more}
use Rattle.asa_objects_table.proofs.running_totals.pass_to_all.Goals as goal

pub loop-user-preserved : goal.loop-user-preserved
loop-user-preserved c = users-more c.args.values.now.entries c.args.ranks.now.entries c.args.name.now c.args.old c.args.new c.args.users.now.keys c.next.new.self c.loop-user.user-iterator c.in-Some.user.now
    c.args.sums.now.entries c.loop-user.sums.entries c.pass_to.new.sums.entries (search rules) c.loop-user.invariant c.in_ok-pass_to.ensures.ok

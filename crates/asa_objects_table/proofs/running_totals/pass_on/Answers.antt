use Rattle.std.proofs.Common.{sym, ap}
use Rattle.asa_objects_table.specs.Ranks.{users_in}
use Rattle.asa_objects_table.proofs.SumLaws.{users-told, none-told}
use Rattle.asa_objects_table.proofs.running_totals.pass_on.Goals as goal

pub returns-in-Some-clause-ok : goal.returns-in-Some-clause-ok
returns-in-Some-clause-ok c = users-told c.args.values.now.entries c.args.index.now.ranks.entries c.args.index.now.uses.entries c.args.index.now.stamp c.requires c.args.name.now c.totals_of-old.result c.args.new c.totals_of-old.ensures
    c.in-Some.users.now.keys c.args.sums.now.entries c.pass_to_all.new.sums.entries (ap users_in (sym c.in-Some.ensures.value)) c.pass_to_all.ensures.ordered c.pass_to_all.result c.pass_to_all.ensures.ok

pub returns-in-None-clause-ok : goal.returns-in-None-clause-ok
returns-in-None-clause-ok c = none-told c.args.values.now.entries c.args.index.now.ranks.entries c.args.index.now.uses.entries c.args.index.now.stamp c.requires c.args.name.now c.totals_of-old.result c.args.new c.totals_of-old.ensures
    c.args.sums.now.entries (ap users_in (sym c.in-None.ensures.value))

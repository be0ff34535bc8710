use Rattle.std.proofs.Common.{Some}
use Rattle.asa_objects_values.proofs.LabelLaws.{changed-at}
use Rattle.asa_objects_table.proofs.running_totals.put_rank.Goals as goal

pub returns-in-Ok-clause-ok : goal.returns-in-Ok-clause-ok
returns-in-Ok-clause-ok c = changed-at c.args.ranks.now.entries c.insert.new.self.entries c.copy.result c.args.name.now (Some c.args.rank) c.copy.ensures c.in-Ok.ensures.updates.0

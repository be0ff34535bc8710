use Rattle.std.proofs.Common.{ap, ◌∙◌}
use Rattle.asa_objects_values.specs.Tables.{Table, user_of}
use Rattle.asa_objects_table.proofs.UserLaws.{user-is}
use Rattle.asa_objects_table.proofs.table.NameTable.first_user.Goals as goal

pub returns : goal.returns
returns c = user-is c.self.inside.values.entries c.self.inside.index.ranks.entries c.self.inside.index.uses.entries c.self.inside.index.stamp c.args.name.now c.first_user.result c.self.invariant c.len-names.ensures.ordered
    c.first_user.ensures.none c.first_user.ensures.user c.first_user.ensures.least ∙ ap (λ (t : Table). user_of t c.args.name.now) c.self.view_is

use Rattle.std.proofs.Common.{refl, None, sym, subst}
use Rattle.asa_objects_values.specs.Tables.{refs_in}
use Rattle.asa_objects_table.specs.Users.{AreUnused}
use Rattle.asa_objects_values.proofs.LabelLaws.{changed-at}
use Rattle.asa_objects_table.proofs.OpenLaws.{close-sound}
use Rattle.asa_objects_table.proofs.entries.close_name.Goals as goal

pub returns-clause-sound : goal.returns-clause-sound
returns-clause-sound c =
    close-sound c.args.values.now.entries c.remove.new.self.entries c.args.index.now.ranks.entries c.swap_remove.new.self.entries c.args.index.now.uses.entries c.drop_refs.new.uses.entries c.forget_users.new.uses.entries
    c.args.index.now.stamp c.args.name.now c.in-Some.former c.requires.sound
    (sym c.in-Some.ensures.value) c.requires.unused c.in-Some.ensures.updates.0
    (changed-at c.args.index.now.ranks.entries c.swap_remove.new.self.entries c.args.name.now c.args.name.now None refl c.swap_remove.ensures.updates.0)
    (subst (λ is. AreUnused c.args.index.now.uses.entries c.drop_refs.new.uses.entries c.args.name.now (refs_in is)) c.items-items.ensures c.drop_refs.ensures)
    c.forget_users.ensures

use Rattle.std.proofs.Common.{subst}
use Rattle.asa_objects_table.specs.Users.{AreUnused, IsPartUsed}
use Rattle.asa_objects_table.proofs.ToldLaws.{unused-again}
use Rattle.asa_objects_table.proofs.effects.note_refs.Goals as goal

pub returns-in-Err-clause-err : goal.returns-in-Err-clause-err
returns-in-Err-clause-err c =
    unused-again c.args.uses.now.entries c.add_uses.new.uses.entries c.forget_refs.new.uses.entries c.args.name.now c.args.refs.now c.in_ok-fresh.fresh.items c.in_ok-fresh.ensures
    (subst (IsPartUsed c.args.uses.now.entries c.add_uses.new.uses.entries c.args.name.now) c.as_slice.ensures.value c.in-Err.ensures.err)
    (subst (λ ns. AreUnused c.add_uses.new.uses.entries c.forget_refs.new.uses.entries c.args.name.now ns) c.as_slice-in-Err.ensures.value c.forget_refs.ensures)

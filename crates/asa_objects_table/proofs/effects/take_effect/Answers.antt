use Rattle.std.proofs.Common.{sym, subst}
use Rattle.asa_objects_table.specs.Users.{AreUsed, AreUnused, unused_in}
use Rattle.asa_objects_table.proofs.ToldLaws.{unused-again, used-part}
use Rattle.asa_objects_table.proofs.effects.take_effect.Goals as goal

pub returns-in-Ok-clause-users : goal.returns-in-Ok-clause-users
returns-in-Ok-clause-users c = (
  c.note_refs.new.uses.entries,
  subst (λ rs. AreUsed c.args.uses.now.entries c.note_refs.new.uses.entries c.args.name.now (unused_in c.args.uses.now.entries rs c.args.name.now)) c.as_slice.ensures.value c.in_ok-fresh.ensures.ok,
  subst (AreUnused c.note_refs.new.uses.entries c.drop_uses.new.uses.entries c.args.name.now) c.as_slice-in-Ok.ensures.value c.drop_uses.ensures,
)

pub returns-clause-users_err : goal.returns-clause-users_err
returns-clause-users_err c =
    unused-again c.args.uses.now.entries c.note_refs.new.uses.entries c.forget_refs.new.uses.entries c.args.name.now c.as_slice.result.now c.in_ok-fresh.fresh.items c.in_ok-fresh.ensures.fresh
    (used-part c.args.uses.now.entries c.note_refs.new.uses.entries c.args.name.now c.in_ok-fresh.fresh.items
    (subst (AreUsed c.args.uses.now.entries c.note_refs.new.uses.entries c.args.name.now) (sym c.in_ok-fresh.ensures.fresh) c.in_ok-fresh.ensures.ok))
    (subst (AreUnused c.note_refs.new.uses.entries c.forget_refs.new.uses.entries c.args.name.now) c.as_slice-in-Err.ensures.value c.forget_refs.ensures)

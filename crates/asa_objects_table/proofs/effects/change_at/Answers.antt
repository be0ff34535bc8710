use Rattle.std.proofs.Common.{sym}
use Rattle.asa_objects_table.proofs.PutLaws.{change-put, change-kept}
use Rattle.asa_objects_table.proofs.UseLaws.{on-ok}
use Rattle.asa_objects_table.proofs.UseLaws.{on-error}
use Rattle.asa_objects_table.proofs.effects.change_at.Goals as goal

pub returns-clause-ok : goal.returns-clause-ok
returns-clause-ok c =
    on-ok _ _ c.change.result c.change.ensures.ok
    (λ is. change-put c.args.values.now.entries (c.get_mut.follows.lender c.change.new.self).entries c.args.name.now c.change.new.self c.in-Some.stated.now c.args.change.now.gone.keys c.args.change.now.added
    c.get_mut.ensures.ordered (sym c.in-Some.ensures.value) (c.get_mut.follows.holds c.change.new.self).0 is)

pub returns-clause-err : goal.returns-clause-err
returns-clause-err c =
    on-error _ _ c.change.result c.change.ensures.err
    (λ is. change-kept c.args.values.now.entries (c.get_mut.follows.lender c.change.new.self).entries c.args.name.now c.change.new.self c.in-Some.stated.now (sym c.in-Some.ensures.value)
    (c.get_mut.follows.holds c.change.new.self).0 is)

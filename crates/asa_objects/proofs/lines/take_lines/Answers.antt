use Rattle.std.proofs.Common.{◌≡◌, Result, Err, arith, rules, sym, subst}
use Rattle.asa_objects_values.specs.declared.faults.ObjectFault.{ObjectFault}
use Rattle.asa_objects_values.specs.Definition.{Takes, after_lines}
use Rattle.asa_objects_values.specs.Drafts.{marked}
use Rattle.asa_objects.proofs.LineLaws.{refused-at}
use Rattle.asa_objects.proofs.lines.take_lines.Goals as goal

pub returns-in_err-take_line-clause-members : goal.returns-in_err-take_line-clause-members
returns-in_err-take_line-clause-members c =
    let same : c.from_residual.result ≡ Err c.in_err-take_line.field-0.0 = search rules in
    subst (λ (r : Result (Unit {0}) ObjectFault). Takes r (marked c.take_line.new.draft) (after_lines c.args.table.now c.args.name.now c.args.block 2 (marked c.args.draft.now) c.args.lines.now)) (sym same)
    (refused-at c.args.table.now c.args.name.now c.args.block (marked c.args.draft.now) (marked c.loop-i.draft) c.args.lines.now c.loop-i.i c.index-lines-i.result c.in_err-take_line.field-0.0 (marked c.take_line.new.draft)
    c.loop-i.invariant.0 (omega arith) (search rules) c.in_err-take_line.ensures.members)

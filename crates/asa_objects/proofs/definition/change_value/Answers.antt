use Rattle.std.proofs.Common.{◌≡◌, Result, Ok, Err, rules, sym, subst, ap, ◌∙◌}
use Rattle.std.proofs.lemmas.Result.{err_from_is_err_and}
use Rattle.asa_objects_values.specs.declared.faults.ObjectFault.{ObjectFault}
use Rattle.asa_objects_values.specs.Definition.{Defines, changed_by}
use Rattle.asa_objects_table.specs.Ranks.{has_name}
use Rattle.asa_objects.specs.BlockChanges.{after_change}
use Rattle.asa_objects.proofs.DefineLaws.{read-refused, read-replaced}
use Rattle.asa_objects.proofs.FitLaws.{drafted-fit}
use Rattle.asa_objects.proofs.definition.change_value.Goals as goal

pub read_change-requires-clause-reaching : goal.read_change-requires-clause-reaching
read_change-requires-clause-reaching c q = c.in_ok-reaching.ensures q ∙ ap (λ ns. has_name ns q) c.as_slice.ensures.value ∙ c.in_ok-above.ensures.whole q

pub returns-in_err-wanted : goal.returns-in_err-wanted
returns-in_err-wanted c =
    let same : c.from_residual-in_err-wanted.result ≡ Err c.in_err-wanted.field-0.0 = search rules in
    subst (λ (r : Result (Unit {0}) ObjectFault). Defines r c.args.table.now c.args.table.now (changed_by c.args.table.now c.args.block.now c.args.top.now)) (sym same)
    (read-refused c.args.table.now c.args.block.now c.args.top.now c.in_err-wanted.field-0.0 c.in_err-wanted.ensures)

pub change-requires-clause-fits : goal.change-requires-clause-fits
change-requires-clause-fits c =
    drafted-fit c.args.table.now c.order.ensures.ranks c.order.ensures.uses c.order.ensures.stamp c.order.ensures.sound c.args.block.now c.args.top.now
    (after_change c.args.table.now c.args.top.now.name c.in_ok-wanted.wanted) c.in_ok-wanted.ensures.members

pub returns-in_err-change : goal.returns-in_err-change
returns-in_err-change c =
    let err = err_from_is_err_and c.from_residual-in_err-change.result c.from_residual-in_err-change.ensures.1 in
    let same : c.from_residual-in_err-change.result ≡ Err c.in_err-change.field-0.0 = err.1 ∙ ap Err err.2 in
    subst (λ (r : Result (Unit {0}) ObjectFault). Defines r c.args.table.now c.change.new.self (changed_by c.args.table.now c.args.block.now c.args.top.now)) (sym same)
    (read-replaced c.args.table.now c.args.block.now c.args.top.now c.in_ok-wanted.wanted c.in_ok-wanted.ensures c.requires
    c.change.new.self (Err c.in_err-change.field-0.0) tt c.in_err-change.ensures.answer)

pub returns : goal.returns
returns c =
    read-replaced c.args.table.now c.args.block.now c.args.top.now c.in_ok-wanted.wanted c.in_ok-wanted.ensures c.requires
    c.change.new.self (Ok tt) c.in_ok-change.ensures.small c.in_ok-change.ensures.answer

use Rattle.std.proofs.Common.{◌≡◌, Result, Err, rules, sym, subst, ap, ◌∙◌}
use Rattle.asa_objects_values.specs.declared.faults.ObjectFault.{ObjectFault}
use Rattle.asa_objects_values.specs.Definition.{Judges, stated_by}
use Rattle.asa_objects_table.specs.Ranks.{has_name}
use Rattle.asa_objects.proofs.DefineLaws.{judge-refused}
use Rattle.asa_objects.proofs.definition.judge_value.Goals as goal

pub read_lines-requires-clause-reaching : goal.read_lines-requires-clause-reaching
read_lines-requires-clause-reaching c q = c.in_ok-reaching.ensures q ∙ ap (λ ns. has_name ns q) c.as_slice.ensures.value ∙ c.in_ok-above.ensures.whole q

pub returns-in_err-read_lines : goal.returns-in_err-read_lines
returns-in_err-read_lines c =
    let same : c.from_residual-in_err-read_lines.result ≡ Err c.in_err-read_lines.field-0.0 = search rules in
    subst (λ (r : Result (Unit {0}) ObjectFault). Judges r (stated_by c.args.table.now c.args.block.now c.args.top.now)) (sym same)
    (judge-refused c.args.table.now c.args.block.now c.args.top.now c.in_err-read_lines.field-0.0 c.in_err-read_lines.ensures.value)

pub returns : goal.returns
returns c = (_, c.in_ok-read_lines.ensures.value.members)

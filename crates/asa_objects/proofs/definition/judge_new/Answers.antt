use Rattle.std.proofs.Common.{◌≡◌, [], cond, Option, Some, Result, is_some, true, refl, sym, subst, ap, ◌∙◌}
use Rattle.std.specs.List.{list_any}
use Rattle.asa_objects_values.specs.declared.faults.ObjectFault.{ObjectFault}
use Rattle.asa_objects_values.specs.Tables.{Table, entry_of, items_of, refers_to, with_entry, without_name}
use Rattle.asa_objects_values.specs.Definition.{Judges, stated_by}
use Rattle.asa_objects_values.proofs.LabelLaws.{same-self}
use Rattle.asa_objects_table.proofs.PutLaws.{entry-put, name-gone}
use Rattle.asa_objects_table.proofs.OpenLaws.{unused-begun}
use Rattle.asa_objects.proofs.DefineLaws.{made_of}
use Rattle.asa_objects.proofs.definition.judge_new.Goals as goal

pub judge_value-result-requires : goal.judge_value-result-requires
judge_value-result-requires c =
    ap (λ (t : Table). is_some (entry_of t c.args.top.now.name)) c.in_ok-open.ensures.ok
    ∙ ap is_some (entry-put c.args.table.now c.args.top.now.name (made_of c.args.top.now.block []) c.args.top.now.name
    ∙ ap (λ b. cond b (Some (made_of c.args.top.now.block [])) (entry_of c.args.table.now c.args.top.now.name)) (same-self c.args.top.now.name))

pub close-was_there-requires : goal.close-was_there-requires
close-was_there-requires c = λ q.
    ap (λ (t : Table). list_any (refers_to c.args.top.now.name) (items_of t q)) c.in_ok-open.ensures.ok
    ∙ unused-begun c.args.table.now (with_entry c.args.table.now c.args.top.now.name (made_of c.args.top.now.block [])) c.order.ensures.ranks c.order.ensures.uses c.order.ensures.stamp c.args.top.now.name
    (made_of c.args.top.now.block []) c.order.ensures.sound c.requires refl (entry-put c.args.table.now c.args.top.now.name (made_of c.args.top.now.block [])) q

pub returns-clause-value : goal.returns-clause-value
returns-clause-value c =
    subst (λ (t : Table). Judges c.judge_value-result.result (stated_by t c.args.block.now c.args.top.now)) c.in_ok-open.ensures.ok c.judge_value-result.ensures

pub returns-clause-same : goal.returns-clause-same
returns-clause-same c =
    c.close-was_there.ensures.value ∙ ap (λ (t : Table). without_name t c.args.top.now.name) c.in_ok-open.ensures.ok
    ∙ name-gone c.args.top.now.name (made_of c.args.top.now.block []) c.args.table.now c.requires

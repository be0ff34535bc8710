use Rattle.std.proofs.Common.{◌≡◌, [], cond, Option, Some, IsSomeAnd, Err, refl, sym, subst, ap, ◌∙◌}
use Rattle.std.specs.List.{list_any}
use Rattle.asa_objects_values.specs.Tables.{Entry, Table, entry_of, items_of, refers_to, with_entry, without_name}
use Rattle.asa_objects_values.specs.Definition.{Defines, begun, changed_by}
use Rattle.asa_objects_values.proofs.LabelLaws.{same-self}
use Rattle.asa_objects_table.proofs.PutLaws.{entry-put, name-gone}
use Rattle.asa_objects_table.proofs.OpenLaws.{unused-begun}
use Rattle.asa_objects.proofs.DefineLaws.{made_of, refused-of, refused-same}
use Rattle.asa_objects.proofs.definition.define_new.Goals as goal

pub change_value-result-requires : goal.change_value-result-requires
change_value-result-requires c =
    let put : entry_of c.open.new.self c.args.top.now.name ≡ Some (made_of c.args.top.now.block []) =
    ap (λ (t : Table). entry_of t c.args.top.now.name) c.in_ok-open.ensures.ok
    ∙ entry-put c.args.table.now c.args.top.now.name (made_of c.args.top.now.block []) c.args.top.now.name
    ∙ ap (λ b. cond b (Some (made_of c.args.top.now.block [])) (entry_of c.args.table.now c.args.top.now.name)) (same-self c.args.top.now.name) in
    subst (λ (o : Option Entry). IsSomeAnd o (λ e. e.block ≡ c.args.top.now.block)) (sym put) refl

pub close-requires : goal.close-requires
close-requires c = λ q.
    let same : c.change_value-result.new.table ≡ c.open.new.self = refused-same _ _ _ c.in-Err.fault c.in-Err.ensures in
    ap (λ (t : Table). list_any (refers_to c.args.top.now.name) (items_of t q)) (same ∙ c.in_ok-open.ensures.ok)
    ∙ unused-begun c.args.table.now (with_entry c.args.table.now c.args.top.now.name (made_of c.args.top.now.block [])) c.order.ensures.ranks c.order.ensures.uses c.order.ensures.stamp c.args.top.now.name
    (made_of c.args.top.now.block []) c.order.ensures.sound c.requires refl (entry-put c.args.table.now c.args.top.now.name (made_of c.args.top.now.block [])) q

pub returns-in-Err : goal.returns-in-Err
returns-in-Err c =
    let same : c.change_value-result.new.table ≡ c.open.new.self = refused-same _ _ _ c.in-Err.fault c.in-Err.ensures in
    let back : c.close.new.self ≡ c.args.table.now =
    c.close.ensures.value ∙ ap (λ (t : Table). without_name t c.args.top.now.name) (same ∙ c.in_ok-open.ensures.ok)
    ∙ name-gone c.args.top.now.name (made_of c.args.top.now.block []) c.args.table.now c.requires in
    subst (λ (t : Table). Defines (Err c.in-Err.fault) c.args.table.now t (changed_by (begun c.args.table.now c.args.top.now) c.args.block.now c.args.top.now)) (sym back)
    (refused-of c.args.table.now c.open.new.self c.change_value-result.new.table (changed_by (begun c.args.table.now c.args.top.now) c.args.block.now c.args.top.now) c.in-Err.fault
    (subst (λ (t : Table). Defines (Err c.in-Err.fault) c.open.new.self c.change_value-result.new.table (changed_by t c.args.block.now c.args.top.now)) c.in_ok-open.ensures.ok c.in-Err.ensures))

use Rattle.std.proofs.Common.{◌&&◌, not, sym, ap, ◌∙◌}
use Rattle.asa_objects_values.specs.Definition.{has_item}
use Rattle.asa_objects_values.proofs.DraftLaws.{stands-is}
use Rattle.asa_objects_values.proofs.draft.stands.Goals as goal

pub returns-then-has : goal.returns-then-has
returns-then-has c =
    ap not c.contains.ensures
    ∙ sym (ap (λ b. b && not (has_item c.args.gone.now.keys c.args.item.now)) (sym c.has.ensures.value ∙ c.if-has.true))
    ∙ sym (stands-is c.args.items.now c.args.gone.now.keys c.args.item.now)

pub returns-else-has : goal.returns-else-has
returns-else-has c =
    c.if-has.false
    ∙ sym (ap (λ b. b && not (has_item c.args.gone.now.keys c.args.item.now)) (sym c.has.ensures.value ∙ c.if-has.false))
    ∙ sym (stands-is c.args.items.now c.args.gone.now.keys c.args.item.now)

use Rattle.std.proofs.Common.{◌||◌, ◌∙◌, sym, ap}
use Rattle.asa_objects_values.specs.Definition.{has_item}
use Rattle.asa_objects_values.specs.Drafts.{changed}
use Rattle.asa_objects_lines.specs.declared.statement.Item.TheVariants as item
use Rattle.asa_objects_table.proofs.EffectLaws.{refs-has}
use Rattle.asa_objects_table.proofs.effects.still_refers.Goals as goal

pub returns-then-leaves : goal.returns-then-leaves
returns-then-leaves c =
    c.if-leaves.true
    ∙ ap (λ b. b || has_item (changed c.args.former.now c.args.change.now.gone.keys c.args.change.now.added) (item.Group c.args.name.now))
    (sym c.if-leaves.true ∙ c.leaves.ensures ∙ ap (λ k. has_item (changed c.args.former.now c.args.change.now.gone.keys c.args.change.now.added) (item.Object k)) c.copy.ensures)
    ∙ sym (refs-has c.args.name.now (changed c.args.former.now c.args.change.now.gone.keys c.args.change.now.added))

pub returns-else-leaves : goal.returns-else-leaves
returns-else-leaves c =
    c.leaves-else-leaves.ensures ∙ ap (λ k. has_item (changed c.args.former.now c.args.change.now.gone.keys c.args.change.now.added) (item.Group k)) c.copy-else-leaves.ensures
    ∙ ap (λ b. b || has_item (changed c.args.former.now c.args.change.now.gone.keys c.args.change.now.added) (item.Group c.args.name.now))
    (sym c.if-leaves.false ∙ c.leaves.ensures ∙ ap (λ k. has_item (changed c.args.former.now c.args.change.now.gone.keys c.args.change.now.added) (item.Object k)) c.copy.ensures)
    ∙ sym (refs-has c.args.name.now (changed c.args.former.now c.args.change.now.gone.keys c.args.change.now.added))

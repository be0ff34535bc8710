use Rattle.std.proofs.Common.{subst, ap, ◌∙◌}
use Rattle.asa_objects_values.specs.Tables.{Table, user_of}
use Rattle.asa_objects.specs.Frames.{KeepsRest}
use Rattle.asa_objects_table.proofs.OpenLaws.{unused-by}
use Rattle.asa_objects.proofs.KeptLaws.{remove-keeps}
use Rattle.asa_objects.proofs.objects.Objects.remove.Goals as goal

pub close-was_there-requires : goal.close-was_there-requires
close-was_there-requires c = λ q. unused-by c.self.inside.table c.args.name.now (ap (λ (t : Table). user_of t c.args.name.now) c.self.view_is ∙ c.requires) q

pub returns-clause-kept : goal.returns-clause-kept
returns-clause-kept c =
    subst (λ (t : Table). KeepsRest t c.close-was_there.new.self c.args.name.now) c.self.view_is
    (remove-keeps c.self.inside.table c.close-was_there.new.self c.order.ensures.ranks c.order-2.ensures.ranks c.order.ensures.uses c.order-2.ensures.uses
    c.order.ensures.stamp c.order-2.ensures.stamp c.order.ensures.sound c.order-2.ensures.sound c.args.name.now c.close-was_there.ensures.value
    (λ q. unused-by c.self.inside.table c.args.name.now (ap (λ (t : Table). user_of t c.args.name.now) c.self.view_is ∙ c.requires) q))

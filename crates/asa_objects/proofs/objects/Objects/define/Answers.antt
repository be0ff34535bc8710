use Rattle.std.proofs.Common.{OnOk, sym, subst}
use Rattle.asa_objects_values.specs.Tables.{Table}
use Rattle.asa_objects.specs.Frames.{KeepsOthers}
use Rattle.asa_objects.proofs.KeptLaws.{define-keeps}
use Rattle.asa_objects.proofs.objects.Objects.define.Goals as goal

pub returns-clause-kept : goal.returns-clause-kept
returns-clause-kept c =
    subst (λ (t : Table). OnOk c.define_top-result.result (KeepsOthers t c.define_top-result.new.table c.args.block.now)) c.self.view_is
    (define-keeps c.self.inside.table c.define_top-result.new.table c.order.ensures.ranks c.order-2.ensures.ranks c.order.ensures.uses c.order-2.ensures.uses
    c.order.ensures.stamp c.order-2.ensures.stamp c.order.ensures.sound c.order-2.ensures.sound c.args.block.now c.in_ok-top.top (sym c.in_ok-top.ensures) c.define_top-result.result c.define_top-result.ensures)

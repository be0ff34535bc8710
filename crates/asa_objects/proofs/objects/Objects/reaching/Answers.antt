use Rattle.std.proofs.Common.{◌≡◌, None, refl, sym, rules}
use Rattle.asa_objects_values.specs.Tables.{entry_of}
use Rattle.asa_objects.proofs.FrameLaws.{block-reaches, only-reaches}
use Rattle.asa_objects.proofs.objects.Objects.reaching.Goals as goal

pub returns-then-is_none : goal.returns-then-is_none
returns-then-is_none c =
    let absent : entry_of c.self.inside.table c.in-Ok.top.name ≡ None = search rules in
    block-reaches c.self.inside.table c.args.self.now c.args.block.now c.in-Ok.top c.only_name.result c.self.view_is (sym c.in-Ok.ensures)
    (only-reaches c.self.inside.table c.order.ensures.ranks c.order.ensures.uses c.order.ensures.stamp c.in-Ok.top.name c.only_name.result c.order.ensures.sound absent c.only_name.ensures)

pub returns : goal.returns
returns c = block-reaches c.self.inside.table c.args.self.now c.args.block.now c.in-Ok.top c.names_above.result c.self.view_is (sym c.in-Ok.ensures) c.names_above.ensures

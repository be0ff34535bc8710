use Rattle.std.proofs.Common.{below_more, ap, ◌∙◌}
use Rattle.asa_shadow.specs.Regions.{is_region}
use Rattle.asa_shadow.proofs.WalkLaws.{region_at_item}
use Rattle.asa_shadow.proofs.judgement.tell_regions.Goals as goal

pub loop-found-preserved : goal.loop-found-preserved
loop-found-preserved c =
    below_more _ _ c.loop-found.invariant
    (ap is_region (region_at_item c.args.boxes.now c.loop-found.found-index c.found-item.result c.loop-found-test.true c.found-item.is) ∙ c.tell.ensures)

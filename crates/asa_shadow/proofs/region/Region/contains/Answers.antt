use Rattle.std.proofs.Common.{◌≡◌, true, sym, ◌∙◌, arith}
use Rattle.asa_shadow.specs.Regions.{is_region}
use Rattle.asa_shadow.proofs.RegionLaws.{contains_end}
use Rattle.asa_shadow.proofs.region.Region.contains.Goals as goal

pub returns : goal.returns
returns c =
    let own : is_region c.self.inside.spans ≡ true = c.self.invariant in
    let others : is_region c.other.inside.spans ≡ true = c.other.invariant in
    let is_own : is_region c.args.self.now ≡ true = cc in
    let is_other : is_region c.args.other.now ≡ true = cc in
    sym (contains_end c.args.self.now c.args.other.now c.loop-i.i is_own is_other (omega arith)) ∙ c.loop-i.invariant

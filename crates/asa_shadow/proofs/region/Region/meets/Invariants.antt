use Rattle.std.proofs.Common.{◌≡◌, drop}
use Rattle.asa_shadow.specs.Regions.{meets}
use Rattle.asa_shadow.proofs.region.Region.meets.Given as goal

abbrev pub invariant-loop-i : goal.invariant-loop-i
invariant-loop-i l = meets (drop l.i l.self) (drop l.i l.other) ≡ meets l.self l.other

use Rattle.std.proofs.Common.{◌≡◌, drop}
use Rattle.asa_shadow.specs.Regions.{contains}
use Rattle.asa_shadow.proofs.region.Region.contains.Given as goal

abbrev pub invariant-loop-i : goal.invariant-loop-i
invariant-loop-i l = contains (drop l.i l.self) (drop l.i l.other) ≡ contains l.self l.other

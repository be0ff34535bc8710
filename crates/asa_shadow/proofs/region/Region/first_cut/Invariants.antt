use Rattle.std.proofs.Common.{◌≡◌, ◌+◌, drop}
use Rattle.asa_shadow.specs.CutTrees.{cut_from}
use Rattle.asa_shadow.proofs.region.Region.first_cut.Given as goal

abbrev pub invariant-loop-i : goal.invariant-loop-i
invariant-loop-i l = cut_from (l.i + 1) (drop l.i l.line_box) (drop l.i l.self) ≡ cut_from 1 l.line_box l.self

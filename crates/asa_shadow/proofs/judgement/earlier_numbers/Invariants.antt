use Rattle.std.proofs.Common.{◌≡◌, ◌+◌, ◌++◌, drop}
use Rattle.asa_shadow.specs.CutTrees.{earlier_from}
use Rattle.asa_shadow.specs.Walks.{named}
use Rattle.asa_shadow.proofs.judgement.earlier_numbers.Given as goal

abbrev pub invariant-loop-i : goal.invariant-loop-i
invariant-loop-i l = named l.boxes l.numbers ++ earlier_from l.line (l.i + 1) (drop l.i l.boxes) ≡ earlier_from l.line 1 l.boxes

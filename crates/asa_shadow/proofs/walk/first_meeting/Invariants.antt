use Rattle.std.proofs.Common.{◌≡◌, drop}
use Rattle.asa_shadow.specs.CutTrees.{first_meeting}
use Rattle.asa_shadow.specs.Walks.{named}
use Rattle.asa_shadow.proofs.walk.first_meeting.Given as goal

abbrev pub invariant-loop-number : goal.invariant-loop-number
invariant-loop-number l = first_meeting (named l.boxes (drop l.number-index l.numbers)) l.region ≡ first_meeting (named l.boxes l.numbers) l.region

use Rattle.asa_shadow.proofs.FindingLaws.{finding_accepted, finding_matched}
use Rattle.asa_shadow.proofs.judgement.judge.Goals as goal

pub returns-clause-accepted : goal.returns-clause-accepted
returns-clause-accepted c = rw c.in_ok-finding.ensures (finding_accepted c.args.boxes.now c.args.line c.args.limit c.tell_regions.ensures)

pub returns-clause-matched : goal.returns-clause-matched
returns-clause-matched c = rw c.in_ok-finding.ensures (finding_matched c.args.boxes.now c.args.line c.args.limit c.tell_regions.ensures)

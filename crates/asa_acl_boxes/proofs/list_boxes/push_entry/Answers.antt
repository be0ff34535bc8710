use Rattle.asa_acl_boxes.proofs.BoxLaws.{none_added}
use Rattle.asa_acl_boxes.proofs.list_boxes.push_entry.Goals as goal

pub returns-then-branch : goal.returns-then-branch
returns-then-branch g c = none_added _ _ _ _ c.if-branch.true c.in_ok-is_boxless.ensures

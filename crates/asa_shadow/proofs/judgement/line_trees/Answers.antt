use Rattle.asa_shadow.proofs.judgement.line_trees.Goals as goal

pub returns-clause-told : goal.returns-clause-told
returns-clause-told c = rw (c.as_slice.ensures, c.in_ok-earlier.ensures, c.as_slice-2.ensures.value, c.in_ok-starts.ensures) at c.walk_boxes.ensures.told

pub returns-clause-reached : goal.returns-clause-reached
returns-clause-reached c = rw (c.as_slice.ensures, c.in_ok-earlier.ensures, c.as_slice-2.ensures.value, c.in_ok-starts.ensures) at c.walk_boxes.ensures.reached

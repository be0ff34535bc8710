use Rattle.std.proofs.Common.{◌≡◌, ◌++◌, take}
use Rattle.asa_acl_boxes.specs.Boxes.{all_boxes}
use Rattle.asa_acl_boxes.proofs.list_boxes.push_sources.Given as goal

abbrev pub invariant-loop-source : goal.invariant-loop-source
invariant-loop-source l = l.boxes.items ≡ l.initial.boxes.items ++ all_boxes l.entry.line l.entry.permit (take l.source-index l.sources) l.dests l.services

use Rattle.std.proofs.Common.{◌∙◌, ap}
use Rattle.asa_acl.specs.Fingerprints.{mark_of}
use Rattle.asa_acl.proofs.LineLaws.{marks_differ}
use Rattle.asa_acl.proofs.held_line.HeldLine.holds.Goals as goal

pub returns-else-self-mark : goal.returns-else-self-mark
returns-else-self-mark c = marks_differ c.args.item.now c.args.self.now c.self.inside.mark c.args.mark
    (c.self.invariant ∙ ap mark_of c.self.view_is) c.requires c.if-self-mark.false

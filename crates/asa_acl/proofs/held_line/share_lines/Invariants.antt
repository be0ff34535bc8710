-- the lines so far are shared
use Rattle.std.proofs.Common.{◌≡◌, take}
use Rattle.asa_acl.proofs.held_line.share_lines.Given as goal

abbrev pub invariant-loop-held : goal.invariant-loop-held
invariant-loop-held l = l.shared.items ≡ take l.held-index l.lines

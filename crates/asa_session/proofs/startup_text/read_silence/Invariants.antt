-- The lines that are left, taken from here on, say what all of them say.
use Rattle.std.proofs.Common.{◌≡◌, ◌≤◌, length}
use Rattle.asa_session.specs.StartupTexts.{silence}
use Rattle.asa_session.proofs.startup_text.read_silence.Given as goal

abbrev pub invariant-loop-line : goal.invariant-loop-line
invariant-loop-line l = record {
  same : silence l.count l.lines.lines ≡ silence 0 l.fn.lines.lines;
  few : l.count ≤ 262144;
}

abbrev pub decreases-loop-line : goal.decreases-loop-line
decreases-loop-line l = length l.lines.lines

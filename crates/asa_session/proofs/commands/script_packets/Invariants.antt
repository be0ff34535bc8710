-- The lines that are left, taken from here on, give what all of them give.
use Rattle.std.proofs.Common.{◌≡◌, ◌≤◌, [], length}
use Rattle.asa_session.specs.Scripts.{script_packets}
use Rattle.asa_session.proofs.commands.script_packets.Given as goal

abbrev pub invariant-loop-line : goal.invariant-loop-line
invariant-loop-line l = record {
  same : script_packets l.config l.count l.flows l.lines.lines ≡ script_packets l.config 0 [] l.fn.lines.lines;
  few : l.count ≤ 262144;
}

abbrev pub decreases-loop-line : goal.decreases-loop-line
decreases-loop-line l = length l.lines.lines

-- the commands of the lanes so far, and of those still to come; these lanes at the beginning of the next phase
use Rattle.std.proofs.Common.{◌≡◌, ◌++◌}
use Rattle.asa_script.specs.Lanes.{phase_commands, next_phase}
use Rattle.asa_script.proofs.lanes.Lanes.end_phase.Given as goal

abbrev pub invariant-loop-lane : goal.invariant-loop-lane
invariant-loop-lane l = record {
  commands : l.commands ++ phase_commands l.lane-iterator.rest.items ≡ phase_commands l.initial.lane-iterator.rest.items;
  next : l.next.items ++ next_phase l.lane-iterator.rest.items ≡ next_phase l.initial.lane-iterator.rest.items;
}

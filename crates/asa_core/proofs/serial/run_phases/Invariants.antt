use Rattle.std.proofs.Common.{◌≡◌, ◌<◌, ◌+◌, ◌^◌, ◌++◌, length, drop}
use Rattle.std.specs.List.{flat_map}
use Rattle.asa_core.specs.Machine.{ruling}
use Rattle.asa_core.specs.Serial.{phases_run}
use Rattle.asa_core.proofs.serial.run_phases.Given as goal

abbrev pub invariant-loop-phase : goal.invariant-loop-phase
invariant-loop-phase l = record {
  same : l.reports ++ phases_run l.state l.before (drop l.phase-index l.phases) ≡ phases_run l.initial.state 0 l.phases;
  rules : ruling l.state ≡ ruling l.initial.state;
  fits : l.before + length (flat_map (λ phase. phase.commands) (drop l.phase-index l.phases)) < 2 ^ 64;
}

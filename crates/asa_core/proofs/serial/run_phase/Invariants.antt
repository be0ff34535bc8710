use Rattle.std.proofs.Common.{◌≡◌, ◌≤◌, length, drop}
use Rattle.asa_core.specs.Machine.{ruling}
use Rattle.asa_core.specs.Serial.{started, asked_all}
use Rattle.asa_core.proofs.serial.run_phase.Given as goal

abbrev pub invariant-loop-placed : goal.invariant-loop-placed
invariant-loop-placed l = record {
  same : asked_all l.before (record { machine = l.state; entries = l.entries; given = l.given }) (drop l.placed-index l.commands) ≡ asked_all l.before (started l.initial.state) l.commands;
  rules : ruling l.state ≡ ruling l.initial.state;
  few : length l.entries ≤ l.placed-index;
}

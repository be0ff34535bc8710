use Rattle.std.proofs.Common.{arith, ap}
use Rattle.std.specs.List.{flat_map}
use Rattle.asa_core.proofs.serial.run_serial.Goals as goal

pub run_phases-requires-clause-named : goal.run_phases-requires-clause-named
run_phases-requires-clause-named c = rw c.in_ok-state.ensures.rules (rw c.as_slice.ensures c.requires.named)

pub run_phases-requires-clause-fits : goal.run_phases-requires-clause-fits
run_phases-requires-clause-fits c = rw c.as_slice.ensures (omega (arith, c.requires.few_commands))

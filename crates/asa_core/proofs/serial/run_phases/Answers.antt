use Rattle.std.proofs.Common.{IsTrue}
use Rattle.asa_session.specs.Readiness.{enters_named}
use Rattle.asa_core.specs.Machine.{ruling}
use Rattle.asa_core.proofs.PhaseLaws.{part_holds}
use Rattle.asa_core.proofs.serial.run_phases.Goals as goal

pub run_phase-requires-clause-named : goal.run_phase-requires-clause-named
run_phase-requires-clause-named c =
    rw c.loop-phase.invariant.rules (part_holds (λ placed. IsTrue (enters_named (ruling c.args.state.now) placed.2)) (λ phase. phase.commands) _ _ _ c.loop-phase-test.true c.phase-item.is c.requires.named)

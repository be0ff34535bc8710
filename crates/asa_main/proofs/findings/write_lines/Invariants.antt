-- However the lines that are left are written, so are all of them.
use Rattle.std.proofs.Common.{◌≡◌, ℕ, ◌+◌, ◌≤◌, List, drop}
use Rattle.std.specs.Prelude.{Option, Result}
use Rattle.asa_main.specs.declared.statuses.Status.{Status}
use Rattle.asa_main.specs.Outputs.{WritesTexts}
use Rattle.asa_main.specs.Shadows.{texts_from}
use Rattle.asa_main.proofs.findings.write_lines.Given as goal

abbrev pub invariant-loop-i : goal.invariant-loop-i
invariant-loop-i g l = record {
  rest : (given : Option (List ℕ)) (faults : ℕ) (r : Result ℕ Status) →
      WritesTexts (texts_from l.name l.boxes (l.i + 1) (drop l.i l.lines)) l.written (g.K.Sink.given l.output) given (g.K.Sink.faults l.output) faults r →
      WritesTexts (texts_from l.name l.boxes 1 l.lines) l.initial.written (g.K.Sink.given l.initial.output) given (g.K.Sink.faults l.initial.output) faults r;
  later : g.K.Sink.faults l.initial.output ≤ g.K.Sink.faults l.output;
}

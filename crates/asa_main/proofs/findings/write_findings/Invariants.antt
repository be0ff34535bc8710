-- However the lists that are left are written, so are all of them.
use Rattle.std.proofs.Common.{◌≡◌, ℕ, ◌≤◌, List, drop}
use Rattle.std.specs.Prelude.{Option, Result}
use Rattle.std.specs.List.{flat_map}
use Rattle.asa_main.specs.declared.statuses.Status.{Status}
use Rattle.asa_main.specs.Outputs.{WritesTexts}
use Rattle.asa_main.specs.Shadows.{list_texts, finding_texts}
use Rattle.asa_main.proofs.findings.write_findings.Given as goal

abbrev pub invariant-loop-n : goal.invariant-loop-n
invariant-loop-n g l = record {
  rest : (given : Option (List ℕ)) (faults : ℕ) (r : Result ℕ Status) →
      WritesTexts (flat_map (list_texts l.config) (drop l.n l.config.lists)) l.written (g.K.Sink.given l.output) given (g.K.Sink.faults l.output) faults r →
      WritesTexts (finding_texts l.config) 0 (g.K.Sink.given l.initial.output) given (g.K.Sink.faults l.initial.output) faults r;
  later : g.K.Sink.faults l.initial.output ≤ g.K.Sink.faults l.output;
}

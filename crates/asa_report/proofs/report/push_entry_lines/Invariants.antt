use Rattle.std.proofs.Common.{◌≡◌, ◌+◌, ◌++◌, drop}
use Rattle.asa_report.specs.Report.{entry_lines}
use Rattle.asa_report.proofs.report.push_entry_lines.Given as goal

-- the lines of the entries still to come, after what was written, are the whole; the next number counts the entries before it
abbrev pub invariant-loop-entry : goal.invariant-loop-entry
invariant-loop-entry l = (l.number ≡ l.fn.first + l.entry-index) × (l.out.items ++ entry_lines l.number (drop l.entry-index l.entries) ≡ l.initial.out.items ++ entry_lines l.fn.first l.entries)

use Rattle.std.proofs.Common.{◌≡◌, ◌+◌, ◌++◌, drop}
use Rattle.asa_report.specs.Report.{phases_text}
use Rattle.asa_report.proofs.report.push_phases.Given as goal

abbrev pub invariant-loop-i : goal.invariant-loop-i
invariant-loop-i l = l.out.items ++ phases_text l.ifaces (l.i + 1) l.first (drop l.i l.reports) ≡ l.initial.out.items ++ phases_text l.ifaces 1 0 l.reports

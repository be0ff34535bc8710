use Rattle.std.proofs.Common.{◌≡◌, ◌++◌, drop}
use Rattle.std.specs.List.{flat_map}
use Rattle.asa_report.specs.Report.{given_line}
use Rattle.asa_report.proofs.report.push_given_lines.Given as goal

abbrev pub invariant-loop-given : goal.invariant-loop-given
invariant-loop-given l = l.out.items ++ flat_map (given_line l.ifaces) (drop l.given-index l.answers) ≡ l.initial.out.items ++ flat_map (given_line l.ifaces) l.answers

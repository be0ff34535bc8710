-- no rule so far has a fault
use Rattle.std.proofs.Common.{◌≡◌, drop}
use Rattle.asa_nat_table.specs.Faults.{manual_fault}
use Rattle.asa_nat_table.proofs.section.Section.fault.Given as goal

abbrev pub invariant-loop-rule : goal.invariant-loop-rule
invariant-loop-rule g l = manual_fault (g.M.NatMeaning.meanings l.meaning) l.self ≡ manual_fault (g.M.NatMeaning.meanings l.meaning) (drop l.rule-index l.rule-items)

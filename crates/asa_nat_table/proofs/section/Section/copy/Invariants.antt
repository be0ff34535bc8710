-- the rules so far are shared
use Rattle.std.proofs.Common.{◌≡◌, take}
use Rattle.asa_nat_table.proofs.section.Section.copy.Given as goal

abbrev pub invariant-loop-rule : goal.invariant-loop-rule
invariant-loop-rule l = l.rules.items ≡ take l.rule-index l.rule-items

-- the pairs of the rules so far
use Rattle.std.proofs.Common.{◌≡◌, ◌*◌, ◌^◌, ◌≤◌, take}
use Rattle.std.specs.List.{sum_by}
use Rattle.asa_nat_rules.specs.Pairs.{rule_pairs}
use Rattle.asa_nat_table.proofs.section.Section.pairs.Given as goal

abbrev pub invariant-loop-rule : goal.invariant-loop-rule
invariant-loop-rule g l = (l.pairs ≡ sum_by (rule_pairs (g.M.NatMeaning.meanings l.meaning)) (take l.rule-index l.rule-items)) × (l.pairs ≤ l.rule-index * 2 ^ 45)

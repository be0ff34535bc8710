-- the pairs of the rules so far, and of those to come
use Rattle.std.proofs.Common.{◌≡◌, ◌+◌, ◌*◌, ◌^◌, ◌≤◌, length}
use Rattle.std.specs.List.{sum_by}
use Rattle.asa_nat_rules.specs.Pairs.{rule_pairs}
use Rattle.asa_nat_table.proofs.own_rules.OwnRules.pairs.Given as goal

abbrev pub invariant-loop-rule : goal.invariant-loop-rule
invariant-loop-rule g l = (l.pairs + sum_by (λ e. rule_pairs (g.M.NatMeaning.meanings l.meaning) e.1) l.rule-iterator ≡ sum_by (λ e. rule_pairs (g.M.NatMeaning.meanings l.meaning) e.1) l.self)
    × (l.pairs + length l.rule-iterator * 2 ^ 45 ≤ length l.self * 2 ^ 45)

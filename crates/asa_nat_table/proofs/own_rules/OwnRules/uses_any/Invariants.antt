-- no rule so far uses one of the names
use Rattle.std.proofs.Common.{◌≡◌}
use Rattle.std.specs.List.{list_any}
use Rattle.asa_nat_table.specs.Rules.{uses_one}
use Rattle.asa_nat_table.proofs.own_rules.OwnRules.uses_any.Given as goal

abbrev pub invariant-loop-rule : goal.invariant-loop-rule
invariant-loop-rule l = list_any (λ e. uses_one l.names e.1) l.self ≡ list_any (λ e. uses_one l.names e.1) l.rule-iterator

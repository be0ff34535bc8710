-- no rule so far uses the name
use Rattle.std.proofs.Common.{◌≡◌}
use Rattle.std.specs.List.{list_any}
use Rattle.asa_nat_table.specs.Rules.{other_uses}
use Rattle.asa_nat_table.proofs.own_rules.OwnRules.uses.Given as goal

abbrev pub invariant-loop-owner : goal.invariant-loop-owner
invariant-loop-owner l = list_any (other_uses l.name) l.self ≡ list_any (other_uses l.name) l.owner-iterator

-- the first faulty rule so far, and that of those to come
use Rattle.std.proofs.Common.{◌≡◌}
use Rattle.asa_nat_table.specs.Faults.{earlier, first_placed}
use Rattle.asa_nat_table.proofs.own_rules.OwnRules.fault.Given as goal

abbrev pub invariant-loop-owner : goal.invariant-loop-owner
invariant-loop-owner g l = earlier l.first (first_placed (g.M.NatMeaning.meanings l.meaning) l.owner-iterator) ≡ first_placed (g.M.NatMeaning.meanings l.meaning) l.self

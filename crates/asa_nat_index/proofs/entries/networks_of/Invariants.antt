-- The networks so far, then those of the ranges that are left, are those of all ranges, and cover what all ranges have.
use Rattle.std.proofs.Common.{◌≡◌, ◌++◌, ◌||◌, drop}
use Rattle.std.specs.List.{list_any}
use Rattle.asa_text.specs.declared.numbers.Addr.{Addr}
use Rattle.asa_base.specs.Networks.{covers}
use Rattle.asa_nat_index.specs.Matches.{networks_of, lies_in}
use Rattle.asa_nat_index.proofs.entries.networks_of.Given as goal

abbrev pub invariant-loop-range : goal.invariant-loop-range
invariant-loop-range l = record {
  value : l.networks ++ networks_of (drop l.range-index l.ranges) ≡ networks_of l.ranges;
  holds : (a : Addr) → (list_any (λ n. covers n a) l.networks || lies_in a (drop l.range-index l.ranges)) ≡ lies_in a l.ranges;
}

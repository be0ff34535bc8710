-- What stands at each place so far, then what the cases that are left put there, is what all cases put there.
use Rattle.std.proofs.Common.{◌≡◌, ℕ, ◌+◌, ◌≤◌, drop, length, sum_by}
use Rattle.std.specs.List.{position_from}
use Rattle.asa_base.specs.declared.flow.Packet.{Packet}
use Rattle.asa_pair_trie.specs.Pairs.{lesser}
use Rattle.asa_nat_index.specs.Index.{shelf, first_on, covering_on}
use Rattle.asa_nat_index.specs.Matches.{pairs_of}
use Rattle.asa_nat_index.specs.Shelves.{holds_at, covering_at}
use Rattle.asa_nat_index.proofs.shelves.shelved.Given as goal

abbrev pub invariant-loop-rank : goal.invariant-loop-rank
invariant-loop-rank l = record {
  first : (k : ℕ) (p : Packet) → lesser (first_on l.lists.items k p) (position_from (holds_at l.part k p) l.rank (drop l.rank l.cases)) ≡ position_from (holds_at l.part k p) 0 l.cases;
  covering : (k : ℕ) (p : Packet) → covering_on l.lists.items k p + sum_by (covering_at l.part k p) (drop l.rank l.cases) ≡ sum_by (covering_at l.part k p) l.cases;
  few : (k : ℕ) → length (shelf l.lists.items k) + pairs_of (drop l.rank l.cases) ≤ pairs_of l.cases;
}

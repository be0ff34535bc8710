-- The entries so far, then those of the destinations that are left.
use Rattle.std.proofs.Common.{◌≡◌, ◌++◌, drop}
use Rattle.asa_nat_index.specs.Entries.{dest_entries}
use Rattle.asa_nat_index.proofs.entries.push_dests.Given as goal

abbrev pub invariant-loop-dest : goal.invariant-loop-dest
invariant-loop-dest l = l.out ++ dest_entries l.source (drop l.dest-index l.dests) l.service l.rank ≡ l.initial.out ++ dest_entries l.source l.dests l.service l.rank

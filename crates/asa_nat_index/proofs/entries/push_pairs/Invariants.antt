-- The entries so far, then those of the sources that are left.
use Rattle.std.proofs.Common.{◌≡◌, ◌++◌, drop}
use Rattle.asa_nat_index.specs.Entries.{pair_entries}
use Rattle.asa_nat_index.proofs.entries.push_pairs.Given as goal

abbrev pub invariant-loop-source : goal.invariant-loop-source
invariant-loop-source l = l.out ++ pair_entries (drop l.source-index l.sources) l.dests l.service l.rank ≡ l.initial.out ++ pair_entries l.sources l.dests l.service l.rank

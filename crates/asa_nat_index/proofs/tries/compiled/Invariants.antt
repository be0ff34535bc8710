-- What the tries so far say, then what the lists that are left say, is what all lists say.
use Rattle.std.proofs.Common.{◌≡◌, ◌++◌, map, drop}
use Rattle.asa_base.specs.declared.flow.Packet.{Packet}
use Rattle.asa_nat_index.specs.Index.{first_in, covering_in}
use Rattle.asa_nat_index.proofs.tries.compiled.Given as goal

abbrev pub invariant-loop-list : goal.invariant-loop-list
invariant-loop-list l = record {
  first : (p : Packet) → map (first_in p) l.tries.items ++ map (first_in p) (drop l.list-index l.lists) ≡ map (first_in p) l.lists;
  covering : (p : Packet) → map (covering_in p) l.tries.items ++ map (covering_in p) (drop l.list-index l.lists) ≡ map (covering_in p) l.lists;
}

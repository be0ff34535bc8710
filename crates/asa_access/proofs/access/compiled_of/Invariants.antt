-- What the lists that are compiled so far say, then what the lists that are left say, is what all lists say.
use Rattle.std.proofs.Common.{◌≡◌, ◌++◌, map, drop}
use Rattle.asa_base.specs.declared.flow.Packet.{Packet}
use Rattle.asa_access.specs.Compiled.{match_in, covering_among}
use Rattle.asa_access.specs.Lists.{match_of, covering_in}
use Rattle.asa_access.proofs.access.compiled_of.Given as goal

abbrev pub invariant-loop-list : goal.invariant-loop-list
invariant-loop-list l = record {
  first : (p : Packet) → map (match_in p) l.done.items ++ map (match_of p) (drop l.list-index l.lists) ≡ map (match_of p) l.lists;
  covering : (p : Packet) → map (covering_among p) l.done.items ++ map (covering_in p) (drop l.list-index l.lists) ≡ map (covering_in p) l.lists;
}

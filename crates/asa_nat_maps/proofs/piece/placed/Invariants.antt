-- The pieces so far, then those of the ranges that are left, are all pieces.
use Rattle.std.proofs.Common.{◌≡◌, ◌≤◌, ◌*◌, ◌^◌, ◌++◌, drop}
use Rattle.asa_nat_maps.specs.Places.{placed_from}
use Rattle.asa_nat_maps.proofs.piece.placed.Given as goal

abbrev pub invariant-loop-range : goal.invariant-loop-range
invariant-loop-range l = record {
  all : l.pieces.items ++ placed_from l.place (drop l.range-index l.ranges) ≡ placed_from 0 l.ranges;
  few : l.place ≤ l.range-index * 2 ^ 32;
}

-- What is left to look at decides.
use Rattle.std.proofs.Common.{◌≡◌, drop}
use Rattle.asa_nat_maps.specs.Places.{apart_from}
use Rattle.asa_nat_maps.proofs.piece.are_apart.Given as goal

abbrev pub invariant-loop-piece : goal.invariant-loop-piece
invariant-loop-piece l = apart_from l.end (drop l.piece-index l.pieces) ≡ apart_from 0 l.pieces

-- The least place so far, then those of the pieces that are left.
use Rattle.std.proofs.Common.{◌≡◌, drop}
use Rattle.asa_nat_maps.specs.Places.{lesser, least_place}
use Rattle.asa_nat_maps.proofs.piece.least_place.Given as goal

abbrev pub invariant-loop-piece : goal.invariant-loop-piece
invariant-loop-piece l = lesser l.least (least_place (drop l.piece-index l.pieces) l.address.0) ≡ least_place l.pieces l.address.0

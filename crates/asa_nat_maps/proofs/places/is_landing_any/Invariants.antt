-- What is left to look at decides.
use Rattle.std.proofs.Common.{◌≡◌, drop}
use Rattle.std.specs.List.{list_any}
use Rattle.asa_nat_maps.specs.Maps.{lands}
use Rattle.asa_nat_maps.proofs.places.is_landing_any.Given as goal

abbrev pub invariant-loop-piece : goal.invariant-loop-piece
invariant-loop-piece l = list_any (λ x. lands l.from x l.address.0) (drop l.piece-index l.pieces) ≡ list_any (λ x. lands l.from x l.address.0) l.pieces

-- The routes so far, then those of the candidates that are left.
use Rattle.std.proofs.Common.{◌≡◌, ◌++◌, length, drop}
use Rattle.asa_ifaces_routes.specs.Candidates.{offers_from}
use Rattle.asa_ifaces_routes.proofs.candidates.offers.Given as goal

abbrev pub invariant-loop-place : goal.invariant-loop-place
invariant-loop-place l = record {
  value : l.offers.items ++ offers_from l.place (drop l.place l.candidates) ≡ offers_from 0 l.candidates;
  few : length l.offers.items ≡ l.place;
}

-- The interfaces that are done so far.
use Rattle.std.proofs.Common.{◌≡◌, ℕ, ◌<◌, length, slice_get, Some}
use Rattle.std.specs.List.{position}
use Rattle.asa_access.specs.Lists.{has_side}
use Rattle.asa_access.proofs.access.places_of.Given as goal

abbrev pub invariant-loop-ifc : goal.invariant-loop-ifc
invariant-loop-ifc l = record {
  long : length l.places.items ≡ l.ifc;
  done : (ifc : ℕ) → ifc < l.ifc → slice_get l.places.items ifc ≡ Some (position (has_side (ifc, l.inbound)) l.lists);
}

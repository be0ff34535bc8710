use Rattle.std.proofs.Common.{◌≡◌, ℕ, ◌+◌, ◌<◌, true}
use Rattle.asa_shadow.specs.Regions.{is_region}
use Rattle.asa_shadow.specs.Walks.{region_at}
use Rattle.asa_shadow.proofs.judgement.tell_regions.Given as goal

abbrev pub invariant-loop-found : goal.invariant-loop-found
invariant-loop-found l = (i : ℕ) → i < l.found-index → is_region (region_at l.boxes (i + 1)) ≡ true

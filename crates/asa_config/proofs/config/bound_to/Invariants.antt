use Rattle.std.proofs.Common.{◌≡◌, drop}
use Rattle.asa_config.specs.Settings.{bound_to}
use Rattle.asa_config.proofs.config.bound_to.Given as goal

abbrev pub invariant-loop-bound_side : goal.invariant-loop-bound_side
invariant-loop-bound_side l = bound_to (drop l.bound_side-index l.bound) l.side ≡ bound_to l.bound l.side

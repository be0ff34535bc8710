use Rattle.std.proofs.Common.{◌≡◌, ◌++◌, take, drop}
use Rattle.asa_config.specs.Groups.{without_side}
use Rattle.asa_config.proofs.bindings.place_to_leave.Given as goal

abbrev pub invariant-loop-i : goal.invariant-loop-i
invariant-loop-i l = take l.i l.bound ++ without_side (drop l.i l.bound) l.side ≡ without_side l.bound l.side

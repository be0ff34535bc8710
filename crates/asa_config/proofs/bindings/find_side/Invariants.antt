use Rattle.std.proofs.Common.{◌≡◌, ◌++◌, take, drop}
use Rattle.asa_config.specs.Groups.{with_side}
use Rattle.asa_config.proofs.bindings.find_side.Given as goal

abbrev pub invariant-loop-i : goal.invariant-loop-i
invariant-loop-i l = take l.i l.bound ++ with_side (drop l.i l.bound) l.side l.list ≡ with_side l.bound l.side l.list

-- the lanes so far have no command
use Rattle.std.proofs.Common.{◌≡◌, map, take}
use Rattle.asa_script.specs.Lanes.{without_commands}
use Rattle.asa_script.proofs.lanes.Lanes.new.Given as goal

abbrev pub invariant-loop-count : goal.invariant-loop-count
invariant-loop-count l = l.lanes.items ≡ map without_commands (take l.count-index l.count-items)

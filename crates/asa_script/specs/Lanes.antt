-- The commands of the lanes: each lane's own list, with a count over the whole script.
use Rattle.std.specs.Prelude.{ℕ, ◌+◌, ◌-◌, List, [], ◌∷◌, ◌++◌, insert, remove, map}
use Rattle.std.specs.List.{flat_map, slice_index_or}
use Rattle.asa_flow.specs.declared.command.Command.{Command}
use Rattle.asa_script.specs.declared.lanes.LaneCommands.{LaneCommands}

-- a lane with so many commands so far, none of them in the present phase
abbrev pub without_commands : ℕ → LaneCommands
without_commands count = record { count = count; commands = [] }

-- a lane with one command more, whose index is one more than that of the last
abbrev pub with_command : ℕ → Command → LaneCommands → LaneCommands
with_command lane c l = record { count = l.count + 1; commands = l.commands ++ (lane, l.count + 1, c) ∷ [] }

-- no command of any of the eight lanes
abbrev pub no_commands : List LaneCommands
no_commands = map without_commands (0 ∷ 0 ∷ 0 ∷ 0 ∷ 0 ∷ 0 ∷ 0 ∷ 0 ∷ [])

-- one command more, of this lane
abbrev pub with_lane_command : List LaneCommands → ℕ → Command → List LaneCommands
with_lane_command lanes lane c = insert (remove lanes (lane - 1)) (lane - 1) (with_command lane c (slice_index_or lanes (lane - 1) (without_commands 0)))

-- the commands of the present phase, lane by lane
abbrev pub phase_commands : List LaneCommands → List (ℕ × ℕ × Command)
phase_commands lanes = flat_map (λ l. l.commands) lanes

-- the lanes at the beginning of the next phase
abbrev pub next_phase : List LaneCommands → List LaneCommands
next_phase lanes = map (λ l. without_commands l.count) lanes

-- What the lines of a script make: phases that have ended, the commands of the present one, and the block that is being
-- stated.
use Rattle.std.specs.Prelude.{◌≡◌, ℕ, ◌≤◌, not, Bool, ◌==◌, List, [], ◌∷◌, ◌++◌, length, Result, Ok, Err, if◌then◌else◌}
use Rattle.asa_text.specs.declared.lines.Line.{Line}
use Rattle.asa_text.specs.Lines.{is_kept, is_indented}
use Rattle.asa_flow.specs.declared.command.Command.{Command}
use Rattle.asa_flow.specs.declared.command.Command.TheVariants as command
use Rattle.asa_session_lines.specs.declared.line.ScriptLine.{ScriptLine}
use Rattle.asa_session_lines.specs.declared.line.ScriptLine.TheVariants as says
use Rattle.asa_session_lines.specs.declared.line.ScriptFault.{ScriptFault}
use Rattle.asa_session_lines.specs.declared.line.ScriptFault.TheVariants as fault
use Rattle.asa_script.specs.declared.phase.PhaseEnd.{PhaseEnd}
use Rattle.asa_script.specs.declared.phase.PhaseEnd.TheVariants as end
use Rattle.asa_script.specs.declared.phase.PhaseText.{PhaseText}
use Rattle.asa_script.specs.declared.phase.ScriptError.{ScriptError}
use Rattle.asa_script.specs.declared.phase.ScriptError.TheVariants.{At, NoMemory}
use Rattle.asa_script.specs.declared.lanes.LaneCommands.{LaneCommands}
use Rattle.asa_script.specs.Lanes.{no_commands, with_lane_command, phase_commands, next_phase}

-- what was read of a script so far
pub record Script : Type 0 where
  -- the phases that have ended
  pub phases : List PhaseText
  -- the commands of the present phase, lane by lane
  pub lanes : List LaneCommands
  -- the lane of the commands to come
  pub lane : ℕ
  -- the lines of the block that is being stated
  pub block : List Line

abbrev pub script_of : List PhaseText → List LaneCommands → ℕ → List Line → Script
script_of phases lanes lane block = record { phases = phases; lanes = lanes; lane = lane; block = block }

abbrev pub nothing : Script
nothing = script_of [] no_commands 1 []

-- an answer is what the definition says, unless memory ran out
abbrev pub Judged : {X : Type 0} → Result X ScriptError → Result X ScriptError → Type 0
Judged (Ok x) d = d ≡ Ok x
Judged (Err (At line why)) d = d ≡ Err (At line why)
Judged (Err NoMemory) d = Unit {0}

-- one command more, of the present lane
abbrev pub with_command : Script → Command → Script
with_command s c = record s { lanes = with_lane_command s.lanes s.lane c }

-- one line more of the block that is being stated
abbrev pub with_line : Script → Line → Script
with_line s l = record s { block = s.block ++ l ∷ [] }

-- a block that is being stated is a command
unfoldable pub block_ended : Script → Script
block_ended s = of_lines s.block
  where
    of_lines : List Line → Script
    of_lines [] = s
    of_lines (l ∷ ls) = record (with_command s (command.Edit (record { lines = l ∷ ls }))) { block = [] }

-- the present phase ends
unfoldable pub phase_ended : Script → PhaseEnd → Script
phase_ended s end = record s { phases = s.phases ++ record { commands = phase_commands s.lanes; end = end } ∷ []; lanes = next_phase s.lanes }

-- an indented line of a block: the first line of a block isn't indented
abbrev pub inner_taken : Script → Line → Result Script ScriptError
inner_taken s l = of_lines s.block
  where
    of_lines : List Line → Result Script ScriptError
    of_lines [] = Err (At l.number fault.Syntax)
    of_lines (_ ∷ _) = Ok (with_line s l)

-- a line of a configuration block; an empty one and a comment are skipped
unfoldable pub edit_taken : Script → Line → Result Script ScriptError
edit_taken s l =
    if not (is_kept l) then Ok s
    else (if is_indented l then inner_taken s l else Ok (with_line (block_ended s) l))

-- what another line says
unfoldable pub said_taken : Script → ScriptLine → Script
said_taken s (says.Lane lane) = record s { lane = lane }
said_taken s (says.Packet p) = with_command s (command.Packet p)
said_taken s (says.Trace p) = with_command s (command.Trace p)
said_taken s says.Clear = with_command s command.Clear
said_taken s says.Sync = phase_ended s end.Sync
said_taken s (says.Advance seconds) = phase_ended s (end.Advance seconds)
said_taken s (says.Show table) = phase_ended s (end.Show table)

-- another line with this number, which ends a block
abbrev pub line_taken : Script → ℕ → Result ScriptLine ScriptFault → Result Script ScriptError
line_taken s n (Ok said) = Ok (said_taken (block_ended s) said)
line_taken s n (Err why) = Err (At n why)

-- the phases, of which the last is there only where it has a command
abbrev pub with_last : List PhaseText → List (ℕ × ℕ × Command) → List PhaseText
with_last phases [] = phases
with_last phases (c ∷ cs) = phases ++ record { commands = c ∷ cs; end = end.Input } ∷ []

unfoldable pub finished : Script → List PhaseText
finished s = with_last (block_ended s).phases (phase_commands (block_ended s).lanes)

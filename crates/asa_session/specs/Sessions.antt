-- A session: the startup blocks before the first line that is exactly `: end`, then the script.
use Rattle.std.specs.Prelude.{ℕ, ◌+◌, List, [], ◌∷◌, Result, Ok}
use Rattle.asa_text.specs.declared.lines.Line.{Line}
use Rattle.asa_text.specs.declared.blocks.Block.{Block}
use Rattle.asa_text.specs.Lines.{lines_from}
use Rattle.asa_base.specs.declared.flow.Packet.{Packet}
use Rattle.asa_config.specs.Settings.{Settings}
use Rattle.asa_session.specs.declared.session.Command.{Command}
use Rattle.asa_session.specs.declared.session.Command.TheVariants as command
use Rattle.asa_session.specs.declared.session.PhaseEnd.TheVariants.{Input}
use Rattle.asa_session.specs.declared.session.PhaseText.{PhaseText}
use Rattle.asa_session.specs.declared.session.Session.{Session}
use Rattle.asa_session.specs.declared.session.SessionError.{SessionError}
use Rattle.asa_session.specs.Refusals.{and_then}
use Rattle.asa_session.specs.Scripts.{script_packets}
use Rattle.asa_session.specs.Openings.{opening_of}

-- the packets as the commands of lane 1, of which the first has the index i
abbrev pub commands_from : ℕ → List Packet → List (ℕ × ℕ × Command)
commands_from i [] = []
commands_from i (p ∷ ps) = (1, i, command.Packet p) ∷ commands_from (i + 1) ps

-- the phases: none where there is no command
abbrev pub phases_of : List Packet → List PhaseText
phases_of [] = []
phases_of (p ∷ ps) = record { commands = commands_from 1 (p ∷ ps); end = Input } ∷ []

-- the session of accepted startup blocks, with how many more were passed over, and of the packets of the script
abbrev pub session_with : List Block → ℕ → Settings → List Packet → Session
session_with kept passed c packets = record { startup = kept; passed = passed; config = c; phases = phases_of packets }

-- the session of accepted startup blocks and of the lines of the script
abbrev pub with_packets : List Block → ℕ → Settings → List Line → Result Session SessionError
with_packets kept passed c script = and_then (script_packets c 0 [] script) (λ packets. Ok (session_with kept passed c packets))

-- the session of lines, or the refusal of the least refused line
unfoldable pub session_of_lines : List Line → Result Session SessionError
session_of_lines ls = and_then (opening_of ls) (λ o. with_packets o.kept o.passed o.config o.rest)

-- the session of a text
abbrev pub session_of : List ℕ → Result Session SessionError
session_of t = session_of_lines (lines_from 1 t)

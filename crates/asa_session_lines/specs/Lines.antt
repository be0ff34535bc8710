-- The lines of the script by their words.
use Rattle.std.specs.Prelude.{ℕ, ◌≤◌, Bool, ◌&&◌, ◌==◌, List, [], ◌∷◌, codes, length, Option, Some, None, Result, Ok, Err, if◌then◌else◌}
use Rattle.asa_text.specs.Words.{Spelled}
use Rattle.asa_base.specs.Kinds.{Known}
use Rattle.asa_base.specs.declared.flow.Packet.{Packet}
use Rattle.asa_session_lines.specs.declared.line.Table.{Table}
use Rattle.asa_session_lines.specs.declared.line.Table.TheVariants as table
use Rattle.asa_session_lines.specs.declared.line.ScriptLine.{ScriptLine}
use Rattle.asa_session_lines.specs.declared.line.ScriptLine.TheVariants as line
use Rattle.asa_session_lines.specs.declared.line.ScriptFault.TheVariants.{Syntax, TooManyLanes}
use Rattle.asa_session_lines.specs.Words.{Judged, ◌>>=◌, word_is, number_at}
use Rattle.asa_session_lines.specs.Packets.{of_words, packet_line, traced_line}

-- a lane is one of eight
abbrev pub HasLane : ScriptLine → Type 0
HasLane (line.Lane lane) = (1 ≤ lane) × (lane ≤ 8)
HasLane _ = Unit {0}

-- the lane of a number, or TooManyLanes where it is none of 1 to 8
abbrev pub lane_of : Judged ℕ → Judged ScriptLine
lane_of (Ok lane) = Ok (line.Lane lane)
lane_of (Err _) = Err TooManyLanes

-- `lane K`
unfoldable pub lane_line : List Spelled → Judged ScriptLine
lane_line ws = of_words 2 ws (lane_of (number_at ws 1 1 8))

-- `advance N`
unfoldable pub advance_line : List Spelled → Judged ScriptLine
advance_line ws = of_words 2 ws (number_at ws 1 1 4000000 >>= λ seconds. Ok (line.Advance seconds))

-- the table that a word names
abbrev pub table_at : List Spelled → ℕ → Option Table
table_at ws place =
    if word_is ws place (codes "conn") then Some table.Conn
    else (if word_is ws place (codes "xlate") then Some table.Xlate
    else (if word_is ws place (codes "nat") then Some table.Nat
    else (if word_is ws place (codes "running-config") then Some table.RunningConfig
    else None)))

-- a table is shown
abbrev pub shown : List Spelled → Option Table → Judged ScriptLine
shown ws None = Err Syntax
shown ws (Some t) = of_words 2 ws (Ok (line.Show t))

-- `show TABLE`
unfoldable pub show_line : List Spelled → Judged ScriptLine
show_line ws = shown ws (table_at ws 1)

-- `sync` and `clear conn`
unfoldable pub fixed_line : List Spelled → Judged ScriptLine
fixed_line ws =
    if word_is ws 0 (codes "sync") && (length ws == 1) then Ok line.Sync
    else (if word_is ws 0 (codes "clear") && word_is ws 1 (codes "conn") && (length ws == 2) then Ok line.Clear
    else Err Syntax)

-- a line of the script, by its first word
unfoldable pub script_line : Known → List Spelled → Judged ScriptLine
script_line known ws =
    if word_is ws 0 (codes "packet") then (packet_line known ws >>= λ p. Ok (line.Packet p))
    else (if word_is ws 0 (codes "packet-tracer") then (traced_line known ws >>= λ p. Ok (line.Trace p))
    else (if word_is ws 0 (codes "lane") then lane_line ws
    else (if word_is ws 0 (codes "advance") then advance_line ws
    else (if word_is ws 0 (codes "show") then show_line ws
    else fixed_line ws))))

-- what stands after `>`: nothing, or a space and the text
abbrev pub after_mark : List ℕ → Option (List ℕ)
after_mark [] = Some []
after_mark (b ∷ text) = if b == 32 then Some text else None

-- `> TEXT` states a line of a configuration block; `>` alone states an empty one
abbrev pub edit_text : List ℕ → Option (List ℕ)
edit_text [] = None
edit_text (b ∷ rest) = if b == 62 then after_mark rest else None

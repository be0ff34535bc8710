-- The text of the report, line by line.
use Rattle.std.specs.Prelude.{ℕ, ◌+◌, List, [], ◌∷◌, ◌++◌, length, codes, decimal}
use Rattle.std.specs.List.{flat_map}
use Rattle.asa_ifaces.specs.declared.iface.Iface.{Iface}
use Rattle.asa_session.specs.declared.session.Session.{Session}
use Rattle.asa_core.specs.declared.history.Entry.{Entry}
use Rattle.asa_core.specs.declared.history.Entry.TheVariants as entry
use Rattle.asa_core.specs.declared.history.Answer.{Answer}
use Rattle.asa_core.specs.declared.history.Answer.TheVariants as answer
use Rattle.asa_core.specs.declared.history.Given.{Given}
use Rattle.asa_core.specs.declared.history.PhaseReport.{PhaseReport}
use Rattle.asa_report.specs.Texts.{name_of, header_text, reason_word, reason_detail, decision_text}

-- `LANE.INDEX`
unfoldable pub command_text : ℕ → ℕ → List ℕ
command_text lane index = decimal lane ++ codes "." ++ decimal index

-- an entry without its number
unfoldable pub entry_text : Entry → List ℕ
entry_text (entry.Opened lane index id) = command_text lane index ++ codes " open " ++ decimal id

-- the line of entry number n
unfoldable pub entry_line : ℕ → Entry → List ℕ
entry_line n e = codes "e " ++ decimal n ++ codes " " ++ entry_text e ++ codes "\n"

-- the lines of entries, of which the first has number n
abbrev pub entry_lines : ℕ → List Entry → List ℕ
entry_lines n [] = []
entry_lines n (e ∷ es) = entry_line n e ++ entry_lines (n + 1) es

-- a connection that was opened, and the interface to which it goes
unfoldable pub opened_text : List Iface → ℕ → ℕ → List ℕ
opened_text is id egress = codes "open " ++ decimal id ++ codes " to " ++ name_of is egress

-- what was answered
unfoldable pub answer_text : List Iface → Answer → List ℕ
answer_text is (answer.Opened id egress out policy d) = opened_text is id egress ++ codes " " ++ header_text out ++ decision_text policy d
answer_text is (answer.Dropped reason policy) = codes "drop " ++ reason_word reason ++ codes " policy " ++ decimal policy ++ reason_detail is reason

-- the command of an answer and the length of the prefix of the history at which it holds
unfoldable pub given_head : Given → List ℕ
given_head g = codes "a " ++ command_text g.lane g.index ++ codes " " ++ decimal g.number ++ codes " "

-- the line of an answer
unfoldable pub given_line : List Iface → Given → List ℕ
given_line is g = given_head g ++ answer_text is g.answer ++ codes "\n"

-- the line that begins phase k
unfoldable pub phase_line : ℕ → List ℕ
phase_line k = codes "phase " ++ decimal k ++ codes "\n"

-- the lines of phase k, whose first entry has number n
unfoldable pub phase_text : List Iface → ℕ → ℕ → PhaseReport → List ℕ
phase_text is k n r = phase_line k ++ entry_lines n r.entries ++ flat_map (given_line is) r.given ++ r.table

-- the last line: the number of all entries
unfoldable pub done_line : ℕ → List ℕ
done_line n = codes "done " ++ decimal n ++ codes "\n"

-- the phases from number k on, of which the first entry has number n, then the last line
abbrev pub phases_text : List Iface → ℕ → ℕ → List PhaseReport → List ℕ
phases_text is k n [] = done_line n
phases_text is k n (r ∷ rs) = phase_text is k n r ++ phases_text is (k + 1) (n + length r.entries) rs

-- the first line: how many blocks of the startup part were accepted, and how many were passed over
unfoldable pub startup_line : ℕ → ℕ → List ℕ
startup_line accepted passed = codes "startup " ++ decimal accepted ++ codes " accepted " ++ decimal passed ++ codes " passed\n"

-- the whole report
unfoldable pub text : Session → List PhaseReport → List ℕ
text s rs = startup_line (length s.startup) s.passed ++ phases_text s.config.net.ifaces 1 0 rs

-- The lines of a script, one after another.
use Rattle.std.specs.Prelude.{ℕ, ◌+◌, Bool, not, ◌==◌, List, [], ◌∷◌, Option, Some, None, Result, Ok, Err, if◌then◌else◌}
use Rattle.asa_text.specs.declared.lines.Line.{Line}
use Rattle.asa_text.specs.Lines.{is_kept, is_indented}
use Rattle.asa_text.specs.Words.{words_at}
use Rattle.asa_base.specs.Kinds.{Known}
use Rattle.asa_session_lines.specs.declared.line.ScriptLine.{ScriptLine}
use Rattle.asa_session_lines.specs.declared.line.ScriptFault.{ScriptFault}
use Rattle.asa_session_lines.specs.declared.line.ScriptFault.TheVariants.{Syntax, TooManyLines}
use Rattle.asa_session_lines.specs.Lines.{edit_text, script_line}
use Rattle.asa_script.specs.declared.phase.PhaseText.{PhaseText}
use Rattle.asa_script.specs.declared.phase.ScriptError.{ScriptError}
use Rattle.asa_script.specs.declared.phase.ScriptError.TheVariants.{At}
use Rattle.asa_script.specs.Drafts.{Script, nothing, edit_taken, line_taken, block_ended, finished}

-- go on with what was read so far; a refusal ends the reading
abbrev pub and_then : {X Y : Type 0} → Result X ScriptError → (X → Result Y ScriptError) → Result Y ScriptError
and_then (Ok x) more = more x
and_then (Err why) more = Err why

-- what a line that says something says; an indented one is out of form
abbrev pub said : Known → Line → Result ScriptLine ScriptFault
said known l = if is_indented l then Err Syntax else script_line known (words_at 1 l.text)

-- a line that states no line of a configuration block
abbrev pub other_read : Known → Script → Line → Result Script ScriptError
other_read known s l = if not (is_kept l) then Ok (block_ended s) else line_taken s l.number (said known l)

-- the line of a block that a line states, or another line
abbrev pub of_edit : Known → Script → Line → Option (List ℕ) → Result Script ScriptError
of_edit known s l None = other_read known s l
of_edit known s l (Some text) = edit_taken s (record { number = l.number; text = text })

-- a line of the script
unfoldable pub line_read : Known → Script → Line → Result Script ScriptError
line_read known s l = of_edit known s l (edit_text l.text)

-- the script after one more line, of which n came before: the 262,145th is one too many, where nothing else is wrong
abbrev pub counted : ℕ → Line → Script → Result Script ScriptError
counted n l s = if n == 262144 then Err (At l.number TooManyLines) else Ok s

-- the script after lines, of which n came before
abbrev pub lines_read : Known → ℕ → Script → List Line → Result Script ScriptError
lines_read known n s [] = Ok s
lines_read known n s (l ∷ ls) = and_then (line_read known s l) (λ read. and_then (counted n l read) (λ next. lines_read known (n + 1) next ls))

-- the phases of the lines of a script
abbrev pub script_of_lines : Known → List Line → Result (List PhaseText) ScriptError
script_of_lines known ls = and_then (lines_read known 0 nothing ls) (λ s. Ok (finished s))

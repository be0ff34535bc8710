-- A startup text: a startup part that ends with the line `: end`, after which nothing is said.
use Rattle.std.specs.Prelude.{ℕ, ◌+◌, ◌==◌, List, [], ◌∷◌, Result, Ok, Err, if◌then◌else◌}
use Rattle.asa_text.specs.declared.lines.Line.{Line}
use Rattle.asa_text.specs.Lines.{is_kept, lines_from}
use Rattle.asa_session.specs.declared.session.Session.{Session}
use Rattle.asa_session.specs.declared.session.SessionKind.TheVariants.{TooManyLines}
use Rattle.asa_session.specs.declared.session.SessionError.{SessionError}
use Rattle.asa_session.specs.declared.session.SessionError.TheVariants.{At}
use Rattle.asa_session.specs.Refusals.{and_then, out_of_form}
use Rattle.asa_session.specs.Openings.{opening_of}
use Rattle.asa_session.specs.Sessions.{session_with}

-- lines after `: end`, of which n came before, say nothing: a line that is neither blank nor a comment is out of form, and
-- the 262,145th is one too many
abbrev pub silence : ℕ → List Line → Result (Unit {0}) SessionError
silence n [] = Ok tt
silence n (l ∷ ls) = if is_kept l then out_of_form l.number
    else (if n == 262144 then Err (At l.number TooManyLines)
    else silence (n + 1) ls)

-- the session of lines, which has no phases, or the refusal of the least refused line
unfoldable pub startup_of_lines : List Line → Result Session SessionError
startup_of_lines ls = and_then (opening_of ls) (λ o. and_then (silence 0 o.rest) (λ _. Ok (session_with o.kept o.passed o.config [])))

-- the session of a startup text
abbrev pub startup_of : List ℕ → Result Session SessionError
startup_of t = startup_of_lines (lines_from 1 t)

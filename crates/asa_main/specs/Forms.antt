-- The forms of the command line, what each reads, and what each writes for it.
use Rattle.std.specs.Prelude.{ℕ, List, [], ◌∷◌, codes, Option, Some, None, Result, if◌then◌else◌}
use Rattle.std.specs.Str.{bytes_eq}
use Rattle.asa_session.specs.declared.session.Session.{Session}
use Rattle.asa_session.specs.declared.session.SessionError.{SessionError}
use Rattle.asa_session.specs.Sessions.{session_of}
use Rattle.asa_session.specs.StartupTexts.{startup_of}
use Rattle.asa_core.specs.Serial.{serial}
use Rattle.asa_report.specs.Report.{text}
use Rattle.asa_main.specs.declared.form.Form.{Form}
use Rattle.asa_main.specs.declared.form.Form.TheVariants as form
use Rattle.asa_main.specs.Outputs.{Output}
use Rattle.asa_main.specs.Shadows.{finding_texts}

-- the form that a single word is
abbrev pub form_of_word : List ℕ → Option Form
form_of_word word = if bytes_eq word (codes "run") then Some form.Run else (if bytes_eq word (codes "shadow") then Some form.Shadow else None)

-- the form that the words are
abbrev pub form_of : List (List ℕ) → Option Form
form_of (word ∷ []) = form_of_word word
form_of _ = None

-- the session that a form reads from a text: one with a script, or a startup configuration alone
abbrev pub session_in : Form → List ℕ → Result Session SessionError
session_in form.Run t = session_of t
session_in form.Shadow t = startup_of t

-- the report of the serial run of a session
abbrev pub report_of : Session → List ℕ
report_of s = text s (serial s)

-- what a form writes for a session: the report; or the findings one by one, and a last line
abbrev pub output_of : Form → Session → Output
output_of form.Run s = record { parts = []; last = report_of s }
output_of form.Shadow s = record { parts = finding_texts s.config; last = codes "done\n" }

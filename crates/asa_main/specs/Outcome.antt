-- What a run of the program does, by the form of its words and the status that it ends with.
use Rattle.std.specs.Prelude.{◌≡◌, ℕ, Bool, true, false, ◌≤◌, ◌⊎◌, nat_lt, List, [], length, take, Option, Some, None, IfSome, Result, Ok, Err, if◌then◌else◌}
use Rattle.std.specs.Io.KnownBytes.{Appends}
use Rattle.asa_io.specs.Faults.{Rose}
use Rattle.asa_io.specs.Told.{Exceeds}
use Rattle.asa_session.specs.declared.session.Session.{Session}
use Rattle.asa_session.specs.declared.session.SessionError.{SessionError}
use Rattle.asa_session.specs.declared.session.SessionError.TheVariants.{At, NoMemory}
use Rattle.asa_main.specs.declared.form.Form.{Form}
use Rattle.asa_main.specs.declared.form.Form.TheVariants as form
use Rattle.asa_main.specs.declared.statuses.Reason.{Reason}
use Rattle.asa_main.specs.declared.statuses.Reason.TheVariants as reason
use Rattle.asa_main.specs.declared.statuses.Status.{Status}
use Rattle.asa_main.specs.declared.statuses.Status.TheVariants as status
use Rattle.asa_main.specs.Outputs.{Output, joined, whole}
use Rattle.asa_main.specs.Forms.{session_in, output_of}

-- how many bytes an input may have
abbrev pub session_limit : ℕ
session_limit = 16777216

-- why an input is refused: a line, or 0 where the whole is too long
pub record Refusal : Type 0 where
  pub line : ℕ
  pub reason : Reason

-- the session of an input, or why it is refused; no session is ever judged to lack memory
unfoldable pub judged : Form → List ℕ → Result Session Refusal
judged f t = if nat_lt session_limit (length t) then Err (record { line = 0; reason = reason.TooLong }) else of_session (session_in f t)
  where
    of_session : Result Session SessionError → Result Session Refusal
    of_session (Ok s) = Ok s
    of_session (Err (At line kind)) = Err (record { line = line; reason = reason.Session kind })
    of_session (Err NoMemory) = Err (record { line = 0; reason = reason.TooLong })

-- the input is accepted, and this holds of what the form writes for it
abbrev pub IsAccepted : Form → List ℕ → (Output → Type 0) → Type 0
IsAccepted f t P = (s : Session) × (judged f t ≡ Ok s) × P (output_of f s)

-- nothing was given, or some of the parts of what the form writes, each of them whole
abbrev pub GivesParts : Form → List ℕ → Option (List ℕ) → Option (List ℕ) → Type 0
GivesParts f t given given' = (given' ≡ given) ⊎ IsAccepted f t (λ o. (n : ℕ) × Appends given given' (joined (take n o.parts)))

-- what a run answers to an input that was read whole, by the bytes given before and after and the faults of the output
abbrev pub Answers : Form → List ℕ → Option (List ℕ) → Option (List ℕ) → ℕ → ℕ → Status → Type 0
Answers f t given given' faults faults' status.Done = IsAccepted f t (λ o. Appends given given' (whole o))
Answers f t given given' faults faults' (status.Refused line why) = (given' ≡ given) × (judged f t ≡ Err (record { line = line; reason = why }))
Answers f t given given' faults faults' status.Usage = ⊥
Answers f t given given' faults faults' status.ReadFault = ⊥
Answers f t given given' faults faults' (status.WriteFault written) =
    Rose faults faults' × IsAccepted f t (λ o. (written ≤ length (whole o)) × Appends given given' (take written (whole o)))
Answers f t given given' faults faults' status.Memory = GivesParts f t given given'

-- what a function that judges an input answers
abbrev pub Judges : Result Session Status → Result Session Refusal → Type 0
Judges (Ok s) r = r ≡ Ok s
Judges (Err (status.Refused line why)) r = r ≡ Err (record { line = line; reason = why })
Judges (Err status.Memory) r = Unit {0}
Judges (Err _) r = ⊥

-- what a run answers to an input that couldn't be read whole, by its bytes and its faults before and after
abbrev pub Unread : Option (List ℕ) → Option (List ℕ) → ℕ → ℕ → Status → Type 0
Unread left left' faults faults' (status.Refused line why) = (line ≡ 0) × (why ≡ reason.TooLong) × Exceeds session_limit left left'
Unread left left' faults faults' status.ReadFault = Rose faults faults'
Unread left left' faults faults' status.Memory = Unit {0}
Unread left left' faults faults' _ = ⊥

-- a run of this form that ends so may have asked its output for something
abbrev pub may_have_written : Option Form → Status → Bool
may_have_written f status.Done = true
may_have_written f (status.WriteFault _) = true
may_have_written (Some form.Shadow) status.Memory = true
may_have_written f _ = false

-- the input and the output of a run: the bytes still to come and the bytes given, where they are told, and the
-- numbers of faults
pub record Ends : Type 0 where
  pub left : Option (List ℕ)
  pub given : Option (List ℕ)
  pub read_faults : ℕ
  pub write_faults : ℕ

-- What each status says of a run of this form. A source or a sink that doesn't tell its bytes leaves what is said of them
-- out. Done: the input was read to its end, and the output was given what the form writes for it and nothing else.
-- Refused: exactly so is the input refused, and nothing was given. ReadFault and WriteFault come only where faults rose;
-- after ReadFault nothing was given, after WriteFault just the stated number of the first bytes. After Memory nothing was
-- given, or whole parts.
abbrev pub Ran : Form → Ends → Ends → Status → Type 0
Ran f old new status.Done = IfSome old.left (λ t. (new.left ≡ Some []) × IsAccepted f t (λ o. Appends old.given new.given (whole o)))
Ran f old new (status.Refused line why) = (new.given ≡ old.given) × IfSome old.left (λ t. judged f t ≡ Err (record { line = line; reason = why }))
Ran f old new status.Usage = ⊥
Ran f old new status.ReadFault = (new.given ≡ old.given) × Rose old.read_faults new.read_faults
Ran f old new (status.WriteFault written) =
    Rose old.write_faults new.write_faults × IfSome old.left (λ t. (new.left ≡ Some [])
    × IsAccepted f t (λ o. (written ≤ length (whole o)) × Appends old.given new.given (take written (whole o))))
Ran f old new status.Memory = IfSome old.left (λ t. GivesParts f t old.given new.given)

-- What each status says of a run of the program. Usage: the words are no form, and nothing was read or given.
abbrev pub Says : Option Form → Ends → Ends → Status → Type 0
Says None old new s = (s ≡ status.Usage) × (new.left ≡ old.left) × (new.given ≡ old.given)
Says (Some f) old new s = Ran f old new s

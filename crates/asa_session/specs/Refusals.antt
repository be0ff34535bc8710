-- How a part of a session is judged: accepted with what it means, or refused at a line of the text.
use Rattle.std.specs.Prelude.{◌≡◌, ℕ, Result, Ok, Err}
use Rattle.asa_session.specs.declared.session.SessionKind.TheVariants as kind
use Rattle.asa_session.specs.declared.session.SessionError.{SessionError}
use Rattle.asa_session.specs.declared.session.SessionError.TheVariants.{At, NoMemory}

-- go on with what was accepted; a refusal ends the reading
abbrev pub and_then : {X Y : Type 0} → Result X SessionError → (X → Result Y SessionError) → Result Y SessionError
and_then (Ok x) more = more x
and_then (Err why) more = Err why

-- a line that has none of the forms of its place
abbrev pub out_of_form : {X : Type 0} → ℕ → Result X SessionError
out_of_form line = Err (At line kind.Syntax)

-- a script line that isn't built
abbrev pub unbuilt_script : {X : Type 0} → ℕ → Result X SessionError
unbuilt_script line = Err (At line kind.NotBuilt)

-- an answer is what the definition says, unless memory ran out
abbrev pub Judged : {X : Type 0} → Result X SessionError → Result X SessionError → Type 0
Judged (Ok x) d = d ≡ Ok x
Judged (Err (At line why)) d = d ≡ Err (At line why)
Judged (Err NoMemory) d = Unit {0}

-- the same of a call that leaves its answer in what it changes
abbrev pub Leaves : {X : Type 0} → Result (Unit {0}) SessionError → X → Result X SessionError → Type 0
Leaves (Ok _) new d = d ≡ Ok new
Leaves (Err (At line why)) new d = d ≡ Err (At line why)
Leaves (Err NoMemory) new d = Unit {0}

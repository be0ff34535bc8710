-- From what is known of the parts of a run to what is said of the whole.
use Rattle.std.proofs.Common.{◌≡◌, ℕ, List, [], length, Option, None, Some, Ok, Err, true, false, refl, subst, lt-ltb, inl, inr}
use Rattle.std.specs.Option.{IfSome}
use Rattle.asa_io.specs.Told.{TakesAll, Exceeds}
use Rattle.asa_session.specs.declared.session.Session.{Session}
use Rattle.asa_main.specs.declared.form.Form.{Form}
use Rattle.asa_main.specs.declared.form.Form.TheVariants as form
use Rattle.asa_main.specs.declared.statuses.Reason.TheVariants as reason
use Rattle.asa_main.specs.declared.statuses.Status.{Status}
use Rattle.asa_main.specs.declared.statuses.Status.TheVariants as status
use Rattle.asa_main.specs.Forms.{output_of}
use Rattle.asa_main.specs.Outputs.{Output, Writes}
use Rattle.asa_main.specs.Outcome.{Answers, Ends, Judges, Ran, Unread, judged, may_have_written, session_limit}

abbrev ends_of : Option (List ℕ) → Option (List ℕ) → ℕ → ℕ → Ends
ends_of left given reads writes = record { left = left; given = given; read_faults = reads; write_faults = writes }

-- an input that was read whole, and what was answered to it
pub whole_run : (f : Form) (left left' given given' : Option (List ℕ)) (reads reads' writes writes' : ℕ) (t : List ℕ) (s : Status) →
    TakesAll left left' t → Answers f t given given' writes writes' s → Ran f (ends_of left given reads writes) (ends_of left' given' reads' writes') s
whole_run f None left' given given' reads reads' writes writes' t status.Done taken answered = tt
whole_run f None left' given given' reads reads' writes writes' t (status.Refused line why) taken answered = (answered.0, tt)
whole_run f None left' given given' reads reads' writes writes' t status.Usage taken answered = absurd answered
whole_run f None left' given given' reads reads' writes writes' t status.ReadFault taken answered = absurd answered
whole_run f None left' given given' reads reads' writes writes' t (status.WriteFault written) taken answered = (answered.0, tt)
whole_run f None left' given given' reads reads' writes writes' t status.Memory taken answered = tt
whole_run f (Some bytes) left' given given' reads reads' writes writes' t s taken answered =
    told f left' given given' reads reads' writes writes' bytes s taken.1
    (subst (λ (u : List ℕ). Answers f u given given' writes writes' s) taken.0 answered)
  where
    told : (f : Form) (left' given given' : Option (List ℕ)) (reads reads' writes writes' : ℕ) (bytes : List ℕ) (s : Status) →
        left' ≡ Some [] → Answers f bytes given given' writes writes' s →
        Ran f (ends_of (Some bytes) given reads writes) (ends_of left' given' reads' writes') s
    told f left' given given' reads reads' writes writes' bytes status.Done end answered = (end, answered)
    told f left' given given' reads reads' writes writes' bytes (status.Refused line why) end answered = answered
    told f left' given given' reads reads' writes writes' bytes status.Usage end answered = absurd answered
    told f left' given given' reads reads' writes writes' bytes status.ReadFault end answered = absurd answered
    told f left' given given' reads reads' writes writes' bytes (status.WriteFault written) end answered = (answered.0, (end, answered.1))
    told f left' given given' reads reads' writes writes' bytes status.Memory end answered = answered

-- an input of more bytes than the limit is refused as a whole
too_long_refused : (f : Form) (left left' : Option (List ℕ)) → Exceeds session_limit left left' →
    IfSome left (λ t. judged f t ≡ Err (record { line = 0; reason = reason.TooLong }))
unfolding judged
too_long_refused f None left' exceeds = tt
too_long_refused f (Some bytes) left' exceeds = rw (lt-ltb session_limit (length bytes) exceeds.0) refl

nothing_given : (f : Form) (left left' given : Option (List ℕ)) (reads reads' writes : ℕ) → Ran f (ends_of left given reads writes) (ends_of left' given reads' writes) status.Memory
nothing_given f None left' given reads reads' writes = tt
nothing_given f (Some bytes) left' given reads reads' writes = inl refl

-- an input that couldn't be read whole
pub unread_run : (f : Form) (left left' given : Option (List ℕ)) (reads reads' writes : ℕ) (s : Status) →
    Unread left left' reads reads' s → Ran f (ends_of left given reads writes) (ends_of left' given reads' writes) s
unread_run f left left' given reads reads' writes status.Done unread = absurd unread
unread_run f left left' given reads reads' writes (status.Refused line why) unread =
    rw (unread.0, unread.1) (refl, too_long_refused f left left' unread.2)
unread_run f left left' given reads reads' writes status.Usage unread = absurd unread
unread_run f left left' given reads reads' writes status.ReadFault unread = (refl, unread)
unread_run f left left' given reads reads' writes (status.WriteFault written) unread = absurd unread
unread_run f left left' given reads reads' writes status.Memory unread = nothing_given f left left' given reads reads' writes

-- an accepted input, and how the writing for it ended
pub written_run : (f : Form) (given given' : Option (List ℕ)) (writes writes' : ℕ) (t : List ℕ) (session : Session) (s : Status) →
    judged f t ≡ Ok session → Writes (output_of f session) given given' writes writes' s → Answers f t given given' writes writes' s
written_run f given given' writes writes' t session status.Done accepted wrote = (session, accepted, wrote)
written_run f given given' writes writes' t session (status.Refused line why) accepted wrote = absurd wrote
written_run f given given' writes writes' t session status.Usage accepted wrote = absurd wrote
written_run f given given' writes writes' t session status.ReadFault accepted wrote = absurd wrote
written_run f given given' writes writes' t session (status.WriteFault written) accepted wrote = (wrote.0, (session, accepted, (wrote.1, wrote.2)))
written_run f given given' writes writes' t session status.Memory accepted wrote = inr (session, accepted, wrote)

-- an input that is refused, or for which there was no memory: nothing was given
pub refused_run : (f : Form) (given : Option (List ℕ)) (writes : ℕ) (t : List ℕ) (s : Status) →
    Judges (Err s) (judged f t) → Answers f t given given writes writes s
refused_run f given writes t status.Done refused = absurd refused
refused_run f given writes t (status.Refused line why) refused = (refl, refused)
refused_run f given writes t status.Usage refused = absurd refused
refused_run f given writes t status.ReadFault refused = absurd refused
refused_run f given writes t (status.WriteFault written) refused = absurd refused
refused_run f given writes t status.Memory refused = inl refl

-- a run of a form doesn't end with Usage
pub no_usage : (f : Form) (old new : Ends) (s : Status) → Ran f old new s → s ≡ status.Usage → ⊥
no_usage f old new status.Done ran same = absurd (cc)
no_usage f old new (status.Refused line why) ran same = absurd (cc)
no_usage f old new status.Usage ran same = absurd ran
no_usage f old new status.ReadFault ran same = absurd (cc)
no_usage f old new (status.WriteFault written) ran same = absurd (cc)
no_usage f old new status.Memory ran same = absurd (cc)

-- the findings were begun, or all that a run of `shadow` that writes may end with
pub begun : (o : Output) (given given' : Option (List ℕ)) (writes writes' : ℕ) (s : Status) → Writes o given given' writes writes' s →
    may_have_written (Some form.Shadow) s ≡ true
begun o given given' writes writes' status.Done wrote = refl
begun o given given' writes writes' (status.Refused line why) wrote = absurd wrote
begun o given given' writes writes' status.Usage wrote = absurd wrote
begun o given given' writes writes' status.ReadFault wrote = absurd wrote
begun o given given' writes writes' (status.WriteFault written) wrote = refl
begun o given given' writes writes' status.Memory wrote = refl

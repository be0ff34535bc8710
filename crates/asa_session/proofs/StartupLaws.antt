-- The configuration of accepted startup blocks.
use Rattle.std.proofs.Common.{◌≡◌, ℕ, ◌+◌, ◌≤◌, Bool, true, false, ◌==◌, if◌then◌else◌, List, [], ◌∷◌, length, map, Result, Ok, Err, refl, ap, ◌∙◌, arith}
use Rattle.std.specs.List.{fold}
use Rattle.std.proofs.lemmas.Bool.Decides.{nat_tests}
use Rattle.asa_text.specs.declared.blocks.Block.{Block}
use Rattle.asa_config_edit.specs.declared.fault.EditRefusal.{EditRefusal}
use Rattle.asa_config_edit.specs.declared.fault.EditRefusal.TheVariants as refusal
use Rattle.asa_config.specs.Settings.{Settings}
use Rattle.asa_config.specs.Steps.{step, startup_edit, after_edit}
use Rattle.asa_session.specs.declared.session.SessionError.{SessionError}
use Rattle.asa_session.specs.Refusals.{and_then}
use Rattle.asa_session.specs.Startup.{in_text, startup_step, startup_config}

-- what was gone on with
pub and_then_ok : {X Y : Type 0} (r : Result X SessionError) (f : X → Result Y SessionError) (y : Y) → and_then r f ≡ Ok y → (x : X) × (r ≡ Ok x) × (f x ≡ Ok y)
and_then_ok (Ok x) f y e = (x, refl, e)
and_then_ok (Err why) f y e = absurd (cc)

-- what is accepted after a test that refuses
pub passed_test : {X : Type 0} (b : Bool) (why : SessionError) (r : Result X SessionError) (x : X) → (if b then Err why else r) ≡ Ok x → (b ≡ false) × (r ≡ Ok x)
passed_test true why r x e = absurd (cc)
passed_test false why r x e = (refl, e)

in_text_ok : (b : Block) (r : Result Settings EditRefusal) (next : Settings) → in_text b r ≡ Ok next → r ≡ Ok next
in_text_ok b (Ok c) next e = let same : c ≡ next = cc in ap Ok same
in_text_ok b (Err (refusal.At n why)) next e = absurd (cc)
in_text_ok b (Err refusal.NoMemory) next e = absurd (cc)

-- the configuration after an accepted block is the step's
step_ok : (c : Settings) (b : Block) (next : Settings) → startup_step c b ≡ Ok next → step c b true ≡ Ok next
unfolding startup_step
step_ok c b next e = in_text_ok b (step c b true) next e

after_ok : (c : Settings) (b : Block) (next : Settings) → step c b true ≡ Ok next → after_edit c (startup_edit b) ≡ next
after_ok c b next e = rw e refl

-- the configuration of accepted blocks is their fold
pub startup_ok : (c : Settings) (bs : List Block) (d : Settings) → startup_config c bs ≡ Ok d → fold after_edit c (map startup_edit bs) ≡ d
startup_ok c [] d e = let same : c ≡ d = cc in same
startup_ok c (b ∷ bs) d e =
    let w = and_then_ok (startup_step c b) (λ next. startup_config next bs) d e in
    ap (λ x. fold after_edit x (map startup_edit bs)) (after_ok c b w.0 (step_ok c b w.0 w.1)) ∙ startup_ok w.0 bs d w.2

-- What holds of the opening of a text.
use Rattle.std.proofs.Common.{◌≡◌, ℕ, Bool, true, List, [], length, map, Option, Some, None, is_some, unwrap_or, Ok, refl, sym, ap, ◌∙◌}
use Rattle.std.specs.List.{fold}
use Rattle.asa_text.specs.declared.lines.Line.{Line}
use Rattle.asa_text.specs.declared.blocks.Block.{Block}
use Rattle.asa_text.specs.Blocks.{blocks_of}
use Rattle.asa_text.specs.Lines.{before_end, after_end}
use Rattle.asa_config.specs.Settings.{Settings, nothing}
use Rattle.asa_config.specs.Steps.{startup_edit, after_edit}
use Rattle.asa_session.specs.Refusals.{and_then}
use Rattle.asa_session.specs.Startup.{kept_of, passed_count, startup_config}
use Rattle.asa_session.specs.Openings.{OpenedText, opened_text, startup_blocks, opened, opening_of}
use Rattle.asa_session.proofs.StartupLaws.{and_then_ok, startup_ok}

opened_ok : (count : ℕ) (bs : List Block) (rest : Option (List Line)) (c : Settings) (o : OpenedText) → opened count bs rest c ≡ Ok o
    → (kept_of bs ≡ o.kept) × (c ≡ o.config)
opened_ok count bs None c o e = absurd (cc)
opened_ok count bs (Some rest) c o e =
    let same : opened_text (kept_of bs) (passed_count bs) c rest ≡ o = cc in
    (ap (λ x. x.kept) same, ap (λ x. x.config) same)

-- the configuration of an opening is the fold of its blocks
pub opening_configured : (ls : List Line) (o : OpenedText) → opening_of ls ≡ Ok o → fold after_edit nothing (map startup_edit o.kept) ≡ o.config
unfolding opening_of
opening_configured ls o e =
    let b = and_then_ok (startup_blocks (blocks_of (before_end ls))) (λ bs. and_then (startup_config nothing (kept_of bs)) (opened (length ls) bs (after_end ls))) o e in
    let c = and_then_ok (startup_config nothing (kept_of b.0)) (opened (length ls) b.0 (after_end ls)) o b.2 in
    let w = opened_ok (length ls) b.0 (after_end ls) c.0 o c.2 in
    ap (λ bs. fold after_edit nothing (map startup_edit bs)) (sym w.0) ∙ startup_ok nothing (kept_of b.0) c.0 c.1 ∙ w.1

-- the lines after `: end`, where it is there
pub ended_some : (o : Option (List Line)) (ended : Bool) (left : List Line) → ended ≡ is_some o → ended ≡ true → left ≡ unwrap_or o [] → o ≡ Some left
ended_some (Some lines) ended left there is told = ap Some (sym told)
ended_some None ended left there is told = absurd (cc)

-- the opening of lines whose parts are read
pub opening_read : (ls : List Line) (bs kept : List Block) (n : ℕ) (c : Settings) (rest : List Line) → startup_blocks (blocks_of (before_end ls)) ≡ Ok bs
    → kept ≡ kept_of bs → n ≡ passed_count bs → startup_config nothing (kept_of bs) ≡ Ok c → after_end ls ≡ Some rest → opening_of ls ≡ Ok (opened_text kept n c rest)
unfolding opening_of
opening_read ls bs kept n c rest blocks is_kept is_passed configured ended =
    ap (λ b. and_then b (λ given. and_then (startup_config nothing (kept_of given)) (opened (length ls) given (after_end ls)))) blocks
    ∙ ap (λ s. and_then s (opened (length ls) bs (after_end ls))) configured
    ∙ ap (λ o. opened (length ls) bs o c) ended
    ∙ ap (λ k. Ok (opened_text k (passed_count bs) c rest)) (sym is_kept)
    ∙ ap (λ k. Ok (opened_text kept k c rest)) (sym is_passed)

-- Lines with different fingerprints differ.
use Rattle.std.proofs.Common.{◌≡◌, ℕ, Bool, true, false, ◌==◌, refl, sym, ap, ◌∙◌}
use Rattle.std.proofs.lemmas.Bool.Decides.{Decides-eqb}
use Rattle.asa_acl_line.specs.declared.ace.AclLine.{AclLine}
use Rattle.asa_acl_line.specs.Lines.{line_eq}
use Rattle.asa_acl_line.proofs.LineLaws.{line_tells}
use Rattle.asa_acl.specs.Fingerprints.{mark_of}

-- different fingerprints answer as the test of equality does
pub marks_differ : (item held : AclLine) (own mark : ℕ) → own ≡ mark_of held → mark ≡ mark_of item → (own ≡ mark → ⊥) → (own == mark) ≡ line_eq item held
marks_differ item held own mark is_own is_mark differ = tests_differ (own == mark) refl ∙ sym (lines_differ (line_eq item held) refl)
  where
    tests_differ : (b : Bool) → (own == mark) ≡ b → b ≡ false
    tests_differ true same = absurd (differ ((Decides-eqb own mark).0 same))
    tests_differ false _ = refl

    lines_differ : (b : Bool) → line_eq item held ≡ b → b ≡ false
    lines_differ true same = absurd (differ (is_own ∙ ap mark_of (sym (line_tells item held same)) ∙ sym is_mark))
    lines_differ false _ = refl

-- Texts are equal or not, as their bytes are.
use Rattle.std.proofs.Common.{◌≡◌, ℕ, Bool, true, false, List, refl, ap}
use Rattle.std.specs.Str.{bytes_eq}
use Rattle.std.proofs.lemmas.Slice.Eq.{bytes_eq-Decides}

-- a text is itself
pub bytes_same : (bs : List ℕ) → bytes_eq bs bs ≡ true
bytes_same bs = (bytes_eq-Decides bs bs).1 refl

not_so : (b : Bool) → (b ≡ true → ⊥) → b ≡ false
not_so true h = absurd (h refl)
not_so false h = refl

-- two texts that aren't one
pub differs : (v w : List ℕ) → (v ≡ w → ⊥) → bytes_eq v w ≡ false
differs v w h = not_so (bytes_eq v w) (λ same. h ((bytes_eq-Decides v w).0 same))

-- two texts of which a test finds one alone
pub told_apart : (test : List ℕ → Bool) (v w : List ℕ) → test v ≡ true → test w ≡ false → bytes_eq v w ≡ false
told_apart test v w here there = differs v w (λ e. apart (test v) (test w) here there (ap test e))
  where
    apart : (a b : Bool) → a ≡ true → b ≡ false → a ≡ b → ⊥
    apart a b x y e = cc

-- A cursor that has passed the first words of a line stands at the word of that place.
use Rattle.std.proofs.Common.{◌≡◌, ℕ, zero, suc, ◌+◌, add-one, List, [], ◌∷◌, drop, refl}
use Rattle.std.specs.List.{slice_get}
use Rattle.asa_text.specs.Words.{Spelled, Left}
use Rattle.asa_text.specs.Readers.{next_word, after_one}

-- what is left of a line after its first k words
abbrev left_after : ℕ → List Spelled → ℕ → Left
left_after k ws e = record { words = drop k ws; end = e }

first_of : (k : ℕ) (ws : List Spelled) (e : ℕ) → next_word (left_after k ws e) ≡ slice_get ws k
first_of zero [] e = refl
first_of zero (w ∷ ws) e = refl
first_of (suc k) [] e = refl
first_of (suc k) (w ∷ ws) e = first_of k ws e

rest_of : (k : ℕ) (ws : List Spelled) (e : ℕ) → (after_one (left_after k ws e)).words ≡ drop (suc k) ws
rest_of zero [] e = refl
rest_of zero (w ∷ ws) e = refl
rest_of (suc k) [] e = refl
rest_of (suc k) (w ∷ ws) e = rest_of k ws e

pub word_there : (left : Left) (k : ℕ) (ws : List Spelled) → left.words ≡ drop k ws → next_word left ≡ slice_get ws k
word_there left k ws at = rw (at, first_of k ws left.end)

pub rest_there : (left : Left) (k : ℕ) (ws : List Spelled) → left.words ≡ drop k ws → (after_one left).words ≡ drop (k + 1) ws
rest_there left k ws at = rw (at, rest_of k ws left.end, add-one k)

-- The runs of a word, one cut after another.
use Rattle.std.proofs.Common.{◌≡◌, ◌==◌, ℕ, ◌+◌, ◌<◌, ◌≤◌, false, List, [], ◌∷◌, length, take, drop, arith}
use Rattle.std.specs.List.{position_or_len}
use Rattle.std.proofs.lemmas.List.Splits.{slice_split_first, slice_split_none}
use Rattle.std.proofs.lemmas.List.Sums.{fails_before_first}
use Rattle.std.proofs.lemmas.List.Elements.{All-from_get_or}
use Rattle.asa_text.specs.Runs.{runs_between}

-- a word with such a byte: its first run, and the runs of what follows
pub runs_first : (stop : ℕ) (word : List ℕ) → position_or_len (λ b. b == stop) word < length word
    → runs_between stop word ≡ take (position_or_len (λ b. b == stop) word) word ∷ runs_between stop (drop (position_or_len (λ b. b == stop) word + 1) word)
runs_first stop word h = slice_split_first (λ b. b == stop) word 0 h

-- a word without one is its only run
pub runs_last : (stop : ℕ) (word : List ℕ) → length word ≤ position_or_len (λ b. b == stop) word → runs_between stop word ≡ word ∷ []
runs_last stop word h =
    slice_split_none (λ b. b == stop) word (All-from_get_or (λ b. (b == stop) ≡ false) word 0 (λ i l. fails_before_first (λ b. b == stop) word i 0 (omega arith)))

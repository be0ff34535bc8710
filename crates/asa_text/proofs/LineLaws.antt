-- The lines of a text, one cut after another.
use Rattle.std.proofs.Common.{◌≡◌, false, ◌==◌, ℕ, ◌+◌, ◌<◌, ◌≤◌, List, [], ◌∷◌, length, take, drop, refl, ap, ◌∙◌, arith}
use Rattle.std.specs.List.{slice_split, position_or_len, before_first, after_first}
use Rattle.std.specs.Str.Lines.{lines, lines_of_parts, strip_carriage_return}
use Rattle.std.proofs.lemmas.List.Splits.{slice_split_first, slice_split_none, length-slice_split}
use Rattle.std.proofs.lemmas.List.Sums.{fails_before_first}
use Rattle.std.proofs.lemmas.List.Elements.{All-from_get_or}
use Rattle.std.proofs.lemmas.Bool.Decides.{nat_tests}
use Rattle.asa_text.specs.Lines.{lines_from, numbered, trimmed}

parts_more : (x : List ℕ) (parts : List (List ℕ)) → 0 < length parts → lines_of_parts (x ∷ parts) ≡ strip_carriage_return x ∷ lines_of_parts parts
parts_more x [] h = absurd (omega arith)
parts_more x (y ∷ more) h = refl

-- a text with a line feed: the first line, and the lines of what follows
pub lines_cut : (bs : List ℕ) → position_or_len (λ b. b == 10) bs < length bs
    → lines bs ≡ strip_carriage_return (take (position_or_len (λ b. b == 10) bs) bs) ∷ lines (drop (position_or_len (λ b. b == 10) bs + 1) bs)
lines_cut bs h =
    let p = λ (b : ℕ). b == 10 in
    ap lines_of_parts (slice_split_first p bs 0 h)
    ∙ parts_more (before_first p bs) (slice_split p (after_first p bs)) (omega (arith, length-slice_split p (after_first p bs)))

one_part : (bs : List ℕ) → 0 < length bs → lines_of_parts (bs ∷ []) ≡ bs ∷ []
one_part bs some = grind (arith, nat_tests)

-- a text without a line feed: it is one line
pub lines_all : (bs : List ℕ) → 0 < length bs → length bs ≤ position_or_len (λ b. b == 10) bs → lines bs ≡ bs ∷ []
lines_all bs some h =
    ap lines_of_parts (slice_split_none (λ b. b == 10) bs (All-from_get_or (λ b. (b == 10) ≡ false) bs 0 (λ i l. fails_before_first (λ b. b == 10) bs i 0 (omega arith))))
    ∙ one_part bs some

-- the lines of a text whose first line is x, before those of the rest
pub lines_next : (n : ℕ) (bs x rest : List ℕ) → lines bs ≡ x ∷ lines rest
    → lines_from n bs ≡ record { number = n; text = trimmed x } ∷ lines_from (n + 1) rest
unfolding lines_from
lines_next n bs x rest e = ap (numbered n) e

-- a text without a byte has no line
pub lines_none : (n : ℕ) (bs : List ℕ) → length bs ≡ 0 → lines_from n bs ≡ []
unfolding lines_from
lines_none n [] h = refl
lines_none n (b ∷ bs) h = absurd (omega arith)

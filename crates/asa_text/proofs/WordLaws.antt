-- The words of a line, one cut after another.
use Rattle.std.proofs.Common.{◌≡◌, ℕ, ◌+◌, ◌<◌, ◌≤◌, Bool, true, false, not, List, [], ◌∷◌, length, take, drop, get_or, refl, sym, ap, ◌∙◌, arith, ⊎_elim}
use Rattle.std.specs.List.{slice_split, position_or_len, prefix_len}
use Rattle.std.proofs.lemmas.List.{drop_more, drop_all, length-take-le, take_all}
use Rattle.std.proofs.lemmas.List.Splits.{slice_split_first, slice_split_none, slice_split-cons_yes}
use Rattle.std.proofs.lemmas.List.Sums.{fails_before_first, passes_at_first, prefix_len_stops, prefix_len-le-length}
use Rattle.std.proofs.lemmas.List.Elements.{All-from_get_or}
use Rattle.std.proofs.lemmas.Bool.{cases_lt}
use Rattle.std.proofs.lemmas.Bool.Decides.{nat_tests}
use Rattle.asa_text.specs.Lines.{is_blank}
use Rattle.asa_text.specs.Words.{Spelled, placed, words_at}

no_words : (n : ℕ) → words_at n [] ≡ []
unfolding words_at
no_words n = refl

-- a blank in front only moves the column
blank_first : (n b : ℕ) (bs : List ℕ) → is_blank b ≡ true → words_at n (b ∷ bs) ≡ words_at (n + 1) bs
unfolding words_at
blank_first n b bs h = ap (placed n) (slice_split-cons_yes is_blank b bs h)

one_further : (n b m : ℕ) (bs : List ℕ) → words_at (n + 1 + m) (drop m bs) ≡ words_at (n + (1 + m)) (drop (1 + m) (b ∷ bs))
one_further n b m bs =
    let e : 1 + m ≡ Prim.Native.Nat.suc m = omega arith in
    rw e (ap (λ k. words_at k (drop m bs)) (omega arith))

skip_more : (n b : ℕ) (bs : List ℕ) (t : Bool) → is_blank b ≡ t
    → words_at (n + 1) bs ≡ words_at (n + 1 + prefix_len is_blank bs) (drop (prefix_len is_blank bs) bs)
    → words_at n (b ∷ bs) ≡ words_at (n + prefix_len is_blank (b ∷ bs)) (drop (prefix_len is_blank (b ∷ bs)) (b ∷ bs))
skip_more n b bs true h more = rw h (blank_first n b bs h ∙ more ∙ one_further n b (prefix_len is_blank bs) bs)
skip_more n b bs false h more = rw h (ap (λ m. words_at m (b ∷ bs)) (omega arith))

-- blanks in front only move the column
words_skip : (n : ℕ) (bs : List ℕ) → words_at n bs ≡ words_at (n + prefix_len is_blank bs) (drop (prefix_len is_blank bs) bs)
words_skip n [] = ap (λ m. words_at m []) (omega arith)
words_skip n (b ∷ bs) = skip_more n b bs (is_blank b) refl (words_skip (n + 1) bs)

-- a piece that isn't empty is a word
placed_word : (n : ℕ) (piece : List ℕ) (more : List (List ℕ)) → 0 < length piece
    → placed n (piece ∷ more) ≡ record { column = n; word = piece } ∷ placed (n + length piece + 1) more
placed_word n piece more some = grind (arith, nat_tests)

-- a word, and a blank after it
word_and_blank : (n : ℕ) (bs : List ℕ) → 0 < position_or_len is_blank bs → position_or_len is_blank bs < length bs
    → words_at n bs ≡ record { column = n; word = take (position_or_len is_blank bs) bs } ∷ words_at (n + position_or_len is_blank bs) (drop (position_or_len is_blank bs) bs)
unfolding words_at
word_and_blank n bs some h =
    let m = position_or_len is_blank bs in
    let w : Spelled = record { column = n; word = take m bs } in
    let long = length-take-le m bs (omega arith) in
    let tail : words_at (n + m) (drop m bs) ≡ words_at (n + m + 1) (drop (m + 1) bs) =
    ap (words_at (n + m)) (drop_more bs m 0 h) ∙ blank_first (n + m) (get_or bs m 0) (drop (m + 1) bs) (passes_at_first is_blank bs 0 h) in
    ap (placed n) (slice_split_first is_blank bs 0 h)
    ∙ placed_word n (take m bs) (slice_split is_blank (drop (m + 1) bs)) (omega (arith, long))
    ∙ ap (λ k. w ∷ words_at (n + k + 1) (drop (m + 1) bs)) long
    ∙ ap (λ ws. w ∷ ws) (sym tail)

-- a word that ends the text
word_alone : (n : ℕ) (bs : List ℕ) → 0 < position_or_len is_blank bs → length bs ≤ position_or_len is_blank bs
    → words_at n bs ≡ record { column = n; word = take (position_or_len is_blank bs) bs } ∷ words_at (n + position_or_len is_blank bs) (drop (position_or_len is_blank bs) bs)
unfolding words_at
word_alone n bs some h =
    let m = position_or_len is_blank bs in
    rw (take_all m bs h, drop_all m bs h)
    (ap (placed n) (slice_split_none is_blank bs (All-from_get_or (λ b. is_blank b ≡ false) bs 0 (λ i l. fails_before_first is_blank bs i 0 (omega arith))))
    ∙ placed_word n bs [] (omega (arith, prefix_len-le-length (λ b. not (is_blank b)) bs)))

-- a text that begins with a word
words_word : (n : ℕ) (bs : List ℕ) → 0 < position_or_len is_blank bs
    → words_at n bs ≡ record { column = n; word = take (position_or_len is_blank bs) bs } ∷ words_at (n + position_or_len is_blank bs) (drop (position_or_len is_blank bs) bs)
words_word n bs some = ⊎_elim (word_and_blank n bs some) (word_alone n bs some) (cases_lt (position_or_len is_blank bs) (length bs))

-- the bytes after leading blanks begin with a word
word_begins : (bs : List ℕ) → prefix_len is_blank bs < length bs → 0 < position_or_len is_blank (drop (prefix_len is_blank bs) bs)
word_begins bs h = rw (drop_more bs (prefix_len is_blank bs) 0 h, prefix_len_stops is_blank bs 0 h) (omega arith)

-- a text with a byte that isn't blank: its first word, and the words of what follows
pub words_cut : (n : ℕ) (bs : List ℕ) → prefix_len is_blank bs < length bs
    → words_at n bs ≡ record { column = n + prefix_len is_blank bs; word = take (position_or_len is_blank (drop (prefix_len is_blank bs) bs)) (drop (prefix_len is_blank bs) bs) }
    ∷ words_at (n + prefix_len is_blank bs + position_or_len is_blank (drop (prefix_len is_blank bs) bs)) (drop (position_or_len is_blank (drop (prefix_len is_blank bs) bs)) (drop (prefix_len is_blank bs) bs))
words_cut n bs h = words_skip n bs ∙ words_word (n + prefix_len is_blank bs) (drop (prefix_len is_blank bs) bs) (word_begins bs h)

-- a text of blanks has no word
pub words_none : (n : ℕ) (bs : List ℕ) → length bs ≤ prefix_len is_blank bs → words_at n bs ≡ []
words_none n bs h = words_skip n bs ∙ rw (drop_all (prefix_len is_blank bs) bs h) (no_words (n + prefix_len is_blank bs))

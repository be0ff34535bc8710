-- A reader finds in a printed line the words that were printed.
use Rattle.std.proofs.Common.{◌≡◌, ℕ, ◌+◌, ◌<◌, Bool, true, false, not, List, [], ◌∷◌, ◌++◌, length, refl, ap, sym, ◌∙◌, arith}
use Rattle.std.specs.List.{All, list_all, slice_split}
use Rattle.std.proofs.lemmas.List.{append-nil, append_assoc}
use Rattle.std.proofs.lemmas.List.Splits.{slice_split_at, slice_split_none, slice_split-cons_yes}
use Rattle.std.proofs.lemmas.List.Elements.{All-nil, All-cons}
use Rattle.std.proofs.lemmas.Bool.{and_parts}
use Rattle.std.proofs.lemmas.Bool.Decides.{nat_tests}
use Rattle.asa_text.specs.Lines.{is_blank}
use Rattle.asa_text.specs.Words.{placed, words_at, line_left}
use Rattle.asa_print_text.specs.Words.{after_word, after_words, spaced}
use Rattle.asa_print_text.specs.Spelling.{is_inner, is_plain, all_plain, spelled, left_of}

pub not_true : (b : Bool) → not b ≡ true → b ≡ false
not_true true h = cc
not_true false h = refl

inner_no_blank : (b : ℕ) → is_inner b ≡ true → is_blank b ≡ false
inner_no_blank b h = not_true (is_blank b) (and_parts _ _ (and_parts _ _ h).0).0

-- no byte of such a text is blank
pub no_blanks : (w : List ℕ) → list_all is_inner w ≡ true → All (λ b. is_blank b ≡ false) w
no_blanks [] h = All-nil (λ b. is_blank b ≡ false)
no_blanks (b ∷ bs) h =
    let parts = and_parts _ _ h in
    All-cons (λ c. is_blank c ≡ false) b bs (inner_no_blank b parts.0) (no_blanks bs parts.1)

-- a plain word has a byte
pub plain_some : (w : List ℕ) → is_plain w ≡ true → 0 < length w
plain_some [] h = cc
plain_some (b ∷ bs) h = omega arith

pub plain_inner : (w : List ℕ) → is_plain w ≡ true → list_all is_inner w ≡ true
plain_inner w h = (and_parts _ _ h).1

-- a piece that isn't empty is a word
placed_word : (n : ℕ) (piece : List ℕ) (more : List (List ℕ)) → 0 < length piece
    → placed n (piece ∷ more) ≡ record { column = n; word = piece } ∷ placed (n + length piece + 1) more
placed_word n piece more some = grind (arith, nat_tests)

-- a word that ends the line
pub word_alone : (n : ℕ) (w : List ℕ) → is_plain w ≡ true → words_at n w ≡ record { column = n; word = w } ∷ []
unfolding words_at
word_alone n w h =
    ap (placed n) (slice_split_none is_blank w (no_blanks w (plain_inner w h))) ∙ placed_word n w [] (plain_some w h)

-- a word before a space
pub word_before : (n : ℕ) (w bs : List ℕ) → is_plain w ≡ true
    → words_at n (w ++ 32 ∷ bs) ≡ record { column = n; word = w } ∷ words_at (n + length w + 1) bs
unfolding words_at
word_before n w bs h =
    ap (placed n) (slice_split_at is_blank w 32 bs (no_blanks w (plain_inner w h)) refl)
    ∙ placed_word n w (slice_split is_blank bs) (plain_some w h)

-- a space in front only moves the column
pub space_before : (n : ℕ) (bs : List ℕ) → words_at n (32 ∷ bs) ≡ words_at (n + 1) bs
unfolding words_at
space_before n bs = ap (placed n) (slice_split-cons_yes is_blank 32 bs refl)

-- a top-level line has the words that were printed
pub words_from : (n : ℕ) (w : List ℕ) (ws : List (List ℕ)) → is_plain w ≡ true → all_plain ws ≡ true
    → words_at n (w ++ after_words ws) ≡ spelled n (w ∷ ws)
unfolding after_word
words_from n w [] h more = rw (append-nil w) (word_alone n w h)
words_from n w (v ∷ vs) h more =
    let parts = and_parts _ _ more in
    word_before n w (v ++ after_words vs) h
    ∙ ap (λ rest. record { column = n; word = w } ∷ rest) (words_from (n + length w + 1) v vs parts.0 parts.1)

no_words : (n : ℕ) → words_at n [] ≡ []
unfolding words_at
no_words n = refl

pub words_of : (n : ℕ) (ws : List (List ℕ)) → all_plain ws ≡ true → words_at n (spaced ws) ≡ spelled n ws
words_of n [] h = no_words n
words_of n (w ∷ ws) h = let parts = and_parts _ _ h in words_from n w ws parts.0 parts.1

-- so has an indented line, of which the first word stands after a space
pub words_after : (n : ℕ) (ws : List (List ℕ)) → all_plain ws ≡ true → words_at n (after_words ws) ≡ spelled (n + 1) ws
unfolding after_word
words_after n [] h = no_words n
words_after n (w ∷ ws) h =
    let parts = and_parts _ _ h in
    space_before n (w ++ after_words ws) ∙ words_from (n + 1) w ws parts.0 parts.1

-- a whole printed line, still to be read
pub top_left : (ws : List (List ℕ)) → all_plain ws ≡ true → line_left (spaced ws) ≡ left_of 1 (length (spaced ws) + 1) ws
top_left ws h = ap (λ found. record { words = found; end = length (spaced ws) + 1 }) (words_of 1 ws h)

pub inner_left : (ws : List (List ℕ)) → all_plain ws ≡ true → line_left (after_words ws) ≡ left_of 2 (length (after_words ws) + 1) ws
inner_left ws h = ap (λ found. record { words = found; end = length (after_words ws) + 1 }) (words_after 1 ws h)

-- words in two parts
pub after_parts : (vs ws : List (List ℕ)) → after_words (vs ++ ws) ≡ after_words vs ++ after_words ws
after_parts [] ws = refl
after_parts (v ∷ vs) ws =
    ap (λ rest. after_word v ++ rest) (after_parts vs ws) ∙ sym (append_assoc (after_word v) (after_words vs) (after_words ws))

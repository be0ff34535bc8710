-- A printed text is cut into the blocks that were printed.
use Rattle.std.proofs.Common.{◌≡◌, ◌==◌, ℕ, ◌+◌, ◌-◌, ◌<◌, Bool, true, false, List, [], ◌∷◌, ◌++◌, length, get_or, codes, Some, Ok, refl, ap, sym, ◌∙◌, arith}
use Rattle.std.specs.List.{All, AllByRecursion, list_all, filter, slice_split, suffix_len}
use Rattle.std.specs.Str.Lines.{lines, lines_of_parts, strip_carriage_return}
use Rattle.std.proofs.lemmas.List.{append_assoc, append-nil, take_all, length-append}
use Rattle.std.proofs.lemmas.List.Splits.{slice_split_at, length-slice_split}
use Rattle.std.proofs.lemmas.List.Sums.{suffix_len_is}
use Rattle.std.proofs.lemmas.List.Elements.{All-nil, All-cons, All-append}
use Rattle.std.proofs.lemmas.Bool.{and_parts}
use Rattle.asa_text.specs.declared.lines.Line.{Line}
use Rattle.asa_text.specs.Lines.{is_blank, is_kept, is_indented, is_end, trimmed, lines_from, before_end, after_end}
use Rattle.asa_text.specs.Blocks.{Grouped, onto, grouped, blocks_of, blocks_or_fault}
use Rattle.asa_text.proofs.LineLaws.{lines_next, lines_none}
use Rattle.asa_print_text.specs.Words.{after_word, after_words, spaced}
use Rattle.asa_print_text.specs.Spelling.{is_inner, is_plain, all_plain}
use Rattle.asa_print_text.specs.Paragraphs.{Paragraph, lines_of, counted_from, block_at, blocks_at, all_lines, ended, as_line, is_under, is_paragraph, IsLine}
use Rattle.asa_print_text.proofs.ByteLaws.{told_apart}
use Rattle.asa_print_text.proofs.SpellingLaws.{not_true, plain_inner}

-- lines of words

not_feed : (b : ℕ) → is_inner b ≡ true → (b == 10) ≡ false
not_feed b h = not_true (b == 10) (and_parts _ _ (and_parts _ _ h).0).1

inner_no_feed : (w : List ℕ) → list_all is_inner w ≡ true → All (λ b. (b == 10) ≡ false) w
inner_no_feed [] h = All-nil (λ b. (b == 10) ≡ false)
inner_no_feed (b ∷ bs) h =
    let here : is_inner b ≡ true = (and_parts _ _ h).0 in
    let more : list_all is_inner bs ≡ true = (and_parts _ _ h).1 in
    All-cons (λ c. (c == 10) ≡ false) b bs (not_feed b here) (inner_no_feed bs more)

-- bytes in front of a line, none of which is a line feed
pub line_after : (front l : List ℕ) → All (λ b. (b == 10) ≡ false) front → IsLine l → IsLine (front ++ l)
line_after front l none line = record {
  front = front ++ line.front;
  last = line.last;
  is = ap (λ x. front ++ x) line.is ∙ sym (append_assoc front line.front (line.last ∷ []));
  inner = line.inner;
  no_feed = All-append (λ b. (b == 10) ≡ false) front l none line.no_feed;
}

-- a word is a line
byte_line : (b : ℕ) → is_inner b ≡ true → IsLine (b ∷ [])
byte_line b h = record {
  front = [];
  last = b;
  is = refl;
  inner = h;
  no_feed = All-cons (λ c. (c == 10) ≡ false) b [] (not_feed b h) (All-nil (λ c. (c == 10) ≡ false));
}

bytes_line : (b : ℕ) (bs : List ℕ) → is_inner b ≡ true → list_all is_inner bs ≡ true → IsLine (b ∷ bs)
bytes_line b [] h more = byte_line b h
bytes_line b (c ∷ cs) h more =
    let here : is_inner c ≡ true = (and_parts _ _ more).0 in
    let rest : list_all is_inner cs ≡ true = (and_parts _ _ more).1 in
    line_after (b ∷ []) (c ∷ cs) (inner_no_feed (b ∷ []) (one b h)) (bytes_line c cs here rest)
  where
    one : (b : ℕ) → is_inner b ≡ true → list_all is_inner (b ∷ []) ≡ true
    one b h = rw h

word_line : (w : List ℕ) → is_plain w ≡ true → IsLine w
word_line [] h = cc
word_line (b ∷ bs) h =
    let inner : list_all is_inner (b ∷ bs) ≡ true = (and_parts _ _ h).1 in
    bytes_line b bs (and_parts _ _ inner).0 (and_parts _ _ inner).1

space_line : (l : List ℕ) → IsLine l → IsLine (32 ∷ l)
space_line l line = line_after (32 ∷ []) l (All-cons (λ c. (c == 10) ≡ false) 32 [] refl (All-nil (λ c. (c == 10) ≡ false))) line

words_line : (w : List ℕ) (ws : List (List ℕ)) → is_plain w ≡ true → all_plain ws ≡ true → IsLine (w ++ after_words ws)
unfolding after_word
words_line w [] h more = rw (append-nil w) (word_line w h)
words_line w (v ∷ vs) h more =
    line_after w (32 ∷ (v ++ after_words vs)) (inner_no_feed w (plain_inner w h))
    (space_line (v ++ after_words vs) (words_line v vs (and_parts _ _ more).0 (and_parts _ _ more).1))

-- a top-level line of words
pub spaced_line : (w : List ℕ) (ws : List (List ℕ)) → all_plain (w ∷ ws) ≡ true → IsLine (spaced (w ∷ ws))
spaced_line w ws h = words_line w ws (and_parts _ _ h).0 (and_parts _ _ h).1

-- an indented line of words
pub after_line : (w : List ℕ) (ws : List (List ℕ)) → all_plain (w ∷ ws) ≡ true → IsLine (after_words (w ∷ ws))
unfolding after_word
after_line w ws h = space_line (w ++ after_words ws) (words_line w ws (and_parts _ _ h).0 (and_parts _ _ h).1)

-- from the text to its lines

parts_more : (x : List ℕ) (parts : List (List ℕ)) → 0 < length parts → lines_of_parts (x ∷ parts) ≡ strip_carriage_return x ∷ lines_of_parts parts
parts_more x [] h = absurd (omega arith)
parts_more x (y ∷ more) h = refl

lines_first : (l rest : List ℕ) → All (λ b. (b == 10) ≡ false) l → lines (l ++ 10 ∷ rest) ≡ strip_carriage_return l ∷ lines rest
lines_first l rest none =
    let p = λ (b : ℕ). b == 10 in
    ap lines_of_parts (slice_split_at p l 10 rest none refl)
    ∙ parts_more l (slice_split p rest) (omega (arith, length-slice_split p rest))

last_at : (front : List ℕ) (last : ℕ) → get_or (front ++ last ∷ []) (length (front ++ last ∷ []) - 1) 0 ≡ last
last_at [] last = refl
last_at (b ∷ bs) last = grind (arith, length-append, last_at bs last)

last_of : (l : List ℕ) (line : IsLine l) → get_or l (length l - 1) 0 ≡ line.last
last_of l line = ap (λ x. get_or x (length x - 1) 0) line.is ∙ last_at line.front line.last

no_return : (b : ℕ) → is_inner b ≡ true → (b == 13) ≡ false
no_return b h = not_true (b == 13) (and_parts _ _ h).1

no_blank : (b : ℕ) → is_inner b ≡ true → is_blank b ≡ false
no_blank b h = not_true (is_blank b) (and_parts _ _ (and_parts _ _ h).0).0

strip_none : (l : List ℕ) → (get_or l (length l - 1) 0 == 13) ≡ false → strip_carriage_return l ≡ l
strip_none l h = rw h

-- such a line keeps its bytes
strip_line : (l : List ℕ) → IsLine l → strip_carriage_return l ≡ l
strip_line l line = strip_none l (ap (λ b. b == 13) (last_of l line) ∙ no_return line.last line.inner)

trim_none : (l : List ℕ) → is_blank (get_or l (length l - 1) 0) ≡ false → trimmed l ≡ l
trim_none l h =
    let none : suffix_len is_blank l ≡ length l - length l = suffix_len_is is_blank l (length l) 0 (omega arith) (λ k low high. absurd (omega arith)) (λ _. h) in
    rw none (take_all (length l - (length l - length l)) l (omega arith))

trim_line : (l : List ℕ) → IsLine l → trimmed l ≡ l
trim_line l line = trim_none l (ap is_blank (last_of l line) ∙ no_blank line.last line.inner)

-- the lines of a printed text are those that were printed
pub lines_back : (n : ℕ) (ls : List (List ℕ)) → AllByRecursion IsLine ls → lines_from n (ended ls) ≡ counted_from n ls
lines_back n [] all = lines_none n [] refl
lines_back n (l ∷ ls) all =
    lines_next n (l ++ 10 ∷ ended ls) (strip_carriage_return l) (ended ls) (lines_first l (ended ls) all.0.no_feed)
    ∙ ap (λ t. record { number = n; text = t } ∷ lines_from (n + 1) (ended ls)) (ap trimmed (strip_line l all.0) ∙ trim_line l all.0)
    ∙ ap (λ rest. record { number = n; text = l } ∷ rest) (lines_back (n + 1) ls all.1)

-- from lines to blocks

-- a line that says something
abbrev says : List ℕ → Bool
says t = is_kept (as_line t)

not_end : (n : ℕ) (t : List ℕ) → says t ≡ true → is_end (record { number = n; text = t }) ≡ false
not_end n t h = told_apart says t (codes ": end") h refl

end_before : (n : ℕ) (ts : List (List ℕ)) → list_all says ts ≡ true → before_end (counted_from n (ts ++ codes ": end" ∷ [])) ≡ counted_from n ts
end_before n [] h = refl
end_before n (t ∷ ts) h =
    let here : says t ≡ true = (and_parts _ _ h).0 in
    let more : list_all says ts ≡ true = (and_parts _ _ h).1 in
    rw (not_end n t here, end_before (n + 1) ts more)

end_after : (n : ℕ) (ts : List (List ℕ)) → list_all says ts ≡ true → after_end (counted_from n (ts ++ codes ": end" ∷ [])) ≡ Some []
end_after n [] h = refl
end_after n (t ∷ ts) h =
    let here : says t ≡ true = (and_parts _ _ h).0 in
    let more : list_all says ts ≡ true = (and_parts _ _ h).1 in
    rw (not_end n t here) (end_after (n + 1) ts more)

all_kept : (n : ℕ) (ts : List (List ℕ)) → list_all says ts ≡ true → filter is_kept (counted_from n ts) ≡ counted_from n ts
all_kept n [] h = refl
all_kept n (t ∷ ts) h =
    let here : says t ≡ true = (and_parts _ _ h).0 in
    let more : list_all says ts ≡ true = (and_parts _ _ h).1 in
    rw (here, all_kept (n + 1) ts more)

under_say : (ts : List (List ℕ)) → list_all is_under ts ≡ true → list_all says ts ≡ true
under_say [] h = refl
under_say (t ∷ ts) h =
    let here : says t ≡ true = (and_parts _ _ (and_parts _ _ h).0).0 in
    let more : list_all is_under ts ≡ true = (and_parts _ _ h).1 in
    rw (here, under_say ts more)

says_append : (ts us : List (List ℕ)) → list_all says ts ≡ true → list_all says us ≡ true → list_all says (ts ++ us) ≡ true
says_append [] us h more = more
says_append (t ∷ ts) us h more =
    let here : says t ≡ true = (and_parts _ _ h).0 in
    let rest : list_all says ts ≡ true = (and_parts _ _ h).1 in
    rw (here) (says_append ts us rest more)

blocks_say : (ps : List Paragraph) → list_all is_paragraph ps ≡ true → list_all says (all_lines ps) ≡ true
blocks_say [] h = refl
blocks_say (p ∷ ps) h =
    let here : is_paragraph p ≡ true = (and_parts _ _ h).0 in
    let more : list_all is_paragraph ps ≡ true = (and_parts _ _ h).1 in
    let top : says p.top ≡ true = (and_parts _ _ (and_parts _ _ here).0).0 in
    rw top (says_append p.inner (all_lines ps) (under_say p.inner (and_parts _ _ here).1) (blocks_say ps more))

counted_append : (n : ℕ) (ts us : List (List ℕ)) → counted_from n (ts ++ us) ≡ counted_from n ts ++ counted_from (n + length ts) us
counted_append n [] us = ap (λ k. counted_from k us) (omega arith)
counted_append n (t ∷ ts) us =
    ap (λ rest. record { number = n; text = t } ∷ rest)
    (counted_append (n + 1) ts us ∙ ap (λ k. counted_from (n + 1) ts ++ counted_from k us) (omega arith))

-- indented lines wait for the line that begins their block
inner_grouped : (n : ℕ) (ts : List (List ℕ)) (rest : List Line) → list_all is_under ts ≡ true
    → grouped (counted_from n ts ++ rest) ≡ record { early = counted_from n ts ++ (grouped rest).early; blocks = (grouped rest).blocks }
unfolding grouped
inner_grouped n [] rest h = refl
inner_grouped n (t ∷ ts) rest h =
    let here : is_indented (as_line t) ≡ true = (and_parts _ _ (and_parts _ _ h).0).1 in
    let more : list_all is_under ts ≡ true = (and_parts _ _ h).1 in
    ap (onto (record { number = n; text = t })) (inner_grouped (n + 1) ts rest more) ∙ rw here

top_grouped : (n : ℕ) (p : Paragraph) (rest : List Line) → is_paragraph p ≡ true → (grouped rest).early ≡ []
    → grouped (counted_from n (lines_of p) ++ rest) ≡ record { early = []; blocks = block_at n p ∷ (grouped rest).blocks }
unfolding grouped
top_grouped n p rest h none =
    let top : is_indented (as_line p.top) ≡ false = not_true (is_indented (as_line p.top)) (and_parts _ _ (and_parts _ _ h).0).1 in
    ap (onto (record { number = n; text = p.top })) (inner_grouped (n + 1) p.inner rest (and_parts _ _ h).1)
    ∙ rw (none, top, append-nil (counted_from (n + 1) p.inner))

blocks_grouped : (n : ℕ) (ps : List Paragraph) → list_all is_paragraph ps ≡ true
    → grouped (counted_from n (all_lines ps)) ≡ record { early = []; blocks = blocks_at n ps }
unfolding grouped
blocks_grouped n [] h = refl
blocks_grouped n (p ∷ ps) h =
    let here : is_paragraph p ≡ true = (and_parts _ _ h).0 in
    let more : list_all is_paragraph ps ≡ true = (and_parts _ _ h).1 in
    let rest = counted_from (n + length (lines_of p)) (all_lines ps) in
    let last = blocks_grouped (n + length (lines_of p)) ps more in
    ap grouped (counted_append n (lines_of p) (all_lines ps))
    ∙ top_grouped n p rest here (ap (λ g. g.early) last)
    ∙ ap (λ (g : Grouped). record { early = []; blocks = block_at n p ∷ g.blocks }) last

blocks_back : (n : ℕ) (ps : List Paragraph) → list_all is_paragraph ps ≡ true → blocks_of (counted_from n (all_lines ps)) ≡ Ok (blocks_at n ps)
blocks_back n ps h =
    ap (λ ls. blocks_or_fault (grouped ls)) (all_kept n (all_lines ps) (blocks_say ps h)) ∙ ap blocks_or_fault (blocks_grouped n ps h)

-- a printed text with its end is cut into the blocks that were printed, and nothing follows
pub text_back : (ps : List Paragraph) → list_all is_paragraph ps ≡ true → AllByRecursion IsLine (all_lines ps ++ codes ": end" ∷ [])
    → (blocks_of (before_end (lines_from 1 (ended (all_lines ps ++ codes ": end" ∷ [])))) ≡ Ok (blocks_at 1 ps))
    × (after_end (lines_from 1 (ended (all_lines ps ++ codes ": end" ∷ []))) ≡ Some [])
text_back ps h all =
    let ls = lines_back 1 (all_lines ps ++ codes ": end" ∷ []) all in (
      ap (λ l. blocks_of (before_end l)) ls ∙ ap blocks_of (end_before 1 (all_lines ps) (blocks_say ps h)) ∙ blocks_back 1 ps h,
      ap after_end ls ∙ end_after 1 (all_lines ps) (blocks_say ps h),
    )

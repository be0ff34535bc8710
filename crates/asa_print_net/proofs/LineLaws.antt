-- What a reader gives of a printed line's words is what it gives of the line.
use Rattle.std.proofs.Common.{◌≡◌, ℕ, ◌+◌, true, List, length, Ok, ap, ◌∙◌}
use Rattle.asa_text.specs.Words.{Left}
use Rattle.asa_text.specs.Readers.{Read}
use Rattle.asa_ifaces.specs.Answers.{value_read, of_text}
use Rattle.asa_print_text.specs.Words.{after_words, spaced}
use Rattle.asa_print_text.specs.Spelling.{all_plain, left_of}
use Rattle.asa_print_text.proofs.SpellingLaws.{top_left, inner_left}

pub top_read : {X : Type 0} (reader : Left → Read X) (ws : List (List ℕ)) (x : X) → all_plain ws ≡ true
    → ((end : ℕ) → value_read (reader (left_of 1 end ws)) ≡ Ok x) → of_text reader (spaced ws) ≡ Ok x
top_read reader ws x plain here = ap (λ left. value_read (reader left)) (top_left ws plain) ∙ here (length (spaced ws) + 1)

pub inner_read : {X : Type 0} (reader : Left → Read X) (ws : List (List ℕ)) (x : X) → all_plain ws ≡ true
    → ((end : ℕ) → value_read (reader (left_of 2 end ws)) ≡ Ok x) → of_text reader (after_words ws) ≡ Ok x
inner_read reader ws x plain here = ap (λ left. value_read (reader left)) (inner_left ws plain) ∙ here (length (after_words ws) + 1)

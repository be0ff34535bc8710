-- The words that a reader finds in a printed line, each with its column.
use Rattle.std.specs.Prelude.{ℕ, ◌+◌, Bool, not, ◌&&◌, ◌==◌, List, [], ◌∷◌, length}
use Rattle.std.specs.List.{list_all}
use Rattle.asa_text.specs.Lines.{is_blank}
use Rattle.asa_text.specs.Words.{Spelled, Left}

-- a byte that neither parts two words nor ends a line
abbrev pub is_inner : ℕ → Bool
is_inner b = not (is_blank b) && not (b == 10) && not (b == 13)

-- a word that is read as it was printed: it has a byte, and each is such a byte
abbrev pub is_plain : List ℕ → Bool
is_plain w = not (length w == 0) && list_all is_inner w

abbrev pub all_plain : List (List ℕ) → Bool
all_plain ws = list_all is_plain ws

-- words with one blank between, of which the first begins at column n
abbrev pub spelled : ℕ → List (List ℕ) → List Spelled
spelled n [] = []
spelled n (w ∷ ws) = record { column = n; word = w } ∷ spelled (n + length w + 1) ws

-- what is left of a line where these words are still to be read, of which the first begins at column n
abbrev pub left_of : ℕ → ℕ → List (List ℕ) → Left
left_of n end ws = record { words = spelled n ws; end = end }

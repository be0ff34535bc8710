-- The words of a line: the runs of bytes other than space and tab, each with the column of its first byte, from 1.
use Rattle.std.specs.Prelude.{ℕ, ◌+◌, ◌==◌, List, [], ◌∷◌, length, if◌then◌else◌}
use Rattle.std.specs.List.{slice_split}
use Rattle.asa_text.specs.Lines.{is_blank}

-- a word, and the column of its first byte
pub record Spelled : Type 0 where
  pub column : ℕ
  pub word : List ℕ

-- what is still to be read of a line: its words, and the column after its last byte, which is that of a missing word
pub record Left : Type 0 where
  pub words : List Spelled
  pub end : ℕ

-- the pieces between blanks, of which the first begins at column n: those that aren't empty are the words
abbrev pub placed : ℕ → List (List ℕ) → List Spelled
placed n [] = []
placed n (piece ∷ more) = if length piece == 0 then placed (n + 1) more
    else record { column = n; word = piece } ∷ placed (n + length piece + 1) more

-- the words of a text whose first byte stands at column n
unfoldable pub words_at : ℕ → List ℕ → List Spelled
words_at n bs = placed n (slice_split is_blank bs)

-- a whole line, still to be read
abbrev pub line_left : List ℕ → Left
line_left bs = record { words = words_at 1 bs; end = length bs + 1 }

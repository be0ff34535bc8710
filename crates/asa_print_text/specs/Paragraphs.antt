-- Printed blocks: a top-level line, and the indented lines after it.
use Rattle.std.specs.Prelude.{◌≡◌, ℕ, ◌+◌, Bool, false, true, not, ◌&&◌, ◌==◌, List, [], ◌∷◌, ◌++◌, length}
use Rattle.std.specs.List.{All, list_all}
use Rattle.asa_text.specs.declared.lines.Line.{Line}
use Rattle.asa_text.specs.declared.blocks.Block.{Block}
use Rattle.asa_text.specs.Lines.{is_kept, is_indented}
use Rattle.asa_print_text.specs.Spelling.{is_inner}

-- the lines of a block, without their line feeds
pub record Paragraph : Type 0 where
  pub top : List ℕ
  pub inner : List (List ℕ)

-- its lines in order
abbrev pub lines_of : Paragraph → List (List ℕ)
lines_of p = p.top ∷ p.inner

-- texts as lines with rising numbers, of which the first is n
abbrev pub counted_from : ℕ → List (List ℕ) → List Line
counted_from n [] = []
counted_from n (t ∷ ts) = record { number = n; text = t } ∷ counted_from (n + 1) ts

-- the block whose top-level line has the number n
abbrev pub block_at : ℕ → Paragraph → Block
block_at n p = record { lines = counted_from n (lines_of p) }

-- blocks after one another, of which the first begins at line n
abbrev pub blocks_at : ℕ → List Paragraph → List Block
blocks_at n [] = []
blocks_at n (p ∷ ps) = block_at n p ∷ blocks_at (n + length (lines_of p)) ps

-- the lines of blocks
abbrev pub all_lines : List Paragraph → List (List ℕ)
all_lines [] = []
all_lines (p ∷ ps) = lines_of p ++ all_lines ps

-- a text of lines, each of which ends with a line feed
abbrev pub ended : List (List ℕ) → List ℕ
ended [] = []
ended (l ∷ ls) = l ++ 10 ∷ ended ls

-- a text as a line; what a line is doesn't depend on its number
abbrev pub as_line : List ℕ → Line
as_line t = record { number = 0; text = t }

-- a top-level line that says something
abbrev pub is_top : List ℕ → Bool
is_top t = is_kept (as_line t) && not (is_indented (as_line t))

-- an indented line that says something
abbrev pub is_under : List ℕ → Bool
is_under t = is_kept (as_line t) && is_indented (as_line t)

-- lines that are cut as one block
abbrev pub is_paragraph : Paragraph → Bool
is_paragraph p = is_top p.top && list_all is_under p.inner

-- a line that is read as it was printed: no line feed stands in it, and its last byte is of a word
pub record IsLine (l : List ℕ) : Type 0 where
  pub front : List ℕ
  pub last : ℕ
  pub is : l ≡ front ++ last ∷ []
  pub inner : is_inner last ≡ true
  pub no_feed : All (λ b. (b == 10) ≡ false) l

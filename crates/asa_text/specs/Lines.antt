-- The lines of a text. A line ends at a line feed or where the text ends; one carriage return before the line feed is
-- dropped, then trailing spaces and tabs. A text that ends with a line feed has no further line.
use Rattle.std.specs.Prelude.{ℕ, ◌+◌, ◌-◌, Bool, false, not, ◌&&◌, ◌||◌, ◌==◌, List, [], ◌∷◌, length, take, codes, slice_index, Option, Some, None, if◌then◌else◌}
use Rattle.std.specs.List.{suffix_len, list_all}
use Rattle.std.specs.Str.{bytes_eq}
use Rattle.std.specs.Str.Lines.{lines}
use Rattle.asa_text.specs.declared.lines.Line.{Line}

-- a space or a tab
abbrev pub is_blank : ℕ → Bool
is_blank b = (b == 32) || (b == 9)

-- a text without its trailing blanks
abbrev pub trimmed : List ℕ → List ℕ
trimmed bs = take (length bs - suffix_len is_blank bs) bs

-- texts as lines with rising numbers, of which the first is n
abbrev pub numbered : ℕ → List (List ℕ) → List Line
numbered n [] = []
numbered n (bs ∷ more) = record { number = n; text = trimmed bs } ∷ numbered (n + 1) more

-- the lines of a text, of which the first has the number n
unfoldable pub lines_from : ℕ → List ℕ → List Line
lines_from n bs = numbered n (lines bs)

-- the lines of a text that are still to come, and the number of the first of them
pub record LinesLeft : Type 0 where
  pub number : ℕ
  pub lines : List Line

-- nothing but blanks stands in the line
abbrev pub is_empty_line : Line → Bool
is_empty_line l = list_all is_blank l.text

-- the first byte is `:` or `!`
abbrev pub is_comment : Line → Bool
is_comment l = (slice_index l.text 0 == 58) || (slice_index l.text 0 == 33)

-- the first byte is a space or a tab
abbrev pub is_indented : Line → Bool
is_indented l = is_blank (slice_index l.text 0)

-- the line says something: it is neither empty nor a comment
abbrev pub is_kept : Line → Bool
is_kept l = not (is_empty_line l) && not (is_comment l)

-- the comment that ends the startup part
abbrev pub is_end : Line → Bool
is_end l = bytes_eq l.text (codes ": end")

-- the lines before the first that ends the startup part
abbrev pub before_end : List Line → List Line
before_end [] = []
before_end (l ∷ ls) = if is_end l then [] else l ∷ before_end ls

-- the lines after it, where there is one
abbrev pub after_end : List Line → Option (List Line)
after_end [] = None
after_end (l ∷ ls) = if is_end l then Some ls else after_end ls

-- lines of the form of a block: a top-level line first, then indented ones, each of them saying something
abbrev pub is_block : List Line → Bool
is_block [] = false
is_block (top ∷ inner) = is_kept top && not (is_indented top) && list_all (λ l. is_kept l && is_indented l) inner

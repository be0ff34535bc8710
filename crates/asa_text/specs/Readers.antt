-- Reading a line word by word. A reader gives what it read and what is left of the line, or a fault with its column.
use Rattle.std.specs.Prelude.{◌≡◌, ℕ, Bool, true, false, ◌==◌, List, [], ◌∷◌, Option, Some, None, Result, Ok, Err, if◌then◌else◌}
use Rattle.std.specs.List.{list_any}
use Rattle.std.specs.Str.{bytes_eq}
use Rattle.asa_text.specs.declared.numbers.Addr.{Addr}
use Rattle.asa_text.specs.declared.numbers.WordFault.{WordFault}
use Rattle.asa_text.specs.declared.readers.LineFault.{LineFault}
use Rattle.asa_text.specs.declared.readers.LineFault.TheVariants.{Bad, Unsupported}
use Rattle.asa_text.specs.Words.{Spelled, Left}
use Rattle.asa_text.specs.Numbers.{number_of, address_of, mask_of}

-- what a reader gives
abbrev pub Read : Type 0 → Type 0
Read X = Result (X × Left) LineFault

infixl 10 ◌>>=◌
-- read one thing, then go on with it and with what is left; a fault ends the reading
abbrev pub ◌>>=◌ : {X Y : Type 0} → Read X → (X × Left → Read Y) → Read Y
(Ok read) >>= more = more read
(Err fault) >>= more = Err fault

-- the contract of a reader: what it answered and what its cursor has left are the definition's answer
abbrev pub Reads : {X : Type 0} → Result X LineFault → Left → Read X → Type 0
Reads (Ok x) left r = r ≡ Ok (x, left)
Reads (Err fault) left r = r ≡ Err fault

-- the next word; a missing one is Bad
unfoldable pub word_at : Left → Read Spelled
word_at left = of_words left.words
  where
    of_words : List Spelled → Read Spelled
    of_words [] = Err (Bad left.end)
    of_words (w ∷ more) = Ok (w, record { words = more; end = left.end })

-- the next word, where it stands there
abbrev pub next_word : Left → Option Spelled
next_word left = of_words left.words
  where
    of_words : List Spelled → Option Spelled
    of_words [] = None
    of_words (w ∷ _) = Some w

-- what is left after the next word
abbrev pub after_one : Left → Left
after_one left = record { words = of_words left.words; end = left.end }
  where
    of_words : List Spelled → List Spelled
    of_words [] = []
    of_words (_ ∷ more) = more

-- the column of the next word, or of a missing one
abbrev pub column_at : Left → ℕ
column_at left = of_words left.words
  where
    of_words : List Spelled → ℕ
    of_words [] = left.end
    of_words (w ∷ _) = w.column

-- what is left after the next word, where that was taken
abbrev pub after_if : Bool → Left → Left
after_if true left = after_one left
after_if false left = left

-- the next word has none of the forms of its place, or is missing
abbrev pub bad_next : Left → LineFault
bad_next left = Bad (column_at left)

-- a form begins with the next word that the device has and this project leaves out
abbrev pub unsupported_next : Left → LineFault
unsupported_next left = Unsupported (column_at left)

-- the next word is this one
abbrev pub next_is : List ℕ → Left → Bool
next_is text left = of_words left.words
  where
    of_words : List Spelled → Bool
    of_words [] = false
    of_words (w ∷ _) = bytes_eq w.word text

-- a value of a word, or Bad at its column
abbrev pub value_or_bad : {X : Type 0} → Spelled → Left → Result X WordFault → Read X
value_or_bad w left (Ok x) = Ok (x, left)
value_or_bad w left (Err _) = Err (Bad w.column)

-- this word, or Bad at the column of what stands there
unfoldable pub keyword_at : List ℕ → Left → Read (Unit {0})
keyword_at text left = word_at left >>= λ (w, rest). if bytes_eq w.word text then Ok (tt, rest) else Err (Bad w.column)

-- a number between two bounds
unfoldable pub number_at : ℕ → ℕ → Left → Read ℕ
number_at least greatest left = word_at left >>= λ (w, rest). value_or_bad w rest (number_of w.word least greatest)

-- an address; a word with a `:` is Unsupported
unfoldable pub address_at : Left → Read Addr
address_at left = word_at left >>= λ (w, rest).
    if list_any (λ b. b == 58) w.word then Err (Unsupported w.column) else value_or_bad w rest (address_of w.word)

-- a mask, as its number of ones
unfoldable pub mask_at : Left → Read ℕ
mask_at left = word_at left >>= λ (w, rest). value_or_bad w rest (mask_of w.word)

-- the end of the line; a word too many is Bad at its column
unfoldable pub end_at : Left → Read (Unit {0})
end_at left = of_words left.words
  where
    of_words : List Spelled → Read (Unit {0})
    of_words [] = Ok (tt, left)
    of_words (w ∷ _) = Err (Bad w.column)

-- The text of a printed line: its words, each after one space, but that a top-level line begins with its first word.
use Rattle.std.specs.Prelude.{ℕ, List, [], ◌∷◌, ◌++◌, codes, decimal}
use Rattle.asa_text.specs.declared.numbers.Addr.{Addr}
use Rattle.asa_text.specs.Numbers.{mask_bits}
use Rattle.asa_text.specs.Printed.{dotted}
use Rattle.asa_print_text.specs.declared.word.Word.{Word}
use Rattle.asa_print_text.specs.declared.word.Word.TheVariants.{Text, Number, Address}

-- what is printed of a word
abbrev pub word_text : Word → List ℕ
word_text (Text bytes) = bytes.now
word_text (Number number) = decimal number
word_text (Address address) = dotted address

-- the address that a mask of so many ones is printed as
abbrev pub mask_addr : ℕ → Addr
mask_addr ones = record { 0 = mask_bits ones }

-- a word after a space
unfoldable pub after_word : List ℕ → List ℕ
after_word w = codes " " ++ w

-- words, each after a space; an indented line without its line feed
abbrev pub after_words : List (List ℕ) → List ℕ
after_words [] = []
after_words (w ∷ ws) = after_word w ++ after_words ws

-- words with a space between; a top-level line without its line feed
abbrev pub spaced : List (List ℕ) → List ℕ
spaced [] = []
spaced (w ∷ ws) = w ++ after_words ws

-- an indented line of these words
unfoldable pub printed_inner : List (List ℕ) → List ℕ
printed_inner ws = after_words ws ++ codes "\n"

-- a top-level line of these words
unfoldable pub printed_top : List (List ℕ) → List ℕ
printed_top ws = spaced ws ++ codes "\n"

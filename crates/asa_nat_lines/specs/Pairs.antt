-- The pair of interfaces of a rule: `(REAL,MAPPED)`, which is one word.
use Rattle.std.specs.Prelude.{ℕ, Bool, not, ◌&&◌, ◌||◌, ◌==◌, ◌+◌, ◌-◌, List, [], length, drop, take, codes, slice_get, Option, Some, None, Result, Ok, Err, if◌then◌else◌}
use Rattle.std.specs.List.{list_all, before_first, after_first}
use Rattle.std.specs.Str.{bytes_eq}
use Rattle.asa_text.specs.declared.readers.LineFault.TheVariants.{Bad}
use Rattle.asa_text.specs.Words.{Spelled, Left}
use Rattle.asa_text.specs.Readers.{Read, ◌>>=◌, word_at, next_word}
use Rattle.asa_base.specs.Kinds.{Known}
use Rattle.asa_base.specs.Names.{is_name}
use Rattle.asa_base.specs.Readers.{interface_or_fault}

abbrev pub is_comma : ℕ → Bool
is_comma b = b == 44

-- a byte of a side: neither a parenthesis nor a comma
abbrev pub is_side_byte : ℕ → Bool
is_side_byte b = not ((b == 40) || (b == 41) || (b == 44))

-- a side of the pair: a name without parentheses and commas
abbrev pub is_side : List ℕ → Bool
is_side side = is_name side && list_all is_side_byte side

-- the word begins with `(`
abbrev pub opens : List ℕ → Bool
opens word = of_first (slice_get word 0)
  where
    of_first : Option ℕ → Bool
    of_first None = Bool.false
    of_first (Some b) = b == 40

-- what stands between the first byte of the word and its first comma
abbrev pub real_side : List ℕ → List ℕ
real_side word = before_first is_comma (drop 1 word)

-- what stands after its first comma, with the `)` at its end
abbrev pub mapped_end : List ℕ → List ℕ
mapped_end word = after_first is_comma (drop 1 word)

-- the bytes but the last
abbrev pub but_last : List ℕ → List ℕ
but_last bytes = take (length bytes - 1) bytes

-- the word ends with `)`
abbrev pub closes : List ℕ → Bool
closes bytes = of_last (slice_get bytes (length bytes - 1))
  where
    of_last : Option ℕ → Bool
    of_last None = Bool.false
    of_last (Some b) = b == 41

-- the name that a side is
abbrev pub side_of : List ℕ → Option (List ℕ)
side_of side = if is_side side then Some side else None

-- the two sides of a pair
unfoldable pub sides : List ℕ → Option (List ℕ × List ℕ)
sides word =
    if closes (mapped_end word) && is_side (real_side word) && is_side (but_last (mapped_end word))
    then Some (real_side word, but_last (mapped_end word)) else None

-- the interface of a side: `any` is none in particular; a name that no interface has is NoSuchInterface at the pair
unfoldable pub side_at : Known → ℕ → List ℕ → Left → Read (Option ℕ)
side_at known column side left =
    if bytes_eq side (codes "any") then Ok (None, left)
    else (interface_or_fault column left (known.interface_of side) >>= λ (ifc, rest). Ok (Some ifc, rest))

-- both interfaces, the real one first; a word of another form is Bad
unfoldable pub pair_of : Known → ℕ → Option (List ℕ × List ℕ) → Left → Read (Option ℕ × Option ℕ)
pair_of known column None left = Err (Bad column)
pair_of known column (Some (real, mapped)) left = do
  (real, left) ← side_at known column real left
  (mapped, left) ← side_at known column mapped left
  Ok ((real, mapped), left)

-- the pair
unfoldable pub pair_at : Known → Left → Read (Option ℕ × Option ℕ)
pair_at known left = word_at left >>= λ (w, rest). pair_of known w.column (sides w.word) rest

-- a pair comes next
abbrev pub next_is_pair : Left → Bool
next_is_pair left = of_word (next_word left)
  where
    of_word : Option Spelled → Bool
    of_word None = Bool.false
    of_word (Some w) = opens w.word

-- `[(I,I)]`; without the pair it is (any,any)
unfoldable pub interfaces_at : Known → Left → Read (Option ℕ × Option ℕ)
interfaces_at known left = if next_is_pair left then pair_at known left else Ok ((None, None), left)

-- The flags of a TCP packet: `-`, or letters of `SAFR`, each at most once, in that order.
use Rattle.std.specs.Prelude.{ℕ, ◌+◌, Bool, not, ◌&&◌, ◌==◌, List, [], ◌∷◌, codes, length, Option, Some, None, if◌then◌else◌}
use Rattle.std.specs.Str.{bytes_eq}

-- the bytes after a letter, where they begin with it
abbrev pub after_letter : ℕ → List ℕ → List ℕ
after_letter letter [] = []
after_letter letter (b ∷ bs) = if b == letter then bs else b ∷ bs

-- the value of a letter, where the bytes begin with it
abbrev pub flag : ℕ → ℕ → List ℕ → ℕ
flag letter value [] = 0
flag letter value (b ∷ bs) = if b == letter then value else 0

-- the bytes after `S`, after `S` and `A`, and so on, where these letters stand there
abbrev pub after_s : List ℕ → List ℕ
after_s word = after_letter 83 word

abbrev pub after_a : List ℕ → List ℕ
after_a word = after_letter 65 (after_s word)

abbrev pub after_f : List ℕ → List ℕ
after_f word = after_letter 70 (after_a word)

abbrev pub after_r : List ℕ → List ℕ
after_r word = after_letter 82 (after_f word)

-- S counts 1, A 2, F 4 and R 8
abbrev pub letters_value : List ℕ → ℕ
letters_value word = flag 83 1 word + flag 65 2 (after_s word) + (flag 70 4 (after_a word) + flag 82 8 (after_f word))

-- the flags of a word, or none where it is out of form
unfoldable pub flags_of : List ℕ → Option ℕ
flags_of word =
    if bytes_eq word (codes "-") then Some 0
    else (if not (length word == 0) && (length (after_r word) == 0) then Some (letters_value word) else None)

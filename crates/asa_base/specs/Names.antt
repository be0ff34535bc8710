-- Names of interfaces, objects and lists: 1 to 64 bytes from 0x21 to 0x7e.
use Rattle.std.specs.Prelude.{ℕ, Bool, not, ◌&&◌, ◌==◌, nat_le, List, length, Ok, Err, if◌then◌else◌}
use Rattle.std.specs.List.{list_all}
use Rattle.asa_text.specs.declared.readers.LineFault.TheVariants.{Bad}
use Rattle.asa_text.specs.Words.{Left}
use Rattle.asa_text.specs.Readers.{Read, ◌>>=◌, word_at}

-- a byte that prints, other than the space
abbrev pub is_graphic : ℕ → Bool
is_graphic b = nat_le 33 b && nat_le b 126

abbrev pub has_name_length : List ℕ → Bool
has_name_length word = not (length word == 0) && nat_le (length word) 64

abbrev pub is_name : List ℕ → Bool
is_name word = has_name_length word && list_all is_graphic word

-- a name; a word that can't be one is Bad
unfoldable pub name_at : Left → Read (List ℕ)
name_at left = word_at left >>= λ (w, rest). if is_name w.word then Ok (w.word, rest) else Err (Bad w.column)

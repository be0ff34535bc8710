-- The words of a line by their places, from 0, and what they mean.
use Rattle.std.specs.Prelude.{ℕ, Bool, List, [], Option, Some, None, slice_get, Result, Ok, Err, if◌then◌else◌}
use Rattle.std.specs.Str.{bytes_eq}
use Rattle.asa_text.specs.declared.numbers.Addr.{Addr}
use Rattle.asa_text.specs.declared.numbers.WordFault.{WordFault}
use Rattle.asa_text.specs.Numbers.{number_of, address_of}
use Rattle.asa_text.specs.Words.{Spelled}
use Rattle.asa_base.specs.Kinds.{Known}
use Rattle.asa_base.specs.Names.{is_name}
use Rattle.asa_session_lines.specs.declared.line.ScriptFault.{ScriptFault}
use Rattle.asa_session_lines.specs.declared.line.ScriptFault.TheVariants.{UnknownInterface, BadNumber}

-- what a part of a line gives, or why it says nothing
abbrev pub Judged : Type 0 → Type 0
Judged X = Result X ScriptFault

infixl 10 ◌>>=◌
-- go on with what was read so far; a fault ends it
abbrev pub ◌>>=◌ : {X Y : Type 0} → Judged X → (X → Judged Y) → Judged Y
(Ok x) >>= more = more x
(Err fault) >>= more = Err fault

-- the bytes of the word at a place; a missing word has none
abbrev pub text_at : List Spelled → ℕ → List ℕ
text_at ws place = of_word (slice_get ws place)
  where
    of_word : Option Spelled → List ℕ
    of_word None = []
    of_word (Some w) = w.word

-- the word at a place is this text
abbrev pub word_is : List Spelled → ℕ → List ℕ → Bool
word_is ws place text = bytes_eq (text_at ws place) text

-- a value of a word, or BadNumber
abbrev pub or_bad : {X : Type 0} → Result X WordFault → Judged X
or_bad (Ok x) = Ok x
or_bad (Err _) = Err BadNumber

-- the number at a place
abbrev pub number_at : List Spelled → ℕ → ℕ → ℕ → Judged ℕ
number_at ws place least greatest = or_bad (number_of (text_at ws place) least greatest)

-- the address at a place
abbrev pub address_at : List Spelled → ℕ → Judged Addr
address_at ws place = or_bad (address_of (text_at ws place))

-- the interface of this name; a word that can't be a name is that of none
abbrev pub known_interface : Option ℕ → Judged ℕ
known_interface None = Err UnknownInterface
known_interface (Some ifc) = Ok ifc

-- the interface that the word at a place names
unfoldable pub interface_at : Known → List Spelled → ℕ → Judged ℕ
interface_at known ws place =
    if is_name (text_at ws place) then known_interface (known.interface_of (text_at ws place)) else Err UnknownInterface

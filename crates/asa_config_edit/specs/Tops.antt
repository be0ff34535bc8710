-- How the top line of a block begins: `no`, where it stands there, and a word of this profile.
use Rattle.std.specs.Prelude.{ℕ, List, codes, Option, Some, None, if◌then◌else◌}
use Rattle.std.specs.Str.{bytes_eq}
use Rattle.asa_text.specs.declared.blocks.Block.{Block}
use Rattle.asa_text.specs.Blocks.{top_text}
use Rattle.asa_text.specs.Words.{Left, Spelled, line_left}
use Rattle.asa_text.specs.Readers.{after_one, next_is, next_word}
use Rattle.asa_config_edit.specs.declared.top.Top.{Top}
use Rattle.asa_config_edit.specs.declared.top.TopWord.{TopWord}
use Rattle.asa_config_edit.specs.declared.top.TopWord.TheVariants as top

-- the words that blocks of this profile begin with
unfoldable pub top_word_of : List ℕ → Option TopWord
top_word_of word =
    if bytes_eq word (codes "interface") then Some top.Interface
    else (if bytes_eq word (codes "object") then Some top.Object
    else (if bytes_eq word (codes "object-group") then Some top.ObjectGroup
    else (if bytes_eq word (codes "access-list") then Some top.AccessList
    else (if bytes_eq word (codes "access-group") then Some top.AccessGroup
    else (if bytes_eq word (codes "same-security-traffic") then Some top.SameSecurityTraffic
    else (if bytes_eq word (codes "route") then Some top.Route
    else (if bytes_eq word (codes "nat") then Some top.Nat
    else (if bytes_eq word (codes "timeout") then Some top.Timeout
    else (if bytes_eq word (codes "asp") then Some top.Asp
    else None)))))))))

-- what is left after a word `no`, where one stands there
abbrev pub after_no : Left → Left
after_no left = if next_is (codes "no") left then after_one left else left

-- how a line begins
unfoldable pub top_at : Left → Top
top_at left = record { no = next_is (codes "no") left; word = of_word (next_word (after_no left)) }
  where
    of_word : Option Spelled → Option TopWord
    of_word None = None
    of_word (Some w) = top_word_of w.word

-- what is left after these words
abbrev pub after_top : Left → Left
after_top left = after_one (after_no left)

-- how the top line of a block begins
abbrev pub top_of : Block → Top
top_of b = top_at (line_left (top_text b))

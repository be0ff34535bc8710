-- What a word means as a port, a protocol or an ICMP type: a number, or a name of a table.
use Rattle.std.specs.Prelude.{ℕ, Bool, not, is_some, ◌&&◌, ◌==◌, List, length, codes, Option, Some, None, Result, Ok, Err, if◌then◌else◌}
use Rattle.std.specs.List.{list_all}
use Rattle.std.specs.Map.{lookup}
use Rattle.std.specs.Str.{bytes_eq}
use Rattle.asa_text.specs.Numbers.{is_digit, number_of}
use Rattle.asa_text.specs.declared.numbers.WordFault.{WordFault}
use Rattle.asa_text.specs.declared.numbers.WordFault.TheVariants.{Empty, UnknownName}
use Rattle.asa_text_names.specs.Tables.{port_names, protocol_names, icmp_names}

-- the number of a name in a table
abbrev pub number_in : List (List ℕ × ℕ) → List ℕ → Option ℕ
number_in table word = lookup (bytes_eq word) table

-- the word is a name of the table
abbrev pub is_named : List (List ℕ × ℕ) → List ℕ → Bool
is_named table word = is_some (number_in table word)

-- a word with a byte that isn't a digit
abbrev pub is_word : List ℕ → Bool
is_word word = not (length word == 0) && not (list_all is_digit word)

-- the number of a name, where it has one
abbrev pub known_or_fault : Option ℕ → Result ℕ WordFault
known_or_fault None = Err UnknownName
known_or_fault (Some n) = Ok n

-- a word of digits is a number between two bounds, and every other word a name of the table
abbrev pub number_or_name : List (List ℕ × ℕ) → ℕ → ℕ → List ℕ → Result ℕ WordFault
number_or_name table least greatest word =
    if length word == 0 then Err Empty
    else (if list_all is_digit word then number_of word least greatest else known_or_fault (number_in table word))

-- a port: 0 to 65535, or its name
unfoldable pub port_of : List ℕ → Result ℕ WordFault
port_of word = number_or_name port_names 0 65535 word

-- an ICMP type: 0 to 255, or its name
unfoldable pub icmp_type_of : List ℕ → Result ℕ WordFault
icmp_type_of word = number_or_name icmp_names 0 255 word

-- a stated value
abbrev pub stated : Result ℕ WordFault → Result (Option ℕ) WordFault
stated (Ok n) = Ok (Some n)
stated (Err fault) = Err fault

-- the word `ip`
abbrev pub is_ip : List ℕ → Bool
is_ip word = bytes_eq word (codes "ip")

-- a protocol: 1 to 255, or its name; `ip` is every protocol
unfoldable pub proto_of : List ℕ → Result (Option ℕ) WordFault
proto_of word = if is_ip word then Ok None else stated (number_or_name protocol_names 1 255 word)

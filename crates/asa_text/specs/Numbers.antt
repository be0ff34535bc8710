-- What a word means as a number, an address or a mask, and why it doesn't mean one.
use Rattle.std.specs.Prelude.{ℕ, ◌+◌, ◌-◌, ◌*◌, ◌^◌, Bool, not, ◌&&◌, ◌==◌, nat_le, List, length, Option, Some, None, Result, Ok, Err, if◌then◌else◌}
use Rattle.std.specs.List.{list_all, fold, find, range_with_len}
use Rattle.std.specs.Str.Parse.{digits_value}
use Rattle.asa_text.specs.declared.numbers.Addr.{Addr}
use Rattle.asa_text.specs.declared.numbers.WordFault.{WordFault}
use Rattle.asa_text.specs.declared.numbers.WordFault.TheVariants.{Empty, NotANumber, OutOfRange}
use Rattle.asa_text.specs.Runs.{runs_between}

-- an ASCII digit
abbrev pub is_digit : ℕ → Bool
is_digit b = nat_le 48 b && nat_le b 57

-- between two bounds, both of which count
abbrev pub is_within : ℕ → ℕ → ℕ → Bool
is_within least greatest n = nat_le least n && nat_le n greatest

-- the decimal number of a word, between two bounds; leading zeros are allowed
unfoldable pub number_of : List ℕ → ℕ → ℕ → Result ℕ WordFault
number_of word least greatest =
    if length word == 0 then Err Empty
    else (if not (list_all is_digit word) then Err NotANumber
    else (if is_within least greatest (digits_value 10 word) then Ok (digits_value 10 word) else Err OutOfRange))

-- the runs of a word between its dots
abbrev pub runs : List ℕ → List (List ℕ)
runs word = runs_between 46 word

-- a run of digits that isn't empty
abbrev pub is_number : List ℕ → Bool
is_number run = not (length run == 0) && list_all is_digit run

-- a run of at most three digits that stands for a byte
abbrev pub is_octet : List ℕ → Bool
is_octet run = nat_le (length run) 3 && nat_le (digits_value 10 run) 255

-- the number that octets stand for, the first the highest
abbrev pub octets_value : List (List ℕ) → ℕ
octets_value rs = fold (λ v run. v * 256 + digits_value 10 run) 0 rs

-- four runs of digits joined by three dots
abbrev pub has_address_form : List ℕ → Bool
has_address_form word = (length (runs word) == 4) && list_all is_number (runs word)

-- the address of four runs
abbrev pub address_of_runs : List (List ℕ) → Result Addr WordFault
address_of_runs rs =
    if not (list_all is_number rs) then Err NotANumber
    else (if not (list_all is_octet rs) then Err OutOfRange else Ok (record { 0 = octets_value rs }))

-- the address of a word: four runs of digits joined by three dots
unfoldable pub address_of : List ℕ → Result Addr WordFault
address_of word =
    if length word == 0 then Err Empty
    else (if length (runs word) == 4 then address_of_runs (runs word) else Err NotANumber)

-- the 32 bits of a mask with this many ones, followed by zeros
abbrev pub mask_bits : ℕ → ℕ
mask_bits ones = 2 ^ 32 - 2 ^ (32 - ones)

-- how many ones a mask has, where its bits are ones followed by zeros
unfoldable pub ones_of : ℕ → Option ℕ
ones_of bits = find (λ ones. mask_bits ones == bits) (range_with_len 0 33)

-- the number of ones of a word that is a mask
unfoldable pub mask_of : List ℕ → Result ℕ WordFault
mask_of word = of_address (address_of word)
  where
    of_ones : Option ℕ → Result ℕ WordFault
    of_ones None = Err OutOfRange
    of_ones (Some ones) = Ok ones

    of_address : Result Addr WordFault → Result ℕ WordFault
    of_address (Err fault) = Err fault
    of_address (Ok addr) = of_ones (ones_of addr.0)

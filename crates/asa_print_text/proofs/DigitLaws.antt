-- Printed numbers are read back.
use Rattle.std.proofs.Common.{◌≡◌, ◌==◌, ℕ, ◌<◌, ◌≤◌, ◌^◌, true, false, nat_le, List, [], ◌∷◌, length, decimal, Ok, refl, ap, sym, ◌∙◌, arith, rules}
use Rattle.std.specs.List.{All, list_all}
use Rattle.std.specs.Str.{bytes_eq}
use Rattle.std.specs.Str.Parse.{digits_value}
use Rattle.std.proofs.lemmas.Fmt.{digits_decimal, digits_value-decimal, decimal_nonempty}
use Rattle.std.proofs.lemmas.Str.Parse.{IsNumeralModel, numerals_by_value}
use Rattle.std.proofs.lemmas.List.Elements.{All-nil, All-cons}
use Rattle.std.proofs.lemmas.Bool.{and_parts, false≢true}
use Rattle.std.proofs.lemmas.Bool.Decides.{nat_tests}
use Rattle.asa_text.specs.Numbers.{is_digit, is_number, number_of}
use Rattle.asa_print_text.specs.Spelling.{is_inner, is_plain}
use Rattle.asa_print_text.proofs.ByteLaws.{differs}

-- digits as std's laws know them
pub numerals : IsNumeralModel (λ ds. list_all is_digit ds ≡ true) (digits_value 10)
numerals = numerals_by_value _ (search rules)

pub decimal_digits : (n : ℕ) → n < 2 ^ 64 → list_all is_digit (decimal n) ≡ true
decimal_digits n h = digits_decimal numerals n h

pub decimal_value : (n : ℕ) → n < 2 ^ 64 → digits_value 10 (decimal n) ≡ n
decimal_value n h = digits_value-decimal numerals n h

-- a digit is of a word
digit_inner : (b : ℕ) → is_digit b ≡ true → is_inner b ≡ true
digit_inner b h =
    let least : nat_le 48 b ≡ true = (and_parts _ _ h).0 in
    grind (arith, nat_tests, least)

pub digits_inner : (ds : List ℕ) → list_all is_digit ds ≡ true → list_all is_inner ds ≡ true
digits_inner [] h = refl
digits_inner (b ∷ bs) h =
    let parts = and_parts _ _ h in
    rw (digit_inner b parts.0, digits_inner bs parts.1)

pub some_length : (ds : List ℕ) → 0 < length ds → (length ds == 0) ≡ false
some_length ds h = grind (arith, nat_tests)

pub no_length : (n : ℕ) → n < 2 ^ 64 → (length (decimal n) == 0) ≡ false
no_length n h = some_length (decimal n) (decimal_nonempty n h)

-- a printed number is a word
pub plain_decimal : (n : ℕ) → n < 2 ^ 64 → is_plain (decimal n) ≡ true
plain_decimal n h = rw (no_length n h, digits_inner (decimal n) (decimal_digits n h))

pub number_decimal_is : (n : ℕ) → n < 2 ^ 64 → is_number (decimal n) ≡ true
number_decimal_is n h = rw (no_length n h, decimal_digits n h)

-- a byte that is no digit isn't in digits
not_there : (c b : ℕ) → is_digit b ≡ true → is_digit c ≡ false → (b == c) ≡ false
not_there c b is other = grind (arith, nat_tests)

pub none_there : (c : ℕ) (ds : List ℕ) → is_digit c ≡ false → list_all is_digit ds ≡ true → All (λ b. (b == c) ≡ false) ds
none_there c [] other h = All-nil (λ b. (b == c) ≡ false)
none_there c (b ∷ bs) other h =
    let parts = and_parts _ _ h in
    All-cons (λ x. (x == c) ≡ false) b bs (not_there c b parts.0 other) (none_there c bs other parts.1)

within : (least n greatest : ℕ) → least ≤ n → n ≤ greatest → (nat_le least n ≡ true) × (nat_le n greatest ≡ true)
within least n greatest low high = (grind (arith, nat_tests), grind (arith, nat_tests))

-- a printed number between two bounds is read as that number
pub number_decimal : (least greatest n : ℕ) → least ≤ n → n ≤ greatest → n < 2 ^ 64 → number_of (decimal n) least greatest ≡ Ok n
unfolding number_of
number_decimal least greatest n low high small =
    let bounds = within least n greatest low high in
    rw (no_length n small, decimal_digits n small, decimal_value n small, bounds.0, bounds.1)

digits_not : (v w : List ℕ) → list_all is_digit v ≡ true → list_all is_digit w ≡ false → v ≡ w → ⊥
digits_not v w yes_all no_all e = false≢true (sym no_all ∙ ap (list_all is_digit) (sym e) ∙ yes_all)

-- a printed number is no word that has another byte
pub number_no_word : (n : ℕ) (v : List ℕ) → n < 2 ^ 64 → list_all is_digit v ≡ false → bytes_eq (decimal n) v ≡ false
number_no_word n v small other = differs (decimal n) v (digits_not (decimal n) v (decimal_digits n small) other)

-- Printed addresses and masks are read back.
use Rattle.std.proofs.Common.{◌≡◌, ◌==◌, ◌||◌, ◌&&◌, ℕ, ◌+◌, ◌-◌, ◌*◌, ◌/◌, ◌%◌, ◌<◌, ◌≤◌, ◌^◌, Bool, true, false, nat_le, List, [], ◌∷◌, ◌++◌, length, decimal, codes, Option, Some, None, Ok, refl, ap, ◌∙◌, arith}
use Rattle.std.specs.List.{All, list_all, list_any}
use Rattle.std.specs.Str.{bytes_eq}
use Rattle.std.specs.Str.Parse.{digits_value}
use Rattle.std.proofs.Math.Nat.{div-div-eq-div-mul}
use Rattle.std.proofs.lemmas.List.{append_assoc, length-append}
use Rattle.std.proofs.lemmas.List.Splits.{slice_split_at, slice_split_none}
use Rattle.std.proofs.lemmas.List.Folds.{list_all-append, list_any-append}
use Rattle.std.proofs.lemmas.Fmt.{length-decimal-le, decimal_nonempty}
use Rattle.std.proofs.lemmas.Nat.{pow_pos}
use Rattle.std.proofs.lemmas.Bool.{and_parts, agree_below_at}
use Rattle.std.proofs.lemmas.Bool.Decides.{nat_tests}
use Rattle.asa_text.specs.declared.numbers.Addr.{Addr}
use Rattle.asa_text.specs.Numbers.{is_digit, is_number, is_octet, runs, address_of, address_of_runs, octets_value, mask_bits, mask_of, ones_of}
use Rattle.asa_text.specs.Printed.{dotted}
use Rattle.asa_print_text.specs.Spelling.{is_inner, is_plain}
use Rattle.asa_print_text.specs.Words.{mask_addr}
use Rattle.asa_print_text.proofs.ByteLaws.{told_apart}
use Rattle.asa_print_text.proofs.DigitLaws.{decimal_digits, decimal_value, number_decimal_is, none_there, digits_inner, some_length}

-- four words joined by dots
abbrev joined : List ℕ → List ℕ → List ℕ → List ℕ → List ℕ
joined a b c d = a ++ 46 ∷ (b ++ 46 ∷ (c ++ 46 ∷ d))

same_join : (a b c d : List ℕ) → a ++ codes "." ++ b ++ codes "." ++ c ++ codes "." ++ d ≡ joined a b c d
same_join a b c d = simp append_assoc

-- the octets of an address, the first the highest
abbrev first_octet : Addr → ℕ
first_octet a = a.0 / 2 ^ 24

abbrev second_octet : Addr → ℕ
second_octet a = a.0 / 2 ^ 16 % 256

abbrev third_octet : Addr → ℕ
third_octet a = a.0 / 2 ^ 8 % 256

abbrev fourth_octet : Addr → ℕ
fourth_octet a = a.0 % 256

dotted_is : (a : Addr) → dotted a ≡ joined (decimal (first_octet a)) (decimal (second_octet a)) (decimal (third_octet a)) (decimal (fourth_octet a))
unfolding dotted
dotted_is a = same_join (decimal (first_octet a)) (decimal (second_octet a)) (decimal (third_octet a)) (decimal (fourth_octet a))

no_dots : (n : ℕ) → n < 256 → All (λ b. (b == 46) ≡ false) (decimal n)
no_dots n h = none_there 46 (decimal n) refl (decimal_digits n (omega arith))

runs_joined : (a b c d : ℕ) → a < 256 → b < 256 → c < 256 → d < 256
    → runs (joined (decimal a) (decimal b) (decimal c) (decimal d)) ≡ decimal a ∷ decimal b ∷ decimal c ∷ decimal d ∷ []
runs_joined a b c d ha hb hc hd =
    let p = λ (x : ℕ). x == 46 in
    slice_split_at p (decimal a) 46 (decimal b ++ 46 ∷ (decimal c ++ 46 ∷ decimal d)) (no_dots a ha) refl
    ∙ ap (λ rest. decimal a ∷ rest)
    (slice_split_at p (decimal b) 46 (decimal c ++ 46 ∷ decimal d) (no_dots b hb) refl
    ∙ ap (λ rest. decimal b ∷ rest)
    (slice_split_at p (decimal c) 46 (decimal d) (no_dots c hc) refl
    ∙ ap (λ rest. decimal c ∷ rest) (slice_split_none p (decimal d) (no_dots d hd))))

octet_tests : (len value : ℕ) → len ≤ 3 → value < 256 → (nat_le len 3 ≡ true) × (nat_le value 255 ≡ true)
octet_tests len value short small = (grind (arith, nat_tests), grind (arith, nat_tests))

octet_decimal : (n : ℕ) → n < 256 → is_octet (decimal n) ≡ true
octet_decimal n h =
    let tests = octet_tests (length (decimal n)) n (length-decimal-le 3 n (omega arith) (omega arith) (omega arith)) h in
    rw (decimal_value n (omega arith), tests.0, tests.1)

number_octet : (n : ℕ) → n < 256 → is_number (decimal n) ≡ true
number_octet n h = number_decimal_is n (omega arith)

value_octet : (n : ℕ) → n < 256 → digits_value 10 (decimal n) ≡ n
value_octet n h = decimal_value n (omega arith)

-- the address of runs, by what the tests say of them
address_when : (rs : List (List ℕ)) (v : ℕ) → list_all is_number rs ≡ true → list_all is_octet rs ≡ true → octets_value rs ≡ v
    → address_of_runs rs ≡ Ok (record { 0 = v })
address_when rs v numbers octets value = rw (numbers, octets, value)

four_numbers : (a b c d : ℕ) → a < 256 → b < 256 → c < 256 → d < 256
    → list_all is_number (decimal a ∷ decimal b ∷ decimal c ∷ decimal d ∷ []) ≡ true
four_numbers a b c d ha hb hc hd = rw (number_octet a ha, number_octet b hb, number_octet c hc, number_octet d hd)

four_octets : (a b c d : ℕ) → a < 256 → b < 256 → c < 256 → d < 256
    → list_all is_octet (decimal a ∷ decimal b ∷ decimal c ∷ decimal d ∷ []) ≡ true
four_octets a b c d ha hb hc hd = rw (octet_decimal a ha, octet_decimal b hb, octet_decimal c hc, octet_decimal d hd)

four_values : (a b c d : ℕ) → a < 256 → b < 256 → c < 256 → d < 256
    → octets_value (decimal a ∷ decimal b ∷ decimal c ∷ decimal d ∷ []) ≡ ((a * 256 + b) * 256 + c) * 256 + d
four_values a b c d ha hb hc hd =
    rw (value_octet a ha, value_octet b hb, value_octet c hc, value_octet d hd)
    (ap (λ x. ((x + b) * 256 + c) * 256 + d) (ap (λ x. x * 256) (omega arith)))

runs_address : (a b c d : ℕ) → a < 256 → b < 256 → c < 256 → d < 256
    → address_of_runs (decimal a ∷ decimal b ∷ decimal c ∷ decimal d ∷ []) ≡ Ok (record { 0 = ((a * 256 + b) * 256 + c) * 256 + d })
runs_address a b c d ha hb hc hd =
    address_when (decimal a ∷ decimal b ∷ decimal c ∷ decimal d ∷ []) (((a * 256 + b) * 256 + c) * 256 + d)
    (four_numbers a b c d ha hb hc hd) (four_octets a b c d ha hb hc hd) (four_values a b c d ha hb hc hd)

-- the octets of an address are those of its number
octets_back : (a : ℕ) → ((a / 2 ^ 24 * 256 + a / 2 ^ 16 % 256) * 256 + a / 2 ^ 8 % 256) * 256 + a % 256 ≡ a
octets_back a =
    let second : a / 2 ^ 8 / 2 ^ 8 ≡ a / 2 ^ 16 = div-div-eq-div-mul a (2 ^ 8) (2 ^ 8) in
    let third : a / 2 ^ 16 / 2 ^ 8 ≡ a / 2 ^ 24 = div-div-eq-div-mul a (2 ^ 16) (2 ^ 8) in
    omega (arith, second, third)

-- the address of a word, by its runs
address_by : (w : List ℕ) (rs : List (List ℕ)) (v : Addr) → (length w == 0) ≡ false → runs w ≡ rs → (length rs == 4) ≡ true
    → address_of_runs rs ≡ Ok v → address_of w ≡ Ok v
unfolding address_of
address_by w rs v some same four value = rw (some, same, four, value)

joined_some : (a b c d : List ℕ) → 0 < length a → (length (joined a b c d) == 0) ≡ false
joined_some a b c d h = some_length (joined a b c d) (omega (arith, length-append a (46 ∷ (b ++ 46 ∷ (c ++ 46 ∷ d)))))

joined_back : (a b c d : ℕ) → a < 256 → b < 256 → c < 256 → d < 256
    → address_of (joined (decimal a) (decimal b) (decimal c) (decimal d)) ≡ Ok (record { 0 = ((a * 256 + b) * 256 + c) * 256 + d })
joined_back a b c d ha hb hc hd =
    address_by (joined (decimal a) (decimal b) (decimal c) (decimal d)) (decimal a ∷ decimal b ∷ decimal c ∷ decimal d ∷ [])
    (record { 0 = ((a * 256 + b) * 256 + c) * 256 + d })
    (joined_some (decimal a) (decimal b) (decimal c) (decimal d) (decimal_nonempty a (omega arith)))
    (runs_joined a b c d ha hb hc hd) refl (runs_address a b c d ha hb hc hd)

octets_small : (a : ℕ) → a < 2 ^ 32 → (a / 2 ^ 24 < 256) × (a / 2 ^ 16 % 256 < 256) × (a / 2 ^ 8 % 256 < 256) × (a % 256 < 256)
octets_small a h = (omega arith, omega arith, omega arith, omega arith)

-- a printed address is read as that address
pub address_dotted : (a : Addr) → a.0 < 2 ^ 32 → address_of (dotted a) ≡ Ok a
address_dotted a h =
    let small = octets_small a.0 h in
    ap address_of (dotted_is a)
    ∙ joined_back (first_octet a) (second_octet a) (third_octet a) (fourth_octet a) small.0 small.1 small.2 small.3
    ∙ ap (λ v. Ok (record { 0 = v })) (octets_back a.0)

inner_joined : (a b c d : List ℕ) → list_all is_inner a ≡ true → list_all is_inner b ≡ true → list_all is_inner c ≡ true → list_all is_inner d ≡ true
    → list_all is_inner (joined a b c d) ≡ true
inner_joined a b c d ha hb hc hd = simp (list_all-append, ha, hb, hc, hd)

inner_octet : (n : ℕ) → n < 256 → list_all is_inner (decimal n) ≡ true
inner_octet n h = digits_inner (decimal n) (decimal_digits n (omega arith))

plain_when : (w : List ℕ) → (length w == 0) ≡ false → list_all is_inner w ≡ true → is_plain w ≡ true
plain_when w some inner = rw (some, inner)

-- a printed address is a word
pub plain_dotted : (a : Addr) → a.0 < 2 ^ 32 → is_plain (dotted a) ≡ true
plain_dotted a h =
    let small = octets_small a.0 h in
    rw (dotted_is a)
    (plain_when (joined (decimal (first_octet a)) (decimal (second_octet a)) (decimal (third_octet a)) (decimal (fourth_octet a)))
    (joined_some (decimal (first_octet a)) (decimal (second_octet a)) (decimal (third_octet a)) (decimal (fourth_octet a)) (decimal_nonempty (first_octet a) (omega (arith, small.0))))
    (inner_joined (decimal (first_octet a)) (decimal (second_octet a)) (decimal (third_octet a)) (decimal (fourth_octet a))
    (inner_octet (first_octet a) small.0) (inner_octet (second_octet a) small.1) (inner_octet (third_octet a) small.2) (inner_octet (fourth_octet a) small.3)))

-- a byte of digits and dots
abbrev is_dotted_byte : ℕ → Bool
is_dotted_byte b = is_digit b || (b == 46)

-- digits and at least one dot
abbrev pub is_dotted_word : List ℕ → Bool
is_dotted_word w = list_all is_dotted_byte w && list_any (λ b. b == 46) w

digit_or_dot : (ds : List ℕ) → list_all is_digit ds ≡ true → list_all is_dotted_byte ds ≡ true
digit_or_dot [] h = refl
digit_or_dot (b ∷ bs) h =
    let here : is_digit b ≡ true = (and_parts _ _ h).0 in
    let more : list_all is_digit bs ≡ true = (and_parts _ _ h).1 in
    rw (here, digit_or_dot bs more)

dots_joined : (a b c d : List ℕ) → list_all is_dotted_byte a ≡ true → list_all is_dotted_byte b ≡ true → list_all is_dotted_byte c ≡ true → list_all is_dotted_byte d ≡ true
    → list_all is_dotted_byte (joined a b c d) ≡ true
dots_joined a b c d ha hb hc hd = simp (list_all-append, ha, hb, hc, hd)

or_true : (b : Bool) → (b || true) ≡ true
or_true true = refl
or_true false = refl

dot_there : (a b c d : List ℕ) → list_any (λ x. x == 46) (joined a b c d) ≡ true
dot_there a b c d = list_any-append (λ x. x == 46) a (46 ∷ (b ++ 46 ∷ (c ++ 46 ∷ d))) ∙ or_true (list_any (λ x. x == 46) a)

dotted_octet : (n : ℕ) → n < 256 → list_all is_dotted_byte (decimal n) ≡ true
dotted_octet n h = digit_or_dot (decimal n) (decimal_digits n (omega arith))

dotted_word : (a : Addr) → a.0 < 2 ^ 32 → is_dotted_word (dotted a) ≡ true
dotted_word a h =
    let small = octets_small a.0 h in
    rw (
      dotted_is a,
      dot_there (decimal (first_octet a)) (decimal (second_octet a)) (decimal (third_octet a)) (decimal (fourth_octet a)),
      dots_joined (decimal (first_octet a)) (decimal (second_octet a)) (decimal (third_octet a)) (decimal (fourth_octet a))
          (dotted_octet (first_octet a) small.0) (dotted_octet (second_octet a) small.1) (dotted_octet (third_octet a) small.2) (dotted_octet (fourth_octet a) small.3),
    )

-- a printed address is no word of another form
pub dotted_no_word : (a : Addr) (v : List ℕ) → a.0 < 2 ^ 32 → is_dotted_word v ≡ false → bytes_eq (dotted a) v ≡ false
dotted_no_word a v h other = told_apart is_dotted_word (dotted a) v (dotted_word a h) other

no_colon_in : (w : List ℕ) → list_all is_dotted_byte w ≡ true → list_any (λ b. b == 58) w ≡ false
no_colon_in [] h = refl
no_colon_in (b ∷ bs) h =
    let here : is_dotted_byte b ≡ true = (and_parts _ _ h).0 in
    let more : list_all is_dotted_byte bs ≡ true = (and_parts _ _ h).1 in
    rw (colon_byte b here, no_colon_in bs more)
  where
    colon_byte : (b : ℕ) → is_dotted_byte b ≡ true → (b == 58) ≡ false
    colon_byte b h = grind (arith, nat_tests)

-- no colon stands in a printed address
pub no_colon : (a : Addr) → a.0 < 2 ^ 32 → list_any (λ b. b == 58) (dotted a) ≡ false
no_colon a h = no_colon_in (dotted a) (and_parts _ _ (dotted_word a h)).0

-- the ones of a mask are those that it was printed for: 33 cases
abbrev is_some_of : Option ℕ → ℕ → Bool
is_some_of None n = false
is_some_of (Some m) n = m == n

some_of : (o : Option ℕ) (n : ℕ) → is_some_of o n ≡ true → o ≡ Some n
some_of None n h = cc
some_of (Some m) n h = ap Some (same m n h)
  where
    same : (m n : ℕ) → (m == n) ≡ true → m ≡ n
    same m n h = grind (arith, nat_tests)

ones_back : (len : ℕ) → len ≤ 32 → ones_of (mask_bits len) ≡ Some len
unfolding ones_of
ones_back len h =
    some_of (ones_of (mask_bits len)) len (agree_below_at (λ n. is_some_of (ones_of (mask_bits n)) n) (λ _. true) 33 len refl (omega arith))

mask_small : (len : ℕ) → len ≤ 32 → mask_bits len < 2 ^ 32
mask_small len h = omega (arith, pow_pos (32 - len))

mask_when : (w : List ℕ) (a : Addr) (len : ℕ) → address_of w ≡ Ok a → ones_of a.0 ≡ Some len → mask_of w ≡ Ok len
unfolding mask_of
mask_when w a len address ones = rw (address, ones)

-- a printed mask is read as its number of ones
pub mask_dotted : (len : ℕ) → len ≤ 32 → mask_of (dotted (mask_addr len)) ≡ Ok len
mask_dotted len h = mask_when (dotted (mask_addr len)) (mask_addr len) len (address_dotted (mask_addr len) (mask_small len h)) (ones_back len h)

pub plain_mask : (len : ℕ) → len ≤ 32 → is_plain (dotted (mask_addr len)) ≡ true
plain_mask len h = plain_dotted (mask_addr len) (mask_small len h)

pub mask_no_word : (len : ℕ) (v : List ℕ) → len ≤ 32 → is_dotted_word v ≡ false → bytes_eq (dotted (mask_addr len)) v ≡ false
mask_no_word len v h other = dotted_no_word (mask_addr len) v (mask_small len h) other

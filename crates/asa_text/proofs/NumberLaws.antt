-- The number that digits write, one digit after another.
use Rattle.std.proofs.Common.{◌≡◌, ◌==◌, ℕ, ◌+◌, ◌-◌, ◌*◌, Bool, zero, suc, cond, Some, ◌<◌, ◌≤◌, true, false, List, [], ◌∷◌, length, take, get_or, refl, arith}
use Rattle.std.specs.List.{find, range_with_len, list_all}
use Rattle.std.proofs.lemmas.List.Splits.{length-slice_split}
use Rattle.asa_text.specs.Numbers.{is_digit, runs}
use Rattle.std.specs.Char.{digit_value}
use Rattle.std.specs.Str.Parse.{digits_value}
use Rattle.std.proofs.lemmas.Int.Digits.{digits_value_more}
use Rattle.std.proofs.lemmas.Str.Parse.{digits_value-take-le}

-- one more digit
pub value_more : (ds : List ℕ) (i : ℕ) → i < length ds → digits_value 10 (take (i + 1) ds) ≡ digits_value 10 (take i ds) * 10 + digit_value (get_or ds i 0)
value_more ds i h = digits_value_more 10 ds i h

-- the digits so far write no more than all of them
pub value_le : (ds : List ℕ) (i : ℕ) → digits_value 10 (take i ds) ≤ digits_value 10 ds
value_le ds i = digits_value-take-le 10 ds i (omega arith)

-- a word without a byte has no byte that isn't a digit
pub empty_digits : (word : List ℕ) → length word ≡ 0 → list_all is_digit word ≡ true
empty_digits [] h = refl
empty_digits (b ∷ bs) h = absurd (omega arith)

-- each word has a run
pub runs_some : (word : List ℕ) → 0 < length (runs word)
runs_some word = omega (arith, length-slice_split (λ b. b == 46) word)

-- a search over numbers, one number on
find_next : (p : ℕ → Bool) (a n : ℕ) → 0 < n → find p (range_with_len a n) ≡ cond (p a) (Some a) (find p (range_with_len (a + 1) (n - 1)))
find_next p a zero h = absurd (omega arith)
find_next p a (suc n) h =
    let e : suc n - 1 ≡ n = omega arith in
    rw e

-- a search over numbers ends where the test passes, and goes on where it doesn't
pub find_here : (p : ℕ → Bool) (a n : ℕ) → 0 < n → p a ≡ true → find p (range_with_len a n) ≡ Some a
find_here p a n h here = rw (find_next p a n h, here)

pub find_on : (p : ℕ → Bool) (a n m : ℕ) → n ≡ m + 1 → p a ≡ false → find p (range_with_len a n) ≡ find p (range_with_len (a + 1) m)
find_on p a n m e there =
    let less : n - 1 ≡ m = omega arith in
    rw (find_next p a n (omega arith), there, less)

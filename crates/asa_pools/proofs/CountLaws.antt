-- Tests of lists, by how many of their elements pass.
use Rattle.std.proofs.Common.{◌≡◌, ℕ, ◌+◌, ◌<◌, ◌≤◌, Bool, true, false, not, cond, ◌&&◌, ◌||◌, nat_lt, List, [], ◌∷◌, refl, sym, ap, ◌∙◌, arith}
use Rattle.std.specs.Prelude.{◌==◌}
use Rattle.std.specs.List.{count_by, list_all, list_any}
use Rattle.std.proofs.lemmas.Bool.{and_parts, cases_Bool, eq-eqb, false≢true, lt-ltb, ltb-false, ltb-true, ne_eqb}
use Rattle.std.proofs.lemmas.List.Sums.{sum_by-cons}

pub count_cons : {A : Type 0} (t : A → Bool) (x : A) (xs : List A) → count_by t (x ∷ xs) ≡ cond (t x) 1 0 + count_by t xs
count_cons t x xs = sum_by-cons (λ y. cond (t y) 1 0) x xs

pub count_yes : {A : Type 0} (t : A → Bool) (x : A) (xs : List A) → t x ≡ true → count_by t (x ∷ xs) ≡ 1 + count_by t xs
count_yes t x xs e = count_cons t x xs ∙ ap (λ b. cond b 1 0 + count_by t xs) e

pub count_no : {A : Type 0} (t : A → Bool) (x : A) (xs : List A) → t x ≡ false → count_by t (x ∷ xs) ≡ 0 + count_by t xs
count_no t x xs e = count_cons t x xs ∙ ap (λ b. cond b 1 0 + count_by t xs) e

-- one passes where some are counted
pub some_counted : {A : Type 0} (t : A → Bool) (xs : List A) → nat_lt 0 (count_by t xs) ≡ list_any t xs
some_counted t [] = refl
some_counted {A} t (x ∷ xs) = by (some_counted t xs) (t x) refl
  where
    by : nat_lt 0 (count_by t xs) ≡ list_any t xs → (b : Bool) → t x ≡ b → nat_lt 0 (count_by t (x ∷ xs)) ≡ list_any t (x ∷ xs)
    by ih true e = lt-ltb 0 (count_by t (x ∷ xs)) (omega (arith, count_yes t x xs e)) ∙ sym (ap (λ c. c || list_any t xs) e)
    by ih false e = ap (nat_lt 0) (omega (arith, count_no t x xs e)) ∙ ih ∙ sym (ap (λ c. c || list_any t xs) e)

pub any_counted : {A : Type 0} (t : A → Bool) (xs : List A) (n : ℕ) → n ≡ count_by t xs → nat_lt 0 n ≡ list_any t xs
any_counted t xs n e = ap (nat_lt 0) e ∙ some_counted t xs

-- none passes where none is counted
pub none_counted : {A : Type 0} (t : A → Bool) (xs : List A) (n : ℕ) → n ≡ count_by t xs → (n == 0) ≡ not (list_any t xs)
none_counted {A} t xs n e = by (list_any t xs) refl
  where
    by : (b : Bool) → list_any t xs ≡ b → (n == 0) ≡ not (list_any t xs)
    by true is = ne_eqb n 0 (λ zero. omega (arith, zero, ltb-true 0 n (any_counted t xs n e ∙ is))) ∙ ap not (sym is)
    by false is = eq-eqb n 0 (omega (arith, ltb-false 0 n (any_counted t xs n e ∙ is))) ∙ ap not (sym is)

pub or_swap : (a b c d : Bool) → ((a || b) || (c || d)) ≡ ((a || c) || (b || d))
or_swap true b c d = refl
or_swap false true true d = refl
or_swap false true false d = refl
or_swap false false c d = refl

-- one passes a test that is one or the other
pub any_or : {A : Type 0} (p q r : A → Bool) → ((x : A) → r x ≡ (p x || q x)) → (xs : List A) → list_any r xs ≡ (list_any p xs || list_any q xs)
any_or p q r is [] = refl
any_or p q r is (x ∷ xs) =
    ap (λ b. b || list_any r xs) (is x) ∙ ap (λ b. (p x || q x) || b) (any_or p q r is xs) ∙ or_swap (p x) (q x) (list_any p xs) (list_any q xs)

pub not_or : (a b : Bool) → not (a || b) ≡ (not a && not b)
not_or true b = refl
not_or false b = refl

pub and_or : (a b c : Bool) → (a && (b || c)) ≡ ((a && b) || (a && c))
and_or true b c = refl
and_or false b c = refl

-- all pass where none passes the opposite test
pub all_not : {A : Type 0} (p q : A → Bool) → ((x : A) → p x ≡ not (q x)) → (xs : List A) → list_all p xs ≡ not (list_any q xs)
all_not p q is [] = refl
all_not p q is (x ∷ xs) =
    ap (λ b. b && list_all p xs) (is x) ∙ ap (λ b. not (q x) && b) (all_not p q is xs) ∙ sym (not_or (q x) (list_any q xs))

pub not_shared : (a : Bool) → (not a || false) ≡ not a
not_shared true = refl
not_shared false = refl

pub shared : (a b c : Bool) → (not a || (not b && not c)) ≡ not (a && (b || c))
shared true true c = refl
shared true false c = refl
shared false b c = refl

-- one test is part of another
module _ {A : Type 0} (t u : A → Bool) (part : (x : A) → u x ≡ true → t x ≡ true) where
  abbrev pub both : A → Bool
  both x = not (t x) || u x

  pub count_part : (xs : List A) → count_by u xs ≤ count_by t xs
  count_part [] = omega arith
  count_part (x ∷ xs) = by (count_part xs) (t x) refl (u x) refl
    where
      by : count_by u xs ≤ count_by t xs → (b : Bool) → t x ≡ b → (c : Bool) → u x ≡ c → count_by u (x ∷ xs) ≤ count_by t (x ∷ xs)
      by ih true et true eu = omega (arith, ih, count_yes t x xs et, count_yes u x xs eu)
      by ih true et false eu = omega (arith, ih, count_yes t x xs et, count_no u x xs eu)
      by ih false et true eu = absurd (false≢true (sym et ∙ part x eu))
      by ih false et false eu = omega (arith, ih, count_no t x xs et, count_no u x xs eu)

  pub all_equal : (xs : List A) → list_all both xs ≡ true → count_by t xs ≡ count_by u xs
  all_equal [] h = refl
  all_equal (x ∷ xs) h = by (all_equal xs (and_parts _ _ h).1) (t x) refl (u x) refl
    where
      by : count_by t xs ≡ count_by u xs → (b : Bool) → t x ≡ b → (c : Bool) → u x ≡ c → count_by t (x ∷ xs) ≡ count_by u (x ∷ xs)
      by ih true et true eu = omega (arith, ih, count_yes t x xs et, count_yes u x xs eu)
      by ih true et false eu = absurd (false≢true (sym (ap (λ b. not b || u x) et ∙ eu) ∙ (and_parts _ _ h).0))
      by ih false et true eu = absurd (false≢true (sym et ∙ part x eu))
      by ih false et false eu = omega (arith, ih, count_no t x xs et, count_no u x xs eu)

  pub not_all_less : (xs : List A) → list_all both xs ≡ false → count_by u xs < count_by t xs
  not_all_less [] h = absurd (false≢true (sym h))
  not_all_less (x ∷ xs) h = by (not_all_less xs) (t x) refl (u x) refl
    where
      by : (list_all both xs ≡ false → count_by u xs < count_by t xs) → (b : Bool) → t x ≡ b → (c : Bool) → u x ≡ c → count_by u (x ∷ xs) < count_by t (x ∷ xs)
      by ih true et true eu = omega (
        arith,
        ih (sym (ap (λ b. (not b || u x) && list_all both xs) et ∙ ap (λ b. b && list_all both xs) eu) ∙ h),
        count_yes t x xs et,
        count_yes u x xs eu,
      )
      by ih true et false eu = omega (arith, count_part xs, count_yes t x xs et, count_no u x xs eu)
      by ih false et true eu = absurd (false≢true (sym et ∙ part x eu))
      by ih false et false eu = omega (arith, ih (sym (ap (λ b. (not b || u x) && list_all both xs) et) ∙ h), count_no t x xs et, count_no u x xs eu)

  -- all that pass the one pass the other, where as many do
  pub all_counted : (xs : List A) (n m : ℕ) → n ≡ count_by t xs → m ≡ count_by u xs → (n == m) ≡ list_all (λ x. not (t x) || u x) xs
  all_counted xs n m en em = by (list_all both xs) refl
    where
      by : (b : Bool) → list_all both xs ≡ b → (n == m) ≡ list_all both xs
      by true is = eq-eqb n m (omega (arith, en, em, all_equal xs is)) ∙ sym is
      by false is = ne_eqb n m (λ same. omega (arith, same, en, em, not_all_less xs is)) ∙ sym is

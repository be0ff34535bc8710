-- The first number of a range that passes a test, or that has an answer.
use Rattle.std.proofs.Common.{◌≡◌, ℕ, zero, suc, ◌+◌, ◌-◌, ◌<◌, ◌≤◌, Bool, true, false, cond, List, [], ◌∷◌, Option, Some, None, refl, sym, ap, ◌∙◌, subst, arith}
use Rattle.std.specs.List.{find, range_with_len}
use Rattle.std.specs.Option.{option_or}
use Rattle.asa_pools.specs.Pools.{first_of, numbers}

pub numbers_step : (n last : ℕ) → n ≤ last → numbers n last ≡ n ∷ numbers (n + 1) last
numbers_step n last h =
    let e : last + 1 - n ≡ suc (last - n) = omega (arith, h) in
    let f : last - n ≡ last + 1 - (n + 1) = omega (arith, h) in
    ap (range_with_len n) e ∙ ap (λ k. n ∷ range_with_len (n + 1) k) f

pub numbers_end : (n last : ℕ) → last < n → numbers n last ≡ []
numbers_end n last h = let e : last + 1 - n ≡ 0 = omega (arith, h) in ap (range_with_len n) e

module _ (f : ℕ → Bool) (n last : ℕ) where
  pub find_here : n ≤ last → f n ≡ true → find f (numbers n last) ≡ Some n
  find_here h e = ap (find f) (numbers_step n last h) ∙ ap (λ b. cond b (Some n) (find f (numbers (n + 1) last))) e

  pub find_next : n ≤ last → f n ≡ false → find f (numbers n last) ≡ find f (numbers (n + 1) last)
  find_next h e = ap (find f) (numbers_step n last h) ∙ ap (λ b. cond b (Some n) (find f (numbers (n + 1) last))) e

  pub find_end : last < n → find f (numbers n last) ≡ None
  find_end h = ap (find f) (numbers_end n last h)

module _ {B : Type 0} (f : ℕ → Option B) (n last : ℕ) where
  pub first_here : n ≤ last → (x : B) → f n ≡ Some x → first_of f (numbers n last) ≡ Some x
  first_here h x e = ap (first_of f) (numbers_step n last h) ∙ ap (λ o. option_or o (first_of f (numbers (n + 1) last))) e

  pub first_next : n ≤ last → f n ≡ None → first_of f (numbers n last) ≡ first_of f (numbers (n + 1) last)
  first_next h e = ap (first_of f) (numbers_step n last h) ∙ ap (λ o. option_or o (first_of f (numbers (n + 1) last))) e

  pub first_end : last < n → first_of f (numbers n last) ≡ None
  first_end h = ap (first_of f) (numbers_end n last h)

-- a number of a range that passes is the first, if none before it is
pub range_find : (f : ℕ → Bool) (n k m : ℕ) → f (n + k) ≡ true → k < m → find f (range_with_len n m) ≡ option_or (find f (range_with_len n k)) (Some (n + k))
range_find f n k zero pass h = absurd (omega (arith, h))
range_find f n zero (suc m) pass h =
    let e : n + 0 ≡ n = omega arith in
    ap (λ b. cond b (Some n) (find f (range_with_len (n + 1) m))) (ap f (sym e) ∙ pass) ∙ ap Some (sym e)
range_find f n (suc k) (suc m) pass h =
    let e : n + 1 + k ≡ n + suc k = omega arith in
    by e (range_find f (n + 1) k m (ap f e ∙ pass) (omega (arith, h))) (f n) refl
  where
    by : n + 1 + k ≡ n + suc k → find f (range_with_len (n + 1) m) ≡ option_or (find f (range_with_len (n + 1) k)) (Some (n + 1 + k)) → (b : Bool) → f n ≡ b → find f (range_with_len n (suc m)) ≡ option_or (find f (range_with_len n (suc k))) (Some (n + suc k))
    by e ih true is = ap (λ b. cond b (Some n) (find f (range_with_len (n + 1) m))) is
        ∙ sym (ap (λ b. option_or (cond b (Some n) (find f (range_with_len (n + 1) k))) (Some (n + suc k))) is)
    by e ih false is = ap (λ b. cond b (Some n) (find f (range_with_len (n + 1) m))) is
        ∙ ih
        ∙ ap (λ x. option_or (find f (range_with_len (n + 1) k)) (Some x)) e
        ∙ sym (ap (λ b. option_or (cond b (Some n) (find f (range_with_len (n + 1) k))) (Some (n + suc k))) is)

pub range_none : (f : ℕ → Bool) (n m : ℕ) → ((i : ℕ) → n ≤ i → i < n + m → f i ≡ false) → find f (range_with_len n m) ≡ None
range_none f n zero none = refl
range_none f n (suc m) none =
    ap (λ b. cond b (Some n) (find f (range_with_len (n + 1) m))) (none n (omega arith) (omega arith))
    ∙ range_none f (n + 1) m (λ i low high. none i (omega (arith, low)) (omega (arith, high)))

or_none : {B : Type 0} (o : Option B) → option_or o None ≡ o
or_none None = refl
or_none (Some x) = refl

pub or_first : (o : Option ℕ) → option_or o None ≡ o
or_first o = or_none o

or_assoc : {B : Type 0} (o p q : Option B) → option_or (option_or o p) q ≡ option_or o (option_or p q)
or_assoc None p q = refl
or_assoc (Some x) p q = refl

-- a search from above: a number that passes takes the place of the best so far
pub best_found : (f : ℕ → Bool) (first end a : ℕ) (best : Option ℕ) → first ≤ a → a < end → f a ≡ true
    → option_or (find f (range_with_len first (end - first))) best ≡ option_or (find f (range_with_len first (a - first))) (Some a)
best_found f first end a best low high pass =
    let e : first + (a - first) ≡ a = omega (arith, low) in
    ap (λ o. option_or o best) (range_find f first (a - first) (end - first) (ap f e ∙ pass) (omega (arith, low, high))
    ∙ ap (λ x. option_or (find f (range_with_len first (a - first))) (Some x)) e)
    ∙ or_assoc (find f (range_with_len first (a - first))) (Some a) best

pub best_stays : (f : ℕ → Bool) (first end : ℕ) (best : Option ℕ) → ((i : ℕ) → first ≤ i → i < end → f i ≡ false)
    → option_or (find f (range_with_len first (end - first))) best ≡ best
best_stays f first end best none =
    ap (λ o. option_or o best) (range_none f first (end - first) (λ i low high. none i low (omega (arith, low, high))))

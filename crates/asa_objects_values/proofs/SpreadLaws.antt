-- What a name gives doesn't depend on the length of the ways once that is above the name's label, where each item leads
-- to a name of a lesser label; and it is what its items give.
use Rattle.std.proofs.Common.{◌≡◌, ℕ, ◌+◌, ◌<◌, suc, zero, List, [], ◌∷◌, ◌++◌, Option, Some, None, refl, sym, ap, ◌∙◌, arith}
use Rattle.std.specs.List.{flat_map, sum_by, AllByRecursion}
use Rattle.std.proofs.lemmas.List.Sums.{sum_by-cons}
use Rattle.asa_objects_values.specs.Spreads.{of_name, spread, total, weight_of}

module _ {I X : Type 0} where
  -- the same function of each item gives the same list
  pub flat_map-same : (f g : I → List X) (xs : List I) → AllByRecursion (λ i. f i ≡ g i) xs → flat_map f xs ≡ flat_map g xs
  flat_map-same f g [] h = refl
  flat_map-same f g (x ∷ xs) h = ap (λ a. a ++ flat_map f xs) h.0 ∙ ap (λ b. g x ++ b) (flat_map-same f g xs h.1)

-- the name that an item refers to, where it does, has a lesser label
abbrev pub Below : (List ℕ → ℕ) → ℕ → Option (List ℕ) → Type 0
Below label n None = Unit {0}
Below label n (Some name) = label name < n

-- each item refers to names of lesser labels alone
abbrev pub Falls : {I : Type 0} → (I → Option (List ℕ)) → (List ℕ → List I) → (List ℕ → ℕ) → Type 0
Falls named items label = (name : List ℕ) → AllByRecursion (λ i. Below label (label name) (named i)) (items name)

module _ {I X : Type 0} (named : I → Option (List ℕ)) (items : List ℕ → List I) (given : List ℕ → I → List X) (label : List ℕ → ℕ) where
  abbrev Same : ℕ → ℕ → ℕ → Type 0
  Same k m n = (q : List ℕ) → label q < k → spread named items given m q ≡ spread named items given n q

  same_of : (m n k : ℕ) → Same k m n → (o : Option (List ℕ)) → Below label k o → of_name (spread named items given m) o ≡ of_name (spread named items given n) o
  same_of m n k step None below = refl
  same_of m n k step (Some q) below = step q below

  each : (m n : ℕ) (q : List ℕ) → Same (label q) m n → (xs : List I) → AllByRecursion (λ i. Below label (label q) (named i)) xs
      → AllByRecursion (λ i. given q i ++ of_name (spread named items given m) (named i) ≡ given q i ++ of_name (spread named items given n) (named i)) xs
  each m n q step [] h = tt
  each m n q step (x ∷ xs) h = (ap (λ r. given q x ++ r) (same_of m n (label q) step (named x) h.0), each m n q step xs h.1)

  -- enough is enough
  pub spread-enough : Falls named items label → (m n : ℕ) (q : List ℕ) → label q < m → label q < n → spread named items given m q ≡ spread named items given n q
  unfolding spread
  spread-enough falls zero n q a b = absurd (omega arith)
  spread-enough falls (suc m) zero q a b = absurd (omega arith)
  spread-enough falls (suc m) (suc n) q a b =
      flat_map-same _ _ (items q) (each m n q (λ p lt. spread-enough falls m n p (omega arith) (omega arith)) (items q) (falls q))

  -- what a name gives is what its items give
  pub spread-items : Falls named items label → (n : ℕ) (q : List ℕ) → label q < n
      → spread named items given n q ≡ flat_map (λ i. given q i ++ of_name (spread named items given n) (named i)) (items q)
  unfolding spread
  spread-items falls zero q a = absurd (omega arith)
  spread-items falls (suc n) q a =
      flat_map-same _ _ (items q) (each n (suc n) q (λ p lt. spread-enough falls n (suc n) p (omega arith) (omega arith)) (items q) (falls q))

module _ {X : Type 0} (h : X → ℕ) where
  pub total-sum : (xs : List X) → total h xs ≡ sum_by h xs
  total-sum [] = refl
  total-sum (x ∷ xs) = ap (λ n. h x + n) (total-sum xs) ∙ sym (sum_by-cons h x xs)

  pub total-append : (xs ys : List X) → total h (xs ++ ys) ≡ total h xs + total h ys
  total-append [] ys = omega arith
  total-append (x ∷ xs) ys = let more = total-append xs ys in omega arith

  pub total-flat_map : {I : Type 0} (f : I → List X) (xs : List I) → total h (flat_map f xs) ≡ total (λ i. total h (f i)) xs
  total-flat_map f [] = refl
  total-flat_map f (x ∷ xs) = let more = total-flat_map f xs in let both = total-append (f x) (flat_map f xs) in omega arith

pub total-same : {X : Type 0} (f g : X → ℕ) (xs : List X) → AllByRecursion (λ x. f x ≡ g x) xs → total f xs ≡ total g xs
total-same f g [] h = refl
total-same f g (x ∷ xs) h = let more = total-same f g xs h.1 in let here = h.0 in omega arith

-- the name that an item refers to, where it does, is one of these
abbrev pub Among : (List ℕ → Type 0) → Option (List ℕ) → Type 0
Among S None = Unit {0}
Among S (Some name) = S name

module _ {I X : Type 0} (named : I → Option (List ℕ)) (items : List ℕ → List I) (given : List ℕ → I → List X) (label : List ℕ → ℕ)
    (h : X → ℕ) (kept : List ℕ → ℕ) (S : List ℕ → Type 0) where
  -- the items of names of S refer to names of S
  abbrev pub Settled : Type 0
  Settled = (q : List ℕ) → S q → AllByRecursion (λ i. Among S (named i)) (items q)

  -- what is kept for a name of S is the sum over its items
  abbrev pub Summed : Type 0
  Summed = (q : List ℕ) → S q → kept q ≡ total (λ i. total h (given q i) + weight_of kept (named i)) (items q)

  weigh-of : (m k : ℕ) → ((p : List ℕ) → S p → label p < k → total h (spread named items given m p) ≡ kept p) → (o : Option (List ℕ)) → Below label k o → Among S o
      → total h (of_name (spread named items given m) o) ≡ weight_of kept o
  weigh-of m k step None below among = refl
  weigh-of m k step (Some p) below among = step p among below

  weigh-each : (m : ℕ) (q : List ℕ) → ((p : List ℕ) → S p → label p < label q → total h (spread named items given m p) ≡ kept p) → (xs : List I)
      → AllByRecursion (λ i. Below label (label q) (named i)) xs → AllByRecursion (λ i. Among S (named i)) xs
      → AllByRecursion (λ i. total h (given q i ++ of_name (spread named items given m) (named i)) ≡ total h (given q i) + weight_of kept (named i)) xs
  weigh-each m q step [] below among = tt
  weigh-each m q step (x ∷ xs) below among =
      (total-append h (given q x) _ ∙ ap (λ n. total h (given q x) + n) (weigh-of m (label q) step (named x) below.0 among.0), weigh-each m q step xs below.1 among.1)

  -- what is kept for a name of S is the weight of what it gives
  pub spread-total : Falls named items label → Settled → Summed → (n : ℕ) (q : List ℕ) → S q → label q < n → total h (spread named items given n q) ≡ kept q
  unfolding spread
  spread-total falls settled summed zero q s lt = absurd (omega arith)
  spread-total falls settled summed (suc n) q s lt =
      total-flat_map h _ (items q)
      ∙ total-same _ _ (items q) (weigh-each n q (λ p sp below. spread-total falls settled summed n p sp (omega arith)) (items q) (falls q) (settled q s))
      ∙ sym (summed q s)

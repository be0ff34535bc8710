-- A name reaches another if it is the other, or an item of it refers to a name that reaches the other.
use Rattle.std.proofs.Common.{◌≡◌, ℕ, ◌<◌, suc, zero, Bool, true, false, ◌||◌, List, [], ◌∷◌, ◌++◌, Option, Some, None, refl, sym, ap, subst, ◌∙◌, arith}
use Rattle.std.specs.List.{flat_map, list_any, AllByRecursion}
use Rattle.std.specs.Option.{option_to_list}
use Rattle.asa_objects_values.specs.Spreads.{of_name, spread}
use Rattle.asa_objects_values.specs.Tables.{same_name}
use Rattle.asa_objects_values.proofs.SpreadLaws.{Below, Falls, spread-items}
use Rattle.asa_objects_values.proofs.LabelLaws.{same-is}

module _ {X : Type 0} (p : X → Bool) where
  or-assoc : (a b c : Bool) → (a || (b || c)) ≡ ((a || b) || c)
  or-assoc true b c = refl
  or-assoc false b c = refl

  pub any-append : (xs ys : List X) → list_any p (xs ++ ys) ≡ (list_any p xs || list_any p ys)
  any-append [] ys = refl
  any-append (x ∷ xs) ys = ap (λ b. p x || b) (any-append xs ys) ∙ or-assoc (p x) (list_any p xs) (list_any p ys)

  pub any-flat_map : {I : Type 0} (f : I → List X) (xs : List I) → list_any p (flat_map f xs) ≡ list_any (λ i. list_any p (f i)) xs
  any-flat_map f [] = refl
  any-flat_map f (x ∷ xs) = any-append (f x) (flat_map f xs) ∙ ap (λ b. list_any p (f x) || b) (any-flat_map f xs)

pub any-same : {X : Type 0} (f g : X → Bool) → ((x : X) → f x ≡ g x) → (xs : List X) → list_any f xs ≡ list_any g xs
any-same f g h [] = refl
any-same f g h (x ∷ xs) = ap (λ b. b || list_any f xs) (h x) ∙ ap (λ b. g x || b) (any-same f g h xs)

-- what a test says of the name that an item refers to
abbrev pub test_of : (List ℕ → Bool) → Option (List ℕ) → Bool
test_of test None = false
test_of test (Some name) = test name

or-false : (b : Bool) → (b || false) ≡ b
or-false true = refl
or-false false = refl

module _ {I : Type 0} (named : I → Option (List ℕ)) (items : List ℕ → List I) where
  -- what `reaches` says, by ways of at most n names
  abbrev pub reach : ℕ → List ℕ → List ℕ → Bool
  reach n q g = same_name g q || list_any (same_name g) (spread named items (λ _ i. option_to_list (named i)) n q)

  of-item : (n : ℕ) (g : List ℕ) (o : Option (List ℕ)) → list_any (same_name g) (option_to_list o ++ of_name (spread named items (λ _ i. option_to_list (named i)) n) o)
      ≡ test_of (λ c. reach n c g) o
  of-item n g None = refl
  of-item n g (Some c) = refl

  -- a name reaches what its items reach
  pub reach-items : (label : List ℕ → ℕ) → Falls named items label → (n : ℕ) (q g : List ℕ) → label q < n
      → reach n q g ≡ (same_name g q || list_any (λ i. test_of (λ c. reach n c g) (named i)) (items q))
  reach-items label falls n q g lt =
      ap (λ ns. same_name g q || list_any (same_name g) ns) (spread-items named items (λ _ i. option_to_list (named i)) label falls n q lt)
      ∙ ap (λ b. same_name g q || b) (any-flat_map (same_name g) _ (items q) ∙ any-same _ _ (λ i. of-item n g (named i)) (items q))

module _ {I : Type 0} (named : I → Option (List ℕ)) (items : List ℕ → List I) (label : List ℕ → ℕ) (n : ℕ) (g : List ℕ) (D : List ℕ → Bool) where
  -- a set of names with the other one, and with each name that refers to a name of the set
  abbrev pub Closed : Type 0
  Closed = (q : List ℕ) → list_any (λ i. test_of D (named i)) (items q) ≡ true → D q ≡ true

  any-below : (m : ℕ) (k : ℕ) → ((c : List ℕ) → label c < k → reach named items n c g ≡ true → D c ≡ true) → (xs : List I) → AllByRecursion (λ i. Below label k (named i)) xs
      → list_any (λ i. test_of (λ c. reach named items n c g) (named i)) xs ≡ true → list_any (λ i. test_of D (named i)) xs ≡ true
  any-below m k step [] below any = absurd (cc)
  any-below m k step (x ∷ xs) below any = by (named x) below.0 any (λ more. any-below m k step xs below.1 more)
    where
      or-true : (b : Bool) → (b || true) ≡ true
      or-true true = refl
      or-true false = refl

      of : (c : List ℕ) → label c < k → (b : Bool) → reach named items n c g ≡ b → (b || list_any (λ i. test_of (λ c. reach named items n c g) (named i)) xs) ≡ true
          → (list_any (λ i. test_of (λ c. reach named items n c g) (named i)) xs ≡ true → list_any (λ i. test_of D (named i)) xs ≡ true)
          → (D c || list_any (λ i. test_of D (named i)) xs) ≡ true
      of c lt true here any more = ap (λ b. b || list_any (λ i. test_of D (named i)) xs) (step c lt here)
      of c lt false here any more = ap (λ b. D c || b) (more any) ∙ or-true (D c)

      by : (o : Option (List ℕ)) → Below label k o → (test_of (λ c. reach named items n c g) o || list_any (λ i. test_of (λ c. reach named items n c g) (named i)) xs) ≡ true
          → (list_any (λ i. test_of (λ c. reach named items n c g) (named i)) xs ≡ true → list_any (λ i. test_of D (named i)) xs ≡ true)
          → (test_of D o || list_any (λ i. test_of D (named i)) xs) ≡ true
      by None lt any more = more any
      by (Some c) lt any more = of c lt (reach named items n c g) refl any more

  -- such a set has every name that reaches the other one
  pub closed-has : Falls named items label → ((q : List ℕ) → label q < n) → D g ≡ true → Closed
      → (m : ℕ) (q : List ℕ) → label q < m → reach named items n q g ≡ true → D q ≡ true
  closed-has falls few first closed zero q lt reaches = absurd (omega arith)
  closed-has falls few first closed (suc m) q lt reaches =
      by (same_name g q) (λ s. same-is g q s) (sym (reach-items named items label falls n q g (few q)) ∙ reaches)
      (λ any. closed q (any-below m (label q) (λ c below r. closed-has falls few first closed m c (omega arith) r) (items q) (falls q) any))
    where
      by : (b : Bool) → (b ≡ true → g ≡ q) → (b || list_any (λ i. test_of (λ c. reach named items n c g) (named i)) (items q)) ≡ true
          → (list_any (λ i. test_of (λ c. reach named items n c g) (named i)) (items q) ≡ true → D q ≡ true) → D q ≡ true
      by true same any more = subst (λ p. D p ≡ true) (same refl) first
      by false same any more = more any

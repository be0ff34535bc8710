-- A label of names makes a number below the length of the table, by counting the names of lesser labels.
use Rattle.std.proofs.Common.{◌≡◌, ℕ, ◌+◌, ◌<◌, ◌≤◌, suc, Bool, true, false, cond, Decides, nat_lt, if◌then◌else◌, List, [], ◌∷◌, length, Option, Some, None, refl, sym, ap, subst, ◌∙◌, arith}
use Rattle.std.specs.List.{AllByRecursion}
use Rattle.std.specs.Map.{lookup}
use Rattle.std.specs.Str.{bytes_eq}
use Rattle.std.specs.BTreeMap.{is_at}
use Rattle.std.specs.Ordering.{nat_cmp, is_eq}
use Rattle.std.specs.Cmp.Lexicographic.{slice_cmp}
use Rattle.std.proofs.lemmas.Bool.{false≢true, lt-ltb, ltb-true, ltb-false}
use Rattle.std.proofs.lemmas.Map.Lookups.{exact_bytes}
use Rattle.std.proofs.lemmas.Map.Views.{tells_apart}
use Rattle.std.proofs.lemmas.Slice.Eq.{bytes_eq-Decides}
use Rattle.std.proofs.lemmas.Cmp.{nat_list_cmp_total, tied_itself}
use Rattle.asa_objects_values.specs.Spreads.{total}
use Rattle.asa_objects_values.specs.Tables.{same_name}
use Rattle.asa_objects_values.proofs.SpreadLaws.{Below, Falls, Among}

-- names that are the same are equal
pub same-is : (a b : List ℕ) → same_name a b ≡ true → a ≡ b
same-is a b h = tells_apart exact_bytes a b h

pub same-self : (a : List ℕ) → same_name a a ≡ true
same-self a = ap is_eq (tied_itself nat_list_cmp_total a)

-- both tests of names say the same
pub same-bytes : (a b : List ℕ) → same_name a b ≡ bytes_eq a b
same-bytes a b = by (same_name a b) (bytes_eq a b) (same-is a b) (λ e. subst (λ n. same_name a n ≡ true) e (same-self a)) (bytes_eq-Decides a b)
  where
    by : (x y : Bool) → (x ≡ true → a ≡ b) → (a ≡ b → x ≡ true) → Decides y (a ≡ b) → x ≡ y
    by true true f g d = refl
    by false false f g d = refl
    by true false f g d = absurd (false≢true (d.1 (f refl)))
    by false true f g d = absurd (false≢true (g (d.0 refl)))

-- look-ups of which one name's gives another value
pub changed-at : {V : Type 0} (old new : List (List ℕ × V)) (key name : List ℕ) (w : Option V) → key ≡ name → ((q : List ℕ) → lookup (bytes_eq q) new ≡ cond (bytes_eq key q) w (lookup (bytes_eq q) old))
    → (q : List ℕ) → lookup (bytes_eq q) new ≡ cond (same_name name q) w (lookup (bytes_eq q) old)
changed-at old new key name w same h q =
    h q ∙ ap (λ (k : List ℕ). cond (bytes_eq k q) w (lookup (bytes_eq q) old)) same ∙ ap (λ (b : Bool). cond b w (lookup (bytes_eq q) old)) (sym (same-bytes name q))

not-below : (n : ℕ) → nat_lt n n ≡ false
not-below n = by (nat_lt n n) (ltb-true n n)
  where
    by : (b : Bool) → (b ≡ true → n < n) → b ≡ false
    by true f = absurd (omega (arith, f refl))
    by false f = refl

module _ {V : Type 0} (label : List ℕ → ℕ) where
  abbrev one_below : ℕ → List ℕ × V → ℕ
  one_below n e = if nat_lt (label e.0) n then 1 else 0

  -- how many names have a label below that of a name
  abbrev pub place : List (List ℕ × V) → List ℕ → ℕ
  place es q = total (one_below (label q)) es

  one-le : (m n : ℕ) (e : List ℕ × V) → m ≤ n → one_below m e ≤ one_below n e
  one-le m n e h = by (nat_lt (label e.0) m) (nat_lt (label e.0) n) (ltb-true (label e.0) m) (ltb-false (label e.0) n)
    where
      by : (a b : Bool) → (a ≡ true → label e.0 < m) → (b ≡ false → n ≤ label e.0) → cond a 1 0 ≤ cond b 1 0
      by true true f g = omega arith
      by false true f g = omega arith
      by false false f g = omega arith
      by true false f g = let x = f refl in let y = g refl in absurd (omega arith)

  totals-le : (m n : ℕ) (es : List (List ℕ × V)) → m ≤ n → total (one_below m) es ≤ total (one_below n) es
  totals-le m n [] h = omega arith
  totals-le m n (e ∷ es) h = let here = one-le m n e h in let more = totals-le m n es h in omega arith

  pub place-le : (es : List (List ℕ × V)) (q : List ℕ) → place es q ≤ length es
  place-le [] q = omega arith
  place-le (e ∷ es) q = let more = place-le es q in by (nat_lt (label e.0) (label q)) more
    where
      by : (b : Bool) → total (one_below (label q)) es ≤ length es → cond b 1 0 + total (one_below (label q)) es ≤ suc (length es)
      by true more = omega arith
      by false more = omega arith

  -- a name that is there counts for each of a greater label, and not for itself
  pub place-less : (es : List (List ℕ × V)) (c q : List ℕ) (v : V) → lookup (is_at (slice_cmp nat_cmp c)) es ≡ Some v → label c < label q → place es c < place es q
  place-less [] c q v found lt = absurd (cc)
  place-less (e ∷ es) c q v found lt =
      by (same_name c e.0) (λ s. same-is c e.0 s) found (λ there. place-less es c q v there lt)
    where
      by : (b : Bool) → (b ≡ true → c ≡ e.0) → cond b (Some e.1) (lookup (is_at (slice_cmp nat_cmp c)) es) ≡ Some v
          → (lookup (is_at (slice_cmp nat_cmp c)) es ≡ Some v → place es c < place es q) → place (e ∷ es) c < place (e ∷ es) q
      by true same here more =
          let eq : label c ≡ label e.0 = ap label (same refl) in
          let no : one_below (label c) e ≡ 0 = ap (λ (n : ℕ). if nat_lt n (label c) then 1 else 0) (sym eq) ∙ ap (λ (b : Bool). cond b 1 0) (not-below (label c)) in
          let yes : one_below (label q) e ≡ 1 = ap (λ (b : Bool). cond b 1 0) (lt-ltb (label e.0) (label q) (omega arith)) in
          let rest = totals-le (label c) (label q) es (omega arith) in
          omega arith
      by false same there more = let less = more there in let here = one-le (label c) (label q) e (omega arith) in omega arith

-- names that are in a list of entries
abbrev pub Stands : {V : Type 0} → List (List ℕ × V) → List ℕ → Type 0
Stands {V} es name = (v : V) × (lookup (is_at (slice_cmp nat_cmp name)) es ≡ Some v)

module _ {I V : Type 0} (named : I → Option (List ℕ)) (items : List ℕ → List I) (label : List ℕ → ℕ) (es : List (List ℕ × V)) where
  below-place : (q : List ℕ) (o : Option (List ℕ)) → Below label (label q) o → Among (Stands es) o → Below (place {V = V} label es) (place {V = V} label es q) o
  below-place q None below stands = tt
  below-place q (Some c) below stands = place-less label es c q stands.0 stands.1 below

  below-places : (q : List ℕ) (xs : List I) → AllByRecursion (λ i. Below label (label q) (named i)) xs → AllByRecursion (λ i. Among (Stands es) (named i)) xs
      → AllByRecursion (λ i. Below (place {V = V} label es) (place {V = V} label es q) (named i)) xs
  below-places q [] below stands = tt
  below-places q (x ∷ xs) below stands = (below-place q (named x) below.0 stands.0, below-places q xs below.1 stands.1)

  -- so the numbers fall where the labels do
  pub falls-place : Falls named items label → ((q : List ℕ) → AllByRecursion (λ i. Among (Stands es) (named i)) (items q)) → Falls named items (place {V = V} label es)
  falls-place falls there q = below-places q (items q) (falls q) (there q)

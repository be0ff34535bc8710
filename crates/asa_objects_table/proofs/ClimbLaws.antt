-- The names that reach a name are found by the names that refer to each, by rising labels.
use Rattle.std.proofs.Common.{◌≡◌, ℕ, ◌+◌, ◌<◌, ◌≤◌, ◌==◌, ◌⊎◌, inl, inr, zero, suc, Bool, true, false, cond, ◌||◌, if◌then◌else◌, nat_le, List, [], ◌∷◌, ◌++◌, length, get_or, Option, Some, None, is_some, refl, sym, ap, subst, ◌∙◌, arith}
use Rattle.std.specs.List.{AllByRecursion, list_any}
use Rattle.std.specs.Map.{lookup}
use Rattle.std.specs.BTreeMap.{BTreeMap, is_at, get, Updates, IsLowerBound}
use Rattle.std.specs.declared.cmp.Ordering.{Ordering}
use Rattle.std.specs.declared.cmp.Ordering.TheVariants as cmp
use Rattle.std.specs.Cmp.{ranks as nat_ranks}
use Rattle.std.specs.Ordering.{MatchOrdering}
use Rattle.std.specs.Ordering.{nat_cmp, is_eq, is_gt}
use Rattle.std.proofs.lemmas.Bool.{false≢true, le-leb, leb-true}
use Rattle.std.proofs.lemmas.Map.Lookups.{exact_unsigned}
use Rattle.std.proofs.lemmas.Map.Views.{tells_apart}
use Rattle.std.proofs.lemmas.Cmp.{nat_cmp_total, tied_itself}
use Rattle.asa_objects_lines.specs.declared.statement.Item.{Item}
use Rattle.asa_objects_values.specs.Tables.{Entry, Table, entry_of, items_in, items_of, named, refers_to, reaches, same_name}
use Rattle.asa_objects_table.specs.Ranks.{IsSound, IsBelow, Ranks, Uses, label_of, rank_of, users_of, has_name}
use Rattle.asa_objects_table.specs.Climbs.{AreReaching, IsAbove, IsInner, Rises, waits}
use Rattle.asa_objects_values.proofs.ListLaws.{all-push, all-weaker}
use Rattle.asa_objects_values.proofs.LabelLaws.{same-is, same-self}
use Rattle.asa_objects_values.proofs.ReachLaws.{test_of, closed-has, any-append}
use Rattle.asa_objects_table.proofs.RankLaws.{labelled, number, number-falls, number-few, reaches-items}

-- a comparison of numbers says whether they are equal
pub eq-true : (a b : ℕ) → (a == b) ≡ true → a ≡ b
eq-true a b h = grind arith

pub eq-self : (a : ℕ) → (a == a) ≡ true
eq-self a = grind arith

pub or-left : (a b : Bool) → a ≡ true → (a || b) ≡ true
or-left a b h = ap (λ x. x || b) h

pub or-right : (a b : Bool) → b ≡ true → (a || b) ≡ true
or-right true b h = refl
or-right false b h = h

pub or-cases : (a b : Bool) → (a || b) ≡ true → (a ≡ true) ⊎ (b ≡ true)
or-cases true b h = inl refl
or-cases false b h = inr h

-- what holds of each name that a list has
pub each-has : (P : List ℕ → Type 0) (us : List (List ℕ)) → ((v : List ℕ) → has_name us v ≡ true → P v) → AllByRecursion P us
each-has P [] f = tt
each-has P (u ∷ us) f = (f u (or-left _ _ (same-self u)), each-has P us (λ v h. f v (or-right _ _ h)))

pub all-has : (P : List ℕ → Type 0) (us : List (List ℕ)) (q : List ℕ) → AllByRecursion P us → has_name us q ≡ true → P q
all-has P [] q all h = absurd (cc)
all-has P (u ∷ us) q all h = by (or-cases (same_name q u) (has_name us q) h) (λ r. all-has P us q all.1 r)
  where
    by : (same_name q u ≡ true) ⊎ (has_name us q ≡ true) → (has_name us q ≡ true → P q) → P q
    by (inl same) more = subst P (sym (same-is q u same)) all.0
    by (inr rest) more = more rest

module _ (label : List ℕ → ℕ) where
  pub waits-keeps : (us : List (List ℕ)) (u : List ℕ) (o : Option (List ℕ)) → AllByRecursion (λ v. label v ≡ label u → v ≡ u) us → o ≡ Some u → waits label us (label u) o ≡ Some u
  waits-keeps [] u o alike h = h
  waits-keeps (v ∷ us) u o alike h = waits-keeps us u (if label v == label u then Some v else o) alike.1 (by (label v == label u) (λ e. alike.0 (eq-true (label v) (label u) e)))
    where
      by : (b : Bool) → (b ≡ true → v ≡ u) → (if b then Some v else o) ≡ Some u
      by true same = ap Some (same refl)
      by false same = h

  pub waits-in : (us : List (List ℕ)) (u : List ℕ) (o : Option (List ℕ)) → AllByRecursion (λ v. label v ≡ label u → v ≡ u) us → has_name us u ≡ true → waits label us (label u) o ≡ Some u
  waits-in [] u o alike h = absurd (cc)
  waits-in (v ∷ us) u o alike h =
      by (or-cases (same_name u v) (has_name us u) h) (λ r. waits-in us u (if label v == label u then Some v else o) alike.1 r)
    where
      by : (same_name u v ≡ true) ⊎ (has_name us u ≡ true) → (has_name us u ≡ true → waits label us (label u) (if label v == label u then Some v else o) ≡ Some u)
          → waits label us (label u) (if label v == label u then Some v else o) ≡ Some u
      by (inl same) more =
          let e : u ≡ v = same-is u v same in
          let test : (label v == label u) ≡ true = ap (λ (n : ℕ). n == label u) (ap label (sym e)) ∙ eq-self (label u) in
          waits-keeps us u _ alike.1 (ap (λ (b : Bool). if b then Some v else o) test ∙ ap Some (sym e))
      by (inr rest) more = more rest

  pub waits-from : (us : List (List ℕ)) (n : ℕ) (o : Option (List ℕ)) (q : List ℕ) → waits label us n o ≡ Some q → (o ≡ Some q) ⊎ ((has_name us q ≡ true) × (label q ≡ n))
  waits-from [] n o q h = inl h
  waits-from (v ∷ us) n o q h = by (waits-from us n (if label v == n then Some v else o) q h)
    where
      at : (b : Bool) → (label v == n) ≡ b → (if b then Some v else o) ≡ Some q → (o ≡ Some q) ⊎ (((same_name q v || has_name us q) ≡ true) × (label q ≡ n))
      at true test here = let e : v ≡ q = cc in inr (or-left _ _ (ap (same_name q) e ∙ same-self q), ap label (sym e) ∙ eq-true (label v) n test)
      at false test here = inl here

      by : ((if label v == n then Some v else o) ≡ Some q) ⊎ ((has_name us q ≡ true) × (label q ≡ n)) → (o ≡ Some q) ⊎ (((same_name q v || has_name us q) ≡ true) × (label q ≡ n))
      by (inl here) = at (label v == n) refl here
      by (inr more) = inr (or-right _ _ more.0, more.1)

-- a member that refers to a name passes what the name passes
pub passes-of : (D : List ℕ → Bool) (c : List ℕ) (o : Option (List ℕ)) → D c ≡ true → test_of (same_name c) o ≡ true → test_of D o ≡ true
passes-of D c None d r = absurd (cc)
passes-of D c (Some b) d r = ap D (sym (same-is c b r)) ∙ d

pub refers-passes : (D : List ℕ → Bool) (c : List ℕ) (xs : List Item) → D c ≡ true → list_any (refers_to c) xs ≡ true → list_any (λ i. test_of D (named i)) xs ≡ true
refers-passes D c [] d h = absurd (cc)
refers-passes D c (x ∷ xs) d h = by (or-cases (refers_to c x) (list_any (refers_to c) xs) h) (λ more. refers-passes D c xs d more)
  where
    by : (refers_to c x ≡ true) ⊎ (list_any (refers_to c) xs ≡ true) → (list_any (refers_to c) xs ≡ true → list_any (λ i. test_of D (named i)) xs ≡ true)
        → (test_of D (named x) || list_any (λ i. test_of D (named i)) xs) ≡ true
    by (inl here) more = or-left _ _ (passes-of D c (named x) d here)
    by (inr rest) more = or-right _ _ (more rest)

-- a list with such a member refers to a name that passes
passed : (D : List ℕ → Bool) (o : Option (List ℕ)) → test_of D o ≡ true → (c : List ℕ) × (D c ≡ true) × (test_of (same_name c) o ≡ true)
passed D None h = absurd (cc)
passed D (Some c) h = (c, h, same-self c)

pub passes-refers : (D : List ℕ → Bool) (xs : List Item) → list_any (λ i. test_of D (named i)) xs ≡ true → (c : List ℕ) × (D c ≡ true) × (list_any (refers_to c) xs ≡ true)
passes-refers D [] h = absurd (cc)
passes-refers D (x ∷ xs) h = by (or-cases (test_of D (named x)) (list_any (λ i. test_of D (named i)) xs) h) (λ more. passes-refers D xs more)
  where
    by : (test_of D (named x) ≡ true) ⊎ (list_any (λ i. test_of D (named i)) xs ≡ true)
        → (list_any (λ i. test_of D (named i)) xs ≡ true → (c : List ℕ) × (D c ≡ true) × (list_any (refers_to c) xs ≡ true))
        → (c : List ℕ) × (D c ≡ true) × (list_any (refers_to c) (x ∷ xs) ≡ true)
    by (inl here) more = let p = passed D (named x) here in (p.0, p.1, or-left _ _ p.2)
    by (inr rest) more = let p = more rest in (p.0, p.1, or-right _ _ p.2)

-- a name with members is there
has-items : (t : Table) (u : List ℕ) (p : Item → Bool) → list_any p (items_of t u) ≡ true → is_some (entry_of t u) ≡ true
has-items t u p h = by (entry_of t u) h
  where
    by : (e : Option Entry) → list_any p (items_in e) ≡ true → is_some e ≡ true
    by None h = absurd (cc)
    by (Some e) h = refl

-- names found and names that wait, of which each label is at least the floor
pub record Climb (t : Table) (ranks : Ranks) (uses : Uses) (name : List ℕ) (found : List (List ℕ)) (W : ℕ → Option (List ℕ)) (floor : ℕ) : Type 0 where
  pub ahead : (n : ℕ) (q : List ℕ) → W n ≡ Some q → (floor ≤ n) × (is_some (rank_of ranks q) ≡ true) × (label_of ranks q ≡ n) × (reaches t q name ≡ true)
  pub there : AllByRecursion (λ q. is_some (rank_of ranks q) ≡ true) found
  pub behind : AllByRecursion (λ q. label_of ranks q < floor) found
  pub reach : AllByRecursion (λ q. reaches t q name ≡ true) found
  pub rising : Rises (label_of ranks) found
  pub closed : (q u : List ℕ) → has_name found q ≡ true → has_name (users_of uses q) u ≡ true → (has_name found u ≡ true) ⊎ (W (label_of ranks u) ≡ Some u)
  pub begun : (has_name found name ≡ true) ⊎ (W (label_of ranks name) ≡ Some name)

module _ (t : Table) (ranks : Ranks) (uses : Uses) (stamp : ℕ) (name : List ℕ) (sound : IsSound t ranks uses stamp) where
  -- a user of a name is there, and reaches what the name reaches
  pub user-refers : (q u : List ℕ) → has_name (users_of uses q) u ≡ true → list_any (refers_to q) (items_of t u) ≡ true
  user-refers q u h = sym (sound.used q u) ∙ h

  pub user-there : (q u : List ℕ) → has_name (users_of uses q) u ≡ true → is_some (rank_of ranks u) ≡ true
  user-there q u h = sound.ranked u ∙ has-items t u (refers_to q) (user-refers q u h)

  label : List ℕ → ℕ
  label q = label_of ranks q

  pub reaches-user : (q u : List ℕ) → list_any (refers_to q) (items_of t u) ≡ true → reaches t q name ≡ true → reaches t u name ≡ true
  reaches-user q u refers r = reaches-items t (label_of ranks) (labelled t ranks uses stamp sound) u name
      ∙ or-right _ _ (refers-passes (λ c. reaches t c name) q (items_of t u) r refers)

  pub climb-start : (W : ℕ → Option (List ℕ)) → is_some (rank_of ranks name) ≡ true → W (label_of ranks name) ≡ Some name
      → ((n : ℕ) (q : List ℕ) → W n ≡ Some q → (label_of ranks name ≡ n) × (name ≡ q)) → Climb t ranks uses name [] W 0
  climb-start W there waits only = record {
    ahead = λ n q h. (
      omega arith,
      subst (λ p. is_some (rank_of ranks p) ≡ true) (only n q h).1 there,
      ap (label_of ranks) (sym (only n q h).1) ∙ (only n q h).0,
      ap (λ p. reaches t p name) (sym (only n q h).1) ∙ or-left _ _ (same-self name),
    );
    there = tt;
    behind = tt;
    reach = tt;
    rising = tt;
    closed = λ q u h v. absurd (cc);
    begun = inr waits;
  }

  -- nothing waits any more
  pub climb-end : (found : List (List ℕ)) (W : ℕ → Option (List ℕ)) (floor : ℕ) → Climb t ranks uses name found W floor → ((n : ℕ) → W n ≡ None) → IsAbove t ranks name found
  climb-end found W floor climb none = record {
    there = climb.there;
    rising = climb.rising;
    whole = λ q. both (has_name found q) (reaches t q name) (all-has (λ p. reaches t p name ≡ true) found q climb.reach) (has q);
  }
    where
      both : (a b : Bool) → (a ≡ true → b ≡ true) → (b ≡ true → a ≡ true) → a ≡ b
      both true b f g = sym (f refl)
      both false true f g = g refl
      both false false f g = refl

      done : (u : List ℕ) → (has_name found u ≡ true) ⊎ (W (label_of ranks u) ≡ Some u) → has_name found u ≡ true
      done u (inl h) = h
      done u (inr w) = let no = none (label_of ranks u) in absurd (cc)

      has : (q : List ℕ) → reaches t q name ≡ true → has_name found q ≡ true
      has q r = let ok = labelled t ranks uses stamp sound in
          closed-has named (items_of t) (number t (label_of ranks) ok) (suc (length t)) name (has_name found)
          (number-falls t (label_of ranks) ok) (number-few t (label_of ranks) ok) (done name climb.begun)
          (λ p any. let c = passes-refers (has_name found) (items_of t p) any in done p (climb.closed c.0 p c.1 (sound.used c.0 p ∙ c.2)))
          (suc (length t)) q (number-few t (label_of ranks) ok q) r

after-of : (a b : ℕ) → a ≤ b → (a ≡ b → ⊥) → a + 1 ≤ b
after-of a b le ne = omega arith

pub rises-push : (label : List ℕ → ℕ) (xs : List (List ℕ)) (x : List ℕ) → Rises label xs → AllByRecursion (λ q. label q < label x) xs → Rises label (xs ++ x ∷ [])
rises-push label [] x rises all = (tt, tt)
rises-push label (y ∷ ys) x rises all = (all-push (λ r. label y < label r) ys x rises.0 all.0, rises-push label ys x rises.1 all.1)

-- a member that refers to a name has a label above it
below-of : (label : List ℕ → ℕ) (k : ℕ) (c : List ℕ) (o : Option (List ℕ)) → IsBelow label k o → test_of (same_name c) o ≡ true → label c < k
below-of label k c None below r = absurd (cc)
below-of label k c (Some b) below r = subst (λ p. label p < k) (sym (same-is c b r)) below

pub refers-below : (label : List ℕ → ℕ) (k : ℕ) (c : List ℕ) (xs : List Item) → AllByRecursion (λ i. IsBelow label k (named i)) xs → list_any (refers_to c) xs ≡ true → label c < k
refers-below label k c [] all h = absurd (cc)
refers-below label k c (x ∷ xs) all h = by (or-cases (refers_to c x) (list_any (refers_to c) xs) h) (λ more. refers-below label k c xs all.1 more)
  where
    by : (refers_to c x ≡ true) ⊎ (list_any (refers_to c) xs ≡ true) → (list_any (refers_to c) xs ≡ true → label c < k) → label c < k
    by (inl here) more = below-of label k c (named x) all.0 here
    by (inr rest) more = more rest

module _ (t : Table) (ranks : Ranks) (uses : Uses) (stamp : ℕ) (name : List ℕ) (sound : IsSound t ranks uses stamp)
    (found : List (List ℕ)) (W V U : ℕ → Option (List ℕ)) (floor l : ℕ) (n : List ℕ) (climb : Climb t ranks uses name found W floor)
    (here : W l ≡ Some n) (least : (k : ℕ) (q : List ℕ) → W k ≡ Some q → l ≤ k)
    (gone : V l ≡ None) (others : (k : ℕ) → is_at (nat_cmp l) k ≡ false → V k ≡ W k)
    (put : (k : ℕ) → U k ≡ waits (label_of ranks) (users_of uses n) k (V k)) where
  at-l : (floor ≤ l) × (is_some (rank_of ranks n) ≡ true) × (label_of ranks n ≡ l) × (reaches t n name ≡ true)
  at-l = climb.ahead l n here

  alike : (u : List ℕ) → is_some (rank_of ranks u) ≡ true → AllByRecursion (λ v. label_of ranks v ≡ label_of ranks u → v ≡ u) (users_of uses n)
  alike u there = each-has _ (users_of uses n) (λ v h e. sound.unlike v u (user-there t ranks uses stamp name sound n v h) there e)

  -- what waited and isn't the popped one waits on
  from-V : (k : ℕ) (q : List ℕ) → V k ≡ Some q → (W k ≡ Some q) × (l + 1 ≤ k)
  from-V k q h = by (is_at (nat_cmp l) k) refl
    where
      by : (b : Bool) → is_at (nat_cmp l) k ≡ b → (W k ≡ Some q) × (l + 1 ≤ k)
      by true same = let e : l ≡ k = tells_apart exact_unsigned l k same in let none : V k ≡ None = ap V (sym e) ∙ gone in absurd (cc)
      by false apart =
          let w : W k ≡ Some q = sym (others k apart) ∙ h in
          let le = least k q w in
          let ne : (l ≡ k → ⊥) = λ e. false≢true (sym apart ∙ ap (is_at (nat_cmp l)) (sym e) ∙ ap is_eq (tied_itself nat_cmp_total l)) in
          (w, after-of l k le ne)

  stays : (u : List ℕ) → is_some (rank_of ranks u) ≡ true → (has_name found u ≡ true) ⊎ (W (label_of ranks u) ≡ Some u)
      → (has_name (found ++ n ∷ []) u ≡ true) ⊎ (U (label_of ranks u) ≡ Some u)
  stays u there (inl h) = inl (any-append _ found (n ∷ []) ∙ or-left _ _ h)
  stays u there (inr w) = by (is_at (nat_cmp l) (label_of ranks u)) refl
    where
      by : (b : Bool) → is_at (nat_cmp l) (label_of ranks u) ≡ b → (has_name (found ++ n ∷ []) u ≡ true) ⊎ (U (label_of ranks u) ≡ Some u)
      by true same =
          let e : l ≡ label_of ranks u = tells_apart exact_unsigned l (label_of ranks u) same in
          let both : Some n ≡ Some u = sym here ∙ ap W e ∙ w in
          let nu : n ≡ u = cc in
          inl (any-append _ found (n ∷ []) ∙ or-right _ _ (or-left _ _ (ap (same_name u) nu ∙ same-self u)))
      by false apart = inr (put (label_of ranks u) ∙ waits-keeps (label_of ranks) (users_of uses n) u _ (alike u there) (others (label_of ranks u) apart ∙ w))

  pub climb-step : is_some (rank_of ranks name) ≡ true → Climb t ranks uses name (found ++ n ∷ []) U (l + 1)
  climb-step first = record {
    ahead = ahead;
    there = all-push _ found n climb.there at-l.1;
    behind = all-push _ found n (all-weaker _ _ (λ q lt. omega (arith, at-l.0)) found climb.behind) (omega (arith, at-l.2));
    reach = all-push _ found n climb.reach at-l.3;
    rising = rises-push (label_of ranks) found n climb.rising (all-weaker _ _ (λ q lt. omega (arith, at-l.0, at-l.2)) found climb.behind);
    closed = closed;
    begun = stays name first climb.begun;
  }
    where
      ahead : (k : ℕ) (q : List ℕ) → U k ≡ Some q → (l + 1 ≤ k) × (is_some (rank_of ranks q) ≡ true) × (label_of ranks q ≡ k) × (reaches t q name ≡ true)
      ahead k q h = by (waits-from (label_of ranks) (users_of uses n) k (V k) q (sym (put k) ∙ h))
        where
          by : (V k ≡ Some q) ⊎ ((has_name (users_of uses n) q ≡ true) × (label_of ranks q ≡ k)) → (l + 1 ≤ k) × (is_some (rank_of ranks q) ≡ true) × (label_of ranks q ≡ k) × (reaches t q name ≡ true)
          by (inl v) = let w = from-V k q v in let old = climb.ahead k q w.0 in (w.1, old.1, old.2, old.3)
          by (inr user) =
              let refers = user-refers t ranks uses stamp name sound n q user.0 in
              let lt = refers-below (label_of ranks) (label_of ranks q) n (items_of t q) (sound.falls q) refers in
              (omega (arith, at-l.2, lt, user.1), user-there t ranks uses stamp name sound n q user.0, user.1, reaches-user t ranks uses stamp name sound n q refers at-l.3)

      closed : (q u : List ℕ) → has_name (found ++ n ∷ []) q ≡ true → has_name (users_of uses q) u ≡ true → (has_name (found ++ n ∷ []) u ≡ true) ⊎ (U (label_of ranks u) ≡ Some u)
      closed q u h user = by (or-cases (has_name found q) (has_name (n ∷ []) q) (sym (any-append _ found (n ∷ [])) ∙ h))
        where
          there : is_some (rank_of ranks u) ≡ true
          there = user-there t ranks uses stamp name sound q u user

          by : (has_name found q ≡ true) ⊎ (has_name (n ∷ []) q ≡ true) → (has_name (found ++ n ∷ []) u ≡ true) ⊎ (U (label_of ranks u) ≡ Some u)
          by (inl old) = stays u there (climb.closed q u old user)
          by (inr new) = last (or-cases (same_name q n) false new)
            where
              last : (same_name q n ≡ true) ⊎ (false ≡ true) → (has_name (found ++ n ∷ []) u ≡ true) ⊎ (U (label_of ranks u) ≡ Some u)
              last (inl same) = inr (put (label_of ranks u) ∙ waits-in (label_of ranks) (users_of uses n) u _ (alike u there) (subst (λ p. has_name (users_of uses p) u ≡ true) (same-is q n same) user))
              last (inr false-is) = absurd (cc)

-- what is no more is at least
pub at-least : (l k : ℕ) → is_gt (nat_cmp l k) ≡ false → l ≤ k
at-least l k h = by (nat_cmp l k) (nat_ranks l k) h
  where
    by : (r : Ordering) → MatchOrdering r (l < k) (l ≡ k) (k < l) → is_gt r ≡ false → l ≤ k
    by cmp.Less lt h = omega arith
    by cmp.Equal e h = omega arith
    by cmp.Greater gt h = absurd (cc)

-- the same of maps, as their calls tell it
pub start-from : (t : Table) (ranks : Ranks) (uses : Uses) (stamp : ℕ) (name : List ℕ) → IsSound t ranks uses stamp → is_some (rank_of ranks name) ≡ true
    → (m n : BTreeMap ℕ (List ℕ)) → m.entries ≡ [] → (k : ℕ) (v : List ℕ) → k ≡ label_of ranks name → v ≡ name → Updates nat_cmp m n k (Some v)
    → Climb t ranks uses name [] (λ x. get nat_cmp n x) 0
start-from t ranks uses stamp name sound there m n empty k v at is updates =
    climb-start t ranks uses stamp name sound (λ x. get nat_cmp n x) there (ap (λ (x : ℕ). get nat_cmp n x) (sym at) ∙ updates.1 ∙ ap Some is) only
  where
    none : (x : ℕ) → get nat_cmp m x ≡ None
    none x = ap (λ es. lookup (is_at (nat_cmp x)) es) empty

    only : (x : ℕ) (q : List ℕ) → get nat_cmp n x ≡ Some q → (label_of ranks name ≡ x) × (name ≡ q)
    only x q h = by (is_at (nat_cmp k) x) refl (updates.0 x)
      where
        by : (b : Bool) → is_at (nat_cmp k) x ≡ b → get nat_cmp n x ≡ cond b (Some v) (get nat_cmp m x) → (label_of ranks name ≡ x) × (name ≡ q)
        by true same e = let vq : v ≡ q = cc in (sym at ∙ tells_apart exact_unsigned k x same, sym is ∙ vq)
        by false apart e = let no : get nat_cmp m x ≡ None = none x in absurd (cc)

pub end-from : (t : Table) (ranks : Ranks) (uses : Uses) (stamp : ℕ) (name : List ℕ) → IsSound t ranks uses stamp → (found : List (List ℕ)) (m : BTreeMap ℕ (List ℕ)) (floor : ℕ)
    → Climb t ranks uses name found (λ x. get nat_cmp m x) floor → (0 < length m.entries → ⊥) → IsAbove t ranks name found
end-from t ranks uses stamp name sound found m floor climb empty =
    climb-end t ranks uses stamp name sound found (λ x. get nat_cmp m x) floor climb (λ x. ap (λ es. lookup (is_at (nat_cmp x)) es) (nil m.entries empty))
  where
    nil : (es : List (ℕ × List ℕ)) → (0 < length es → ⊥) → es ≡ []
    nil [] h = refl
    nil (e ∷ es) h = absurd (h (omega arith))

pub step-from : (t : Table) (ranks : Ranks) (uses : Uses) (stamp : ℕ) (name : List ℕ) → IsSound t ranks uses stamp → is_some (rank_of ranks name) ≡ true
    → (found : List (List ℕ)) (m n u : BTreeMap ℕ (List ℕ)) (floor l : ℕ) (q : List ℕ)
    → Climb t ranks uses name found (λ x. get nat_cmp m x) floor → get nat_cmp m l ≡ Some q → IsLowerBound nat_cmp m l → Updates nat_cmp m n l None
    → ((k : ℕ) → get nat_cmp u k ≡ waits (label_of ranks) (users_of uses q) k (get nat_cmp n k))
    → Climb t ranks uses name (found ++ q ∷ []) (λ x. get nat_cmp u x) (l + 1)
step-from t ranks uses stamp name sound there found m n u floor l q climb here least updates put =
    climb-step t ranks uses stamp name sound found (λ x. get nat_cmp m x) (λ x. get nat_cmp n x) (λ x. get nat_cmp u x) floor l q climb here
    (λ k p e. at-least l k (least k (ap is_some e))) updates.1 updates.2 put there

-- a name that reaches another has no lesser label
pub above-it : (t : Table) (name : List ℕ) (ranks : Ranks) (uses : Uses) (stamp : ℕ) → IsSound t ranks uses stamp → (q : List ℕ) → reaches t q name ≡ true → label_of ranks name ≤ label_of ranks q
above-it t name ranks uses stamp sound q r =
    let ok = labelled t ranks uses stamp sound in
    leb-true (label_of ranks name) (label_of ranks q)
    (closed-has named (items_of t) (number t (label_of ranks) ok) (suc (length t)) name (λ p. nat_le (label_of ranks name) (label_of ranks p)) (number-falls t (label_of ranks) ok) (number-few t (label_of ranks) ok)
    (le-leb (label_of ranks name) (label_of ranks name) (omega arith)) closed (suc (length t)) q (number-few t (label_of ranks) ok q) r)
  where
    closed : (p : List ℕ) → list_any (λ i. test_of (λ c. nat_le (label_of ranks name) (label_of ranks c)) (named i)) (items_of t p) ≡ true → nat_le (label_of ranks name) (label_of ranks p) ≡ true
    closed p any =
        let c = passes-refers (λ c. nat_le (label_of ranks name) (label_of ranks c)) (items_of t p) any in
        let le = leb-true (label_of ranks name) (label_of ranks c.0) c.1 in
        let lt = refers-below (label_of ranks) (label_of ranks p) c.0 (items_of t p) (sound.falls p) c.2 in
        le-leb (label_of ranks name) (label_of ranks p) (omega (arith, le, lt))

-- the names that reach a name, by their labels, are in an order along which references lead from later to earlier ones
pub above-reaching : (t : Table) (ranks : Ranks) (uses : Uses) (stamp : ℕ) → IsSound t ranks uses stamp → (name : List ℕ) (names : List (List ℕ)) → IsAbove t ranks name names
    → AreReaching t ranks name names
above-reaching t ranks uses stamp sound name names above = record {
  there = above.there;
  order = label_of ranks;
  laid = record { rising = above.rising; inner = λ q h. inner (label_of ranks q) (items_of t q) (sound.falls q) };
  whole = above.whole;
}
  where
    below : (n : ℕ) (o : Option (List ℕ)) → IsBelow (label_of ranks) n o → IsInner names (label_of ranks) n o
    below n None less = tt
    below n (Some c) less = λ _. less

    inner : (n : ℕ) (xs : List Item) → AllByRecursion (λ i. IsBelow (label_of ranks) n (named i)) xs → AllByRecursion (λ i. IsInner names (label_of ranks) n (named i)) xs
    inner n [] less = tt
    inner n (x ∷ xs) less = (below n (named x) less.0, inner n xs less.1)

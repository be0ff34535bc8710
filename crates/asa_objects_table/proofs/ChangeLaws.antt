-- What is kept stays sound where a name gets other members and the names that reach it are renewed.
use Rattle.std.proofs.Common.{◌≡◌, ℕ, ◌+◌, ◌<◌, ◌≤◌, ◌⊎◌, inl, inr, Bool, true, false, cond, List, [], ◌∷◌, Option, Some, None, is_some, refl, sym, ap, subst, ◌∙◌, arith}
use Rattle.std.specs.List.{AllByRecursion, list_any}
use Rattle.std.proofs.lemmas.Bool.{false≢true}
use Rattle.asa_objects_lines.specs.declared.statement.Item.{Item}
use Rattle.asa_objects_table.specs.declared.rank.Rank.{Rank}
use Rattle.asa_objects_values.specs.Spreads.{total, weight_of}
use Rattle.asa_objects_values.specs.Tables.{Entry, Table, entry_of, items_in, items_of, named, refers_to, same_name, group_at}
use Rattle.asa_objects_table.specs.Ranks.{IsSound, IsThere, IsBelow, Part, members, services, amount, amount_in, amount_of, label_in, Ranks, Uses, label_of, rank_of, users_of, has_name, weigh, own_totals}
use Rattle.asa_objects_table.specs.Climbs.{AreReaching, IsInner, IsLaid}
use Rattle.asa_objects_table.specs.Renewals.{newer, amount_now, summed, IsRenewed, AreSmall}
use Rattle.asa_objects_table.specs.Changes.{Fits}
use Rattle.asa_objects_values.proofs.LabelLaws.{same-is, same-self}
use Rattle.asa_objects_values.proofs.ReachLaws.{test_of}
use Rattle.asa_objects_table.proofs.ClimbLaws.{all-has, or-left, or-right, or-cases, refers-below, reaches-user}

-- what holds of each name that members refer to holds of the members
module _ (Q : Option (List ℕ) → Type 0) (none : Q None) where
  pub each-ref : (xs : List Item) → ((c : List ℕ) → list_any (refers_to c) xs ≡ true → Q (Some c)) → AllByRecursion (λ i. Q (named i)) xs
  each-ref [] f = tt
  each-ref (x ∷ xs) f = (by (named x) refl, each-ref xs (λ c h. f c (or-right _ _ h)))
    where
      by : (o : Option (List ℕ)) → named x ≡ o → Q o
      by None e = none
      by (Some c) e = f c (or-left _ _ (ap (test_of (same_name c)) e ∙ same-self c))

module _ (Q : Option (List ℕ) → Type 0) where
  of-ref : (c : List ℕ) (o : Option (List ℕ)) → Q o → test_of (same_name c) o ≡ true → Q (Some c)
  of-ref c None q r = absurd (cc)
  of-ref c (Some b) q r = subst (λ p. Q (Some p)) (sym (same-is c b r)) q

  pub from-ref : (xs : List Item) (c : List ℕ) → AllByRecursion (λ i. Q (named i)) xs → list_any (refers_to c) xs ≡ true → Q (Some c)
  from-ref [] c all h = absurd (cc)
  from-ref (x ∷ xs) c all h = by (or-cases (refers_to c x) (list_any (refers_to c) xs) h) (λ more. from-ref xs c all.1 more)
    where
      by : (refers_to c x ≡ true) ⊎ (list_any (refers_to c) xs ≡ true) → (list_any (refers_to c) xs ≡ true → Q (Some c)) → Q (Some c)
      by (inl here) more = of-ref c (named x) all.0 here
      by (inr rest) more = more rest

-- a name of a sound table gets another value
pub record IsChange (t after : Table) (ranks : Ranks) (uses : Uses) (stamp : ℕ) (name : List ℕ) (made : Entry) (names : List (List ℕ)) : Type 0 where
  pub sound : IsSound t ranks uses stamp
  pub was : is_some (entry_of t name) ≡ true
  pub entry : (q : List ℕ) → entry_of after q ≡ cond (same_name name q) (Some made) (entry_of t q)
  pub above : AreReaching t ranks name names
  pub fits : AllByRecursion (λ i. Fits t name (named i)) made.items

module _ (t after : Table) (ranks : Ranks) (uses : Uses) (stamp : ℕ) (name : List ℕ) (made : Entry) (names : List (List ℕ))
    (change : IsChange t after ranks uses stamp name made names) where
  abbrev pub At : List ℕ → Type 0
  At q = ((name ≡ q) × (entry_of after q ≡ Some made)) ⊎ ((same_name name q ≡ false) × (entry_of after q ≡ entry_of t q))

  pub at : (q : List ℕ) → At q
  at q = by (same_name name q) refl (change.entry q)
    where
      by : (b : Bool) → same_name name q ≡ b → entry_of after q ≡ cond b (Some made) (entry_of t q) → At q
      by true same e = inl (same-is name q same, e)
      by false apart e = inr (apart, e)

  -- a name that is there stays there
  pub stays-there : (q : List ℕ) → is_some (entry_of t q) ≡ true → is_some (entry_of after q) ≡ true
  stays-there q h = by (at q)
    where
      by : At q → is_some (entry_of after q) ≡ true
      by (inl a) = ap is_some a.1
      by (inr a) = ap is_some a.1 ∙ h

  pub was-there : (q : List ℕ) → is_some (entry_of after q) ≡ is_some (entry_of t q)
  was-there q = by (at q)
    where
      by : At q → is_some (entry_of after q) ≡ is_some (entry_of t q)
      by (inl a) = ap is_some a.1 ∙ sym (ap (λ p. is_some (entry_of t p)) (sym a.0) ∙ change.was)
      by (inr a) = ap is_some a.1

  pub named-is : has_name names name ≡ true
  named-is = change.above.whole name ∙ or-left _ _ (same-self name)

  -- what a new member of the name refers to
  pub new-refers : (c : List ℕ) → list_any (refers_to c) made.items ≡ true → (is_some (entry_of t c) ≡ true) × (has_name names c ≡ false)
  new-refers c h = let f = from-ref (Fits t name) made.items c change.fits h in (f.0, change.above.whole c ∙ f.1)

  -- what a member of another name refers to
  pub old-refers : (q c : List ℕ) → list_any (refers_to c) (items_of t q) ≡ true
      → (is_some (entry_of t c) ≡ true) × (label_of ranks c < label_of ranks q) × (has_name names c ≡ true → has_name names q ≡ true)
  old-refers q c h = (
    from-ref (IsThere t) (items_of t q) c (change.sound.there q) h,
    refers-below (label_of ranks) (label_of ranks q) c (items_of t q) (change.sound.falls q) h,
    λ r. change.above.whole q ∙ reaches-user t ranks uses stamp name change.sound c q h (sym (change.above.whole c) ∙ r),
  )

  pub items-new : (q : List ℕ) → entry_of after q ≡ Some made → items_of after q ≡ made.items
  items-new q e = ap items_in e

  pub items-old : (q : List ℕ) → entry_of after q ≡ entry_of t q → items_of after q ≡ items_of t q
  items-old q e = ap items_in e

  abbrev Inner : List ℕ → Option (List ℕ) → Type 0
  Inner q = IsInner names change.above.order (change.above.order q)

  -- references lead from later names to earlier ones
  pub laid : IsLaid after change.above.order names
  laid = record {
    rising = change.above.laid.rising;
    inner = inner;
  }
    where
      inner : (q : List ℕ) → has_name names q ≡ true → AllByRecursion (λ i. Inner q (named i)) (items_of after q)
      inner q h = by (at q)
        where
          by : At q → AllByRecursion (λ i. Inner q (named i)) (items_of after q)
          by (inl a) = each-ref (Inner q) tt (items_of after q)
              (λ c r isin. absurd (false≢true (sym (new-refers c (ap (list_any (refers_to c)) (sym (items-new q a.1)) ∙ r)).1 ∙ isin)))
          by (inr a) = subst (λ xs. AllByRecursion (λ i. Inner q (named i)) xs) (sym (items-old q a.1)) (change.above.laid.inner q h)

  pub there-after : (q : List ℕ) → AllByRecursion (λ i. IsThere after (named i)) (items_of after q)
  there-after q = by (at q)
    where
      by : At q → AllByRecursion (λ i. IsThere after (named i)) (items_of after q)
      by (inl a) = each-ref (IsThere after) tt (items_of after q)
          (λ c r. stays-there c (new-refers c (ap (list_any (refers_to c)) (sym (items-new q a.1)) ∙ r)).0)
      by (inr a) = each-ref (IsThere after) tt (items_of after q)
          (λ c r. stays-there c (old-refers q c (ap (list_any (refers_to c)) (sym (items-old q a.1)) ∙ r)).0)

  -- what a name that isn't renewed counts stays the same
  module _ (new : Ranks) (k : Part) where
    abbrev Old : Option (List ℕ) → Type 0
    Old None = Unit {0}
    Old (Some c) = rank_of new c ≡ None

    weight-same : (o : Option (List ℕ)) → Old o → weight_of (amount_of k ranks) o ≡ weight_of (amount_now k new ranks) o
    weight-same None old = refl
    weight-same (Some c) old = ap (λ r. amount_in k (newer r (rank_of ranks c))) (sym old)

    sum-same : (q : List ℕ) (xs : List Item) → AllByRecursion (λ i. Old (named i)) xs → entry_of after q ≡ entry_of t q
        → total (weigh k t (amount_of k ranks) q) xs ≡ total (weigh k after (amount_now k new ranks) q) xs
    sum-same q [] old e = refl
    sum-same q (x ∷ xs) old e =
        ap (λ w. amount k (own_totals (group_at (entry_of t q)) x) + w + total (weigh k t (amount_of k ranks) q) xs) (weight-same (named x) old.0)
        ∙ ap (λ o. amount k (own_totals (group_at o) x) + weight_of (amount_now k new ranks) (named x) + total (weigh k t (amount_of k ranks) q) xs) (sym e)
        ∙ ap (λ r. weigh k after (amount_now k new ranks) q x + r) (sum-same q xs old.1 e)

  none-from : (o : Option Rank) → is_some o ≡ false → o ≡ None
  none-from None h = refl
  none-from (Some r) h = absurd (cc)

  -- a name that doesn't reach the changed one counts what it did
  pub sum-old : (k : Part) (prefix : List (List ℕ)) (new : Ranks) (label : ℕ) → IsRenewed after ranks stamp prefix new label → ((c : List ℕ) → has_name names c ≡ false → has_name prefix c ≡ false)
      → (q : List ℕ) → has_name names q ≡ false → amount_of k ranks q ≡ summed k after new ranks q
  sum-old k prefix new label renewed within q out = by (at q)
    where
      by : At q → amount_of k ranks q ≡ summed k after new ranks q
      by (inl a) = absurd (false≢true (sym out ∙ ap (has_name names) (sym a.0) ∙ named-is))
      by (inr a) =
          change.sound.sums k q
          ∙ sum-same new k q (items_of t q) (each-ref (Old new k) tt (items_of t q) (λ c r. none-from (rank_of new c) (renewed.covers c ∙ within c (apart c (old-refers q c r).2)))) a.1
          ∙ ap (λ xs. total (weigh k after (amount_now k new ranks) q) xs) (sym (items-old q a.1))
        where
          apart : (c : List ℕ) → (has_name names c ≡ true → has_name names q ≡ true) → has_name names c ≡ false
          apart c f = by-in (has_name names c) refl
            where
              by-in : (b : Bool) → has_name names c ≡ b → has_name names c ≡ false
              by-in false e = e
              by-in true e = absurd (false≢true (sym out ∙ f e))

  -- the ranks after the renewal
  module _ (new ranks2 : Ranks) (label : ℕ) (renewed : IsRenewed after ranks stamp names new label) (small : AreSmall new)
      (now : (q : List ℕ) → rank_of ranks2 q ≡ newer (rank_of new q) (rank_of ranks q)) where
    abbrev New : List ℕ → Type 0
    New q = ((is_some (rank_of new q) ≡ true) × (has_name names q ≡ true) × (rank_of ranks2 q ≡ rank_of new q))
        ⊎ ((has_name names q ≡ false) × (rank_of ranks2 q ≡ rank_of ranks q))

    which : (q : List ℕ) → New q
    which q = by (rank_of new q) refl
      where
        by : (o : Option Rank) → rank_of new q ≡ o → New q
        by None e = inr (sym (renewed.covers q) ∙ ap is_some e, now q ∙ ap (λ o. newer o (rank_of ranks q)) e)
        by (Some r) e = inl (ap is_some e, sym (renewed.covers q) ∙ ap is_some e, now q ∙ ap (λ o. newer o (rank_of ranks q)) e ∙ sym e)

    ranked-old : (q : List ℕ) → is_some (entry_of t q) ≡ true → is_some (rank_of ranks q) ≡ true
    ranked-old q h = change.sound.ranked q ∙ h

    was-ranked : (q : List ℕ) → has_name names q ≡ true → is_some (rank_of ranks q) ≡ true
    was-ranked q h = all-has (λ p. is_some (rank_of ranks p) ≡ true) names q change.above.there h

    ranked : (q : List ℕ) → is_some (rank_of ranks2 q) ≡ is_some (entry_of after q)
    ranked q = by (which q)
      where
        by : New q → is_some (rank_of ranks2 q) ≡ is_some (entry_of after q)
        by (inl n) = ap is_some n.2 ∙ n.0 ∙ sym (was-there q ∙ sym (change.sound.ranked q) ∙ was-ranked q n.1)
        by (inr n) = ap is_some n.1 ∙ change.sound.ranked q ∙ sym (was-there q)

    below-after : (q c : List ℕ) → list_any (refers_to c) (items_of after q) ≡ true → label_of ranks2 c < label_of ranks2 q
    below-after q c r = by (at q) (which q) (which c)
      where
        both : {P : Type 0} (b : Bool) → b ≡ true → b ≡ false → P
        both b e f = absurd (false≢true (sym f ∙ e))

        by : At q → New q → New c → label_of ranks2 c < label_of ranks2 q
        by (inl a) (inl n) (inl m) = both (has_name names c) m.1 (new-refers c (ap (list_any (refers_to c)) (sym (items-new q a.1)) ∙ r)).1
        by (inl a) (inl n) (inr m) =
            let e : label_of ranks2 c ≡ label_of ranks c = ap label_in m.1 in
            let f : label_of ranks2 q ≡ label_of new q = ap label_in n.2 in
            let old = change.sound.early c (ranked-old c (new-refers c (ap (list_any (refers_to c)) (sym (items-new q a.1)) ∙ r)).0) in
            let fresh = renewed.fresh q n.0 in omega (arith, fresh.0)
        by (inl a) (inr n) m = both (has_name names q) (ap (has_name names) (sym a.0) ∙ named-is) n.0
        by (inr a) n m = olds n m (old-refers q c (ap (list_any (refers_to c)) (sym (items-old q a.1)) ∙ r))
          where
            olds : New q → New c → (is_some (entry_of t c) ≡ true) × (label_of ranks c < label_of ranks q) × (has_name names c ≡ true → has_name names q ≡ true)
                → label_of ranks2 c < label_of ranks2 q
            olds (inl n) (inl m) o =
                let e : label_of ranks2 c ≡ label_of new c = ap label_in m.2 in
                let f : label_of ranks2 q ≡ label_of new q = ap label_in n.2 in
                let lt = from-ref (IsInner names (label_of new) (label_of new q)) (items_of after q) c (renewed.inner q n.1) r m.1 in omega arith
            olds (inl n) (inr m) o =
                let e : label_of ranks2 c ≡ label_of ranks c = ap label_in m.1 in
                let f : label_of ranks2 q ≡ label_of new q = ap label_in n.2 in
                let old = change.sound.early c (ranked-old c o.0) in
                let fresh = renewed.fresh q n.0 in omega (arith, fresh.0)
            olds (inr n) (inl m) o = both (has_name names q) (o.2 m.1) n.0
            olds (inr n) (inr m) o =
                let e : label_of ranks2 c ≡ label_of ranks c = ap label_in m.1 in
                let f : label_of ranks2 q ≡ label_of ranks q = ap label_in n.1 in
                let lt = o.1 in omega arith

    early : (q : List ℕ) → is_some (rank_of ranks2 q) ≡ true → label_of ranks2 q < label
    early q h = by (which q)
      where
        by : New q → label_of ranks2 q < label
        by (inl n) = let e : label_of ranks2 q ≡ label_of new q = ap label_in n.2 in let fresh = renewed.fresh q n.0 in omega (arith, fresh.1)
        by (inr n) =
            let e : label_of ranks2 q ≡ label_of ranks q = ap label_in n.1 in
            let old = change.sound.early q (ap is_some (sym n.1) ∙ h) in
            let later = renewed.later in omega arith

    unlike : (p q : List ℕ) → is_some (rank_of ranks2 p) ≡ true → is_some (rank_of ranks2 q) ≡ true → label_of ranks2 p ≡ label_of ranks2 q → p ≡ q
    unlike p q h i same = by (which p) (which q)
      where
        by : New p → New q → p ≡ q
        by (inl n) (inl m) = renewed.unlike p q n.0 m.0 (sym (ap label_in n.2) ∙ same ∙ ap label_in m.2)
        by (inl n) (inr m) =
            let e : label_of ranks2 p ≡ label_of new p = ap label_in n.2 in
            let f : label_of ranks2 q ≡ label_of ranks q = ap label_in m.1 in
            let fresh = renewed.fresh p n.0 in
            let old = change.sound.early q (ap is_some (sym m.1) ∙ i) in absurd (omega (arith, fresh.0))
        by (inr n) (inl m) =
            let e : label_of ranks2 p ≡ label_of ranks p = ap label_in n.1 in
            let f : label_of ranks2 q ≡ label_of new q = ap label_in m.2 in
            let fresh = renewed.fresh q m.0 in
            let old = change.sound.early p (ap is_some (sym n.1) ∙ h) in absurd (omega (arith, fresh.0))
        by (inr n) (inr m) = change.sound.unlike p q (ap is_some (sym n.1) ∙ h) (ap is_some (sym m.1) ∙ i) (sym (ap label_in n.1) ∙ same ∙ ap label_in m.1)

    weight-now : (k : Part) (o : Option (List ℕ)) → weight_of (amount_now k new ranks) o ≡ weight_of (amount_of k ranks2) o
    weight-now k None = refl
    weight-now k (Some c) = ap (amount_in k) (sym (now c))

    sum-now : (k : Part) (q : List ℕ) (xs : List Item) → total (weigh k after (amount_now k new ranks) q) xs ≡ total (weigh k after (amount_of k ranks2) q) xs
    sum-now k q [] = refl
    sum-now k q (x ∷ xs) =
        ap (λ w. amount k (own_totals (group_at (entry_of after q)) x) + w + total (weigh k after (amount_now k new ranks) q) xs) (weight-now k (named x))
        ∙ ap (λ r. weigh k after (amount_of k ranks2) q x + r) (sum-now k q xs)

    sums : (k : Part) (q : List ℕ) → amount_of k ranks2 q ≡ total (weigh k after (amount_of k ranks2) q) (items_of after q)
    sums k q = by (which q) ∙ sum-now k q (items_of after q)
      where
        by : New q → amount_of k ranks2 q ≡ summed k after new ranks q
        by (inl n) = ap (amount_in k) n.2 ∙ renewed.sums k q n.0
        by (inr n) = ap (amount_in k) n.1 ∙ sum-old k names new label renewed (λ c e. e) q n.0

    small-after : (q : List ℕ) → (amount_of members ranks2 q ≤ 65536) × (amount_of services ranks2 q ≤ 65536)
    small-after q = by (which q)
      where
        by : New q → (amount_of members ranks2 q ≤ 65536) × (amount_of services ranks2 q ≤ 65536)
        by (inl n) = let s = small q n.0 in
            (subst (λ (o : Option Rank). amount_in members o ≤ 65536) (sym n.2) s.0, subst (λ (o : Option Rank). amount_in services o ≤ 65536) (sym n.2) s.1)
        by (inr n) = let s = change.sound.small q in
            (subst (λ (o : Option Rank). amount_in members o ≤ 65536) (sym n.1) s.0, subst (λ (o : Option Rank). amount_in services o ≤ 65536) (sym n.1) s.1)

    -- what is kept is sound again
    pub change-sound : (uses2 : Uses) → ((c u : List ℕ) → has_name (users_of uses2 c) u ≡ list_any (refers_to c) (items_of after u)) → IsSound after ranks2 uses2 label
    change-sound uses2 used = record {
      ranked = ranked;
      there = there-after;
      falls = λ q. each-ref (IsBelow (label_of ranks2) (label_of ranks2 q)) tt (items_of after q) (below-after q);
      early = early;
      unlike = unlike;
      sums = sums;
      small = small-after;
      used = used;
    }

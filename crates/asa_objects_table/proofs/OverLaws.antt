-- Where a total passes the limit, a name of the changed table has too many members.
use Rattle.std.proofs.Common.{◌≡◌, ℕ, ◌+◌, ◌<◌, ◌≤◌, ◌⊎◌, inl, inr, Bool, true, false, cond, ◌&&◌, nat_le, List, [], ◌∷◌, ◌++◌, length, Option, Some, None, is_some, refl, sym, ap, subst, ◌∙◌, arith}
use Rattle.std.specs.List.{AllByRecursion, list_any, list_all}
use Rattle.std.specs.Map.{lookup}
use Rattle.std.specs.BTreeMap.{is_at}
use Rattle.std.specs.Ordering.{nat_cmp}
use Rattle.std.specs.Cmp.Lexicographic.{slice_cmp}
use Rattle.std.proofs.lemmas.Bool.{false≢true, leb-true}
use Rattle.asa_objects_table.specs.Amounts.{Amounts}
use Rattle.asa_objects_table.specs.declared.rank.Rank.{Rank}
use Rattle.asa_objects_values.specs.Tables.{Entry, Table, entry_of, items_of, named, refers_to, same_name, members_of, services_of_name}
use Rattle.asa_objects_table.specs.Ranks.{IsBelow, Part, members, prefixes, addresses, subnets, services, amount, amount_in, Ranks, Uses, label_of, rank_of, has_name}
use Rattle.asa_objects_table.specs.Climbs.{IsInner, IsLaid, Rises}
use Rattle.asa_objects_table.specs.Renewals.{newer, amount_now, summed, AreSums, IsRenewed, IsOver, IsOverfull}
use Rattle.asa_objects_values.specs.Definition.{is_small, are_small}
use Rattle.asa_objects_values.proofs.SpreadLaws.{Among}
use Rattle.asa_objects_values.proofs.LabelLaws.{same-is, same-self, same-bytes}
use Rattle.asa_objects_values.proofs.ReachLaws.{any-append}
use Rattle.asa_objects_table.proofs.RankLaws.{IsLabelled, IsSummed, members-kept, services-kept}
use Rattle.asa_objects_table.proofs.ClimbLaws.{all-has, or-left, or-right, or-cases}
use Rattle.asa_objects_table.proofs.UseLaws.{same-sym}
use Rattle.asa_objects_table.proofs.RenewLaws.{renew-step}
use Rattle.asa_objects_table.proofs.ChangeLaws.{IsChange, each-ref, from-ref, At, at, laid, there-after, new-refers, old-refers, items-new, items-old, named-is, was-there, sum-old}

-- labels rise from the first part of a list to the second
rises-parts : (label : List ℕ → ℕ) (xs ys : List (List ℕ)) → Rises label (xs ++ ys) → (p q : List ℕ) → has_name xs p ≡ true → has_name ys q ≡ true → label p < label q
rises-parts label [] ys rises p q h i = absurd (cc)
rises-parts label (x ∷ xs) ys rises p q h i = by (or-cases (same_name p x) (has_name xs p) h) (λ r. rises-parts label xs ys rises.1 p q r i)
  where
    by : (same_name p x ≡ true) ⊎ (has_name xs p ≡ true) → (has_name xs p ≡ true → label p < label q) → label p < label q
    by (inl same) more = subst (λ n. label n < label q) (sym (same-is p x same))
        (all-has (λ r. label x < label r) (xs ++ ys) q rises.0 (any-append _ xs ys ∙ or-right _ _ i))
    by (inr rest) more = more rest

-- one small name that is too great
some-over : (p : List ℕ → Bool) (es : Table) (n : List ℕ) (e : Entry) → lookup (is_at (slice_cmp nat_cmp n)) es ≡ Some e → p n ≡ false → list_all (λ x. p x.0) es ≡ false
some-over p [] n e found over = absurd (cc)
some-over p (x ∷ xs) n e found over = by (same_name n x.0) (λ s. same-is n x.0 s) found (λ f. some-over p xs n e f over)
  where
    and-right : (a b : Bool) → b ≡ false → (a && b) ≡ false
    and-right true b h = h
    and-right false b h = refl

    by : (b : Bool) → (b ≡ true → n ≡ x.0) → cond b (Some x.1) (lookup (is_at (slice_cmp nat_cmp n)) xs) ≡ Some e
        → (lookup (is_at (slice_cmp nat_cmp n)) xs ≡ Some e → list_all (λ y. p y.0) xs ≡ false) → (p x.0 && list_all (λ y. p y.0) xs) ≡ false
    by true same here more = ap (λ (b : Bool). b && list_all (λ y. p y.0) xs) (ap p (sym (same refl)) ∙ over)
    by false same there more = and-right (p x.0) _ (more there)

too-great : (n : ℕ) → 65536 < n → nat_le n 65536 ≡ false
too-great n h = by (nat_le n 65536) (leb-true n 65536)
  where
    by : (b : Bool) → (b ≡ true → n ≤ 65536) → b ≡ false
    by false f = refl
    by true f = let le = f refl in absurd (omega arith)

pub within-false : (t : Table) (n : List ℕ) → is_some (entry_of t n) ≡ true → (65536 < length (members_of t n)) ⊎ (65536 < length (services_of_name t n)) → are_small t ≡ false
unfolding are_small
within-false t n there over = by (entry_of t n) refl there
  where
    and-right : (a b : Bool) → b ≡ false → (a && b) ≡ false
    and-right true b h = h
    and-right false b h = refl

    small : (65536 < length (members_of t n)) ⊎ (65536 < length (services_of_name t n)) → is_small t n ≡ false
    small (inl lt) = ap (λ (b : Bool). b && nat_le (length (services_of_name t n)) 65536) (too-great _ lt)
    small (inr lt) = and-right (nat_le (length (members_of t n)) 65536) _ (too-great _ lt)

    by : (o : Option Entry) → entry_of t n ≡ o → is_some o ≡ true → list_all (λ e. is_small t e.0) t ≡ false
    by None e h = absurd (cc)
    by (Some x) e h = some-over (is_small t) t n x e (small over)

module _ (t after : Table) (ranks : Ranks) (uses : Uses) (stamp : ℕ) (name : List ℕ) (made : Entry) (names : List (List ℕ))
    (change : IsChange t after ranks uses stamp name made names) where
  -- a label that is greater where the changed name is reached
  raised : List ℕ → ℕ
  raised q = cond (has_name names q) (stamp + label_of ranks q) (label_of ranks q)

  raised-in : (q : List ℕ) → has_name names q ≡ true → raised q ≡ stamp + label_of ranks q
  unfolding raised
  raised-in q h = ap (λ (b : Bool). cond b (stamp + label_of ranks q) (label_of ranks q)) h

  raised-out : (q : List ℕ) → has_name names q ≡ false → raised q ≡ label_of ranks q
  unfolding raised
  raised-out q h = ap (λ (b : Bool). cond b (stamp + label_of ranks q) (label_of ranks q)) h

  either : (b : Bool) → (b ≡ true) ⊎ (b ≡ false)
  either true = inl refl
  either false = inr refl

  both : {P : Type 0} (b : Bool) → b ≡ true → b ≡ false → P
  both b e f = absurd (false≢true (sym f ∙ e))

  raised-falls : (q c : List ℕ) → list_any (refers_to c) (items_of after q) ≡ true → raised c < raised q
  raised-falls q c r = by (at t after ranks uses stamp name made names change q)
    where
      by : At t after ranks uses stamp name made names change q → raised c < raised q
      by (inl a) =
          let f = new-refers t after ranks uses stamp name made names change c (ap (list_any (refers_to c)) (sym (items-new t after ranks uses stamp name made names change q a.1)) ∙ r) in
          let e = raised-out c f.1 in
          let g = raised-in q (ap (has_name names) (sym a.0) ∙ named-is t after ranks uses stamp name made names change) in
          let old = change.sound.early c (change.sound.ranked c ∙ f.0) in omega arith
      by (inr a) = olds (either (has_name names c)) (either (has_name names q))
        where
          o : (is_some (entry_of t c) ≡ true) × (label_of ranks c < label_of ranks q) × (has_name names c ≡ true → has_name names q ≡ true)
          o = old-refers t after ranks uses stamp name made names change q c (ap (list_any (refers_to c)) (sym (items-old t after ranks uses stamp name made names change q a.1)) ∙ r)

          olds : (has_name names c ≡ true) ⊎ (has_name names c ≡ false) → (has_name names q ≡ true) ⊎ (has_name names q ≡ false) → raised c < raised q
          olds (inl h) (inl i) = let e = raised-in c h in let f = raised-in q i in let lt = o.1 in omega arith
          olds (inl h) (inr i) = both (has_name names q) (o.2 h) i
          olds (inr h) (inl i) = let e = raised-out c h in let f = raised-in q i in let lt = o.1 in omega arith
          olds (inr h) (inr i) = let e = raised-out c h in let f = raised-out q i in let lt = o.1 in omega arith

  labelled-after : IsLabelled after raised
  labelled-after = record {
    there = there-after t after ranks uses stamp name made names change;
    falls = λ q. each-ref (IsBelow raised (raised q)) tt (items_of after q) (raised-falls q);
  }

  -- the first names, renewed
  module _ (first rest : List (List ℕ)) (split : names ≡ first ++ rest) (new : Ranks) (label : ℕ) (renewed : IsRenewed after ranks stamp first new label) where
    abbrev Done : List ℕ → Type 0
    Done q = (has_name names q ≡ false) ⊎ (has_name first q ≡ true)

    in-first : (c : List ℕ) → has_name names c ≡ true → (has_name first c ≡ true) ⊎ (has_name rest c ≡ true)
    in-first c h = or-cases (has_name first c) (has_name rest c) (sym (any-append _ first rest) ∙ ap (λ ns. has_name ns c) (sym split) ∙ h)

    first-in : (c : List ℕ) → has_name first c ≡ true → has_name names c ≡ true
    first-in c h = ap (λ ns. has_name ns c) split ∙ any-append _ first rest ∙ or-left _ _ h

    within : (c : List ℕ) → has_name names c ≡ false → has_name first c ≡ false
    within c h = by (either (has_name first c))
      where
        by : (has_name first c ≡ true) ⊎ (has_name first c ≡ false) → has_name first c ≡ false
        by (inl i) = both (has_name names c) (first-in c i) h
        by (inr i) = i

    settled : (q : List ℕ) → Done q → AllByRecursion (λ i. Among Done (named i)) (items_of after q)
    settled q (inl out) = each-ref (Among Done) tt (items_of after q) (λ c r. inl (by c r (at t after ranks uses stamp name made names change q) (either (has_name names c))))
      where
        by : (c : List ℕ) → list_any (refers_to c) (items_of after q) ≡ true → At t after ranks uses stamp name made names change q
            → (has_name names c ≡ true) ⊎ (has_name names c ≡ false) → has_name names c ≡ false
        by c r a (inr h) = h
        by c r (inl a) (inl h) = both (has_name names q) (ap (has_name names) (sym a.0) ∙ named-is t after ranks uses stamp name made names change) out
        by c r (inr a) (inl h) = both (has_name names q)
            ((old-refers t after ranks uses stamp name made names change q c (ap (list_any (refers_to c)) (sym (items-old t after ranks uses stamp name made names change q a.1)) ∙ r)).2 h) out
    settled q (inr done) = each-ref (Among Done) tt (items_of after q) (λ c r. by c r (either (has_name names c)))
      where
        inside : (c : List ℕ) → list_any (refers_to c) (items_of after q) ≡ true → has_name names c ≡ true → change.above.order c < change.above.order q
        inside c r h = from-ref (IsInner names change.above.order (change.above.order q)) (items_of after q) c ((laid t after ranks uses stamp name made names change).inner q (first-in q done)) r h

        later : (c : List ℕ) → has_name rest c ≡ true → change.above.order q < change.above.order c
        later c h = rises-parts change.above.order first rest (subst (Rises change.above.order) split change.above.laid.rising) q c done h

        by : (c : List ℕ) → list_any (refers_to c) (items_of after q) ≡ true → (has_name names c ≡ true) ⊎ (has_name names c ≡ false) → Done c
        by c r (inr h) = inl h
        by c r (inl h) = place (in-first c h)
          where
            place : (has_name first c ≡ true) ⊎ (has_name rest c ≡ true) → Done c
            place (inl i) = inr i
            place (inr i) = let lt = inside c r h in let gt = later c i in absurd (omega arith)

    kept-summed : (k : Part) → IsSummed after raised labelled-after k (amount_now k new ranks) Done
    kept-summed k q (inl out) = by (rank_of new q) refl
      where
        by : (o : Option Rank) → rank_of new q ≡ o → amount_now k new ranks q ≡ summed k after new ranks q
        by None e = ap (λ o. amount_in k (newer o (rank_of ranks q))) e ∙ sum-old t after ranks uses stamp name made names change k first new label renewed within q out
        by (Some r) e = both (has_name first q) (sym (renewed.covers q) ∙ ap is_some e) (within q out)
    kept-summed k q (inr done) = by (rank_of new q) refl
      where
        by : (o : Option Rank) → rank_of new q ≡ o → amount_now k new ranks q ≡ summed k after new ranks q
        by None e = both (has_name first q) done (sym (renewed.covers q) ∙ ap is_some e)
        by (Some r) e = ap (λ o. amount_in k (newer o (rank_of ranks q))) e ∙ ap (amount_in k) (sym e) ∙ renewed.sums k q (ap is_some e)

    pub first-members : (q : List ℕ) → has_name first q ≡ true → length (members_of after q) ≡ summed members after new ranks q
    first-members q h = members-kept after raised labelled-after (amount_now members new ranks) Done settled (kept-summed members) q (inr h) ∙ kept-summed members q (inr h)

    pub first-services : (q : List ℕ) → has_name first q ≡ true → length (services_of_name after q) ≡ summed services after new ranks q
    first-services q h = services-kept after raised labelled-after (amount_now services new ranks) Done settled (kept-summed services) q (inr h) ∙ kept-summed services q (inr h)

-- a total that passes the limit shows that the table isn't within the limits
pub over-false : (t after : Table) (ranks : Ranks) (uses : Uses) (stamp : ℕ) (name : List ℕ) (made : Entry) (names : List (List ℕ)) → IsChange t after ranks uses stamp name made names
    → IsOverfull after ranks stamp names → are_small after ≡ false
over-false t after ranks uses stamp name made names change o =
    within-false after o.name (was-there t after ranks uses stamp name made names change o.name ∙ sym (change.sound.ranked o.name) ∙ there) (by o.over)
  where
    in-names : has_name names o.name ≡ true
    in-names = ap (λ ns. has_name ns o.name) o.split ∙ any-append _ o.before (o.name ∷ o.after) ∙ or-right _ _ (or-left _ _ (same-self o.name))

    there : is_some (rank_of ranks o.name) ≡ true
    there = all-has (λ p. is_some (rank_of ranks p) ≡ true) names o.name change.above.there in-names

    totals : Amounts
    totals = record {
      members = summed members after o.new ranks o.name;
      prefixes = summed prefixes after o.new ranks o.name;
      addresses = summed addresses after o.new ranks o.name;
      subnets = summed subnets after o.new ranks o.name;
      services = summed services after o.new ranks o.name;
    }

    new : Ranks
    new = (o.name, record { label = o.label; totals = totals }) ∷ o.new

    sums : AreSums after o.new ranks o.name totals
    sums members = refl
    sums prefixes = refl
    sums addresses = refl
    sums subnets = refl
    sums services = refl

    put : (q : List ℕ) → rank_of new q ≡ cond (same_name o.name q) (Some (record { label = o.label; totals = totals })) (rank_of o.new q)
    put q = ap (λ (b : Bool). cond b (Some (record { label = o.label; totals = totals })) (rank_of o.new q)) (sym (same-bytes q o.name) ∙ same-sym q o.name)

    renewed : IsRenewed after ranks stamp (o.before ++ o.name ∷ []) new (o.label + 1)
    renewed = renew-step after ranks change.above.order stamp o.before o.name o.after (subst (IsLaid after change.above.order) o.split (laid t after ranks uses stamp name made names change)) o.new new o.label totals o.renewed sums put

    append-one : (xs : List (List ℕ)) (n : List ℕ) (ys : List (List ℕ)) → xs ++ n ∷ ys ≡ (xs ++ n ∷ []) ++ ys
    append-one [] n ys = refl
    append-one (x ∷ xs) n ys = ap (λ zs. x ∷ zs) (append-one xs n ys)

    is-first : has_name (o.before ++ o.name ∷ []) o.name ≡ true
    is-first = any-append _ o.before (o.name ∷ []) ∙ or-right _ _ (or-left _ _ (same-self o.name))

    amount-new : (k : Part) → summed k after new ranks o.name ≡ amount k totals
    amount-new k = sym (renewed.sums k o.name (ap is_some (put-here))) ∙ ap (amount_in k) put-here
      where
        put-here : rank_of new o.name ≡ Some (record { label = o.label; totals = totals })
        put-here = put o.name ∙ ap (λ (b : Bool). cond b (Some (record { label = o.label; totals = totals })) (rank_of o.new o.name)) (same-self o.name)

    split : names ≡ (o.before ++ o.name ∷ []) ++ o.after
    split = o.split ∙ append-one o.before o.name o.after

    by : IsOver after o.new ranks o.name → (65536 < length (members_of after o.name)) ⊎ (65536 < length (services_of_name after o.name))
    by (inl lt) = inl (subst (λ n. 65536 < n)
        (sym (first-members t after ranks uses stamp name made names change (o.before ++ o.name ∷ []) o.after split new (o.label + 1) renewed o.name is-first ∙ amount-new members ∙ sym (sums members))) (subst (λ n. 65536 < n) (sums members) lt))
    by (inr lt) = inr (subst (λ n. 65536 < n)
        (sym (first-services t after ranks uses stamp name made names change (o.before ++ o.name ∷ []) o.after split new (o.label + 1) renewed o.name is-first ∙ amount-new services ∙ sym (sums services))) (subst (λ n. 65536 < n) (sums services) lt))

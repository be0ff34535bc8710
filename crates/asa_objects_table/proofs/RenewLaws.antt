-- One more name is renewed.
use Rattle.std.proofs.Common.{◌≡◌, ℕ, ◌+◌, ◌<◌, ◌≤◌, ◌⊎◌, inl, inr, suc, Bool, true, false, cond, ◌||◌, List, [], ◌∷◌, ◌++◌, length, take, drop, get_or, Option, Some, None, Err, is_some, refl, sym, ap, subst, ◌∙◌, arith}
use Rattle.std.specs.List.{AllByRecursion}
use Rattle.std.proofs.lemmas.Bool.{false≢true}
use Rattle.std.proofs.lemmas.List.{take-append-drop}
use Rattle.std.proofs.Math.Seq.{drop-cons, take-suc}
use Rattle.asa_objects_values.specs.declared.faults.ObjectFault.{ObjectFault}
use Rattle.asa_objects_values.specs.declared.faults.ObjectFault.TheVariants as fault
use Rattle.asa_objects_lines.specs.declared.statement.Item.{Item}
use Rattle.asa_objects_table.specs.Amounts.{Amounts}
use Rattle.asa_objects_table.specs.declared.rank.Rank.{Rank}
use Rattle.asa_objects_values.specs.Spreads.{total, weight_of}
use Rattle.asa_objects_values.specs.Tables.{Table, items_of, named, same_name, entry_of, group_at}
use Rattle.asa_objects_table.specs.Ranks.{Part, members, services, amount, amount_in, amount_of, label_in, Ranks, label_of, rank_of, has_name, weigh, own_totals}
use Rattle.asa_objects_table.specs.Climbs.{IsInner, IsLaid, Rises}
use Rattle.asa_objects_table.specs.Renewals.{newer, amount_now, summed, AreSums, IsRenewed, AreSmall, Overfills, Sums}
use Rattle.asa_objects_values.proofs.LabelLaws.{same-is, same-self}
use Rattle.asa_objects_values.proofs.ReachLaws.{any-append}
use Rattle.asa_objects_table.proofs.ClimbLaws.{all-has, or-left, or-right}

-- names before one have lesser labels
pub rises-before : (label : List ℕ → ℕ) (before : List (List ℕ)) (n : List ℕ) (after : List (List ℕ)) → Rises label (before ++ n ∷ after) → AllByRecursion (λ q. label q < label n) before
rises-before label [] n after rises = tt
rises-before label (b ∷ bs) n after rises = (at bs rises.0, rises-before label bs n after rises.1)
  where
    at : (bs : List (List ℕ)) → AllByRecursion (λ r. label b < label r) (bs ++ n ∷ after) → label b < label n
    at [] all = all.0
    at (c ∷ cs) all = at cs all.1

-- the name that a member refers to isn't this one
abbrev pub Apart : List ℕ → Option (List ℕ) → Type 0
Apart n None = Unit {0}
Apart n (Some c) = same_name n c ≡ false

weight-apart : (f g : List ℕ → ℕ) (n : List ℕ) → ((c : List ℕ) → same_name n c ≡ false → f c ≡ g c) → (o : Option (List ℕ)) → Apart n o → weight_of f o ≡ weight_of g o
weight-apart f g n same None apart = refl
weight-apart f g n same (Some c) apart = same c apart

pub weigh-apart : (k : Part) (t : Table) (q n : List ℕ) (f g : List ℕ → ℕ) → ((c : List ℕ) → same_name n c ≡ false → f c ≡ g c) → (xs : List Item)
    → AllByRecursion (λ i. Apart n (named i)) xs → total (weigh k t f q) xs ≡ total (weigh k t g q) xs
weigh-apart k t q n f g same [] apart = refl
weigh-apart k t q n f g same (x ∷ xs) apart =
    ap (λ w. amount k (own_totals (group_at (entry_of t q)) x) + w + total (weigh k t f q) xs) (weight-apart f g n same (named x) apart.0)
    ∙ ap (λ r. weigh k t g q x + r) (weigh-apart k t q n f g same xs apart.1)

pub renew-start : (t : Table) (ranks : Ranks) (stamp : ℕ) (new : Ranks) → new ≡ [] → IsRenewed t ranks stamp [] new stamp
renew-start t ranks stamp new empty = record {
  covers = λ q. none q;
  later = omega arith;
  fresh = λ q h. let no = none q in absurd (cc);
  inner = λ q h. absurd (cc);
  unlike = λ p q h i e. let no = none p in absurd (cc);
  sums = λ k q h. let no = none q in absurd (cc);
}
  where
    none : (q : List ℕ) → is_some (rank_of new q) ≡ false
    none q = ap (λ (r : Ranks). is_some (rank_of r q)) empty

module _ (t : Table) (ranks : Ranks) (order : List ℕ → ℕ) (stamp : ℕ) (before : List (List ℕ)) (n : List ℕ) (after : List (List ℕ)) (laid : IsLaid t order (before ++ n ∷ after))
    (new made : Ranks) (label : ℕ) (totals : Amounts) (renewed : IsRenewed t ranks stamp before new label) (sums : AreSums t new ranks n totals)
    (put : (q : List ℕ) → rank_of made q ≡ cond (same_name n q) (Some (record { label = label; totals = totals })) (rank_of new q)) where
  -- a name is the new one, or was renewed before
  abbrev Case : List ℕ → Type 0
  Case q = ((n ≡ q) × (rank_of made q ≡ Some (record { label = label; totals = totals }))) ⊎ ((same_name n q ≡ false) × (rank_of made q ≡ rank_of new q))

  case : (q : List ℕ) → Case q
  case q = by (same_name n q) refl (put q)
    where
      by : (b : Bool) → same_name n q ≡ b → rank_of made q ≡ cond b (Some (record { label = label; totals = totals })) (rank_of new q) → Case q
      by true same e = inl (same-is n q same, e)
      by false apart e = inr (apart, e)

  less : (q : List ℕ) → has_name before q ≡ true → order q < order n
  less q h = all-has (λ p. order p < order n) before q (rises-before order before n after laid.rising) h

  among : (q : List ℕ) → has_name before q ≡ true → has_name (before ++ n ∷ after) q ≡ true
  among q h = any-append _ before (n ∷ after) ∙ or-left _ _ h

  itself : has_name (before ++ n ∷ after) n ≡ true
  itself = any-append _ before (n ∷ after) ∙ or-right _ _ (or-left _ _ (same-self n))

  -- no renewed name refers to the new one, nor does that to itself
  apart-of : (k : ℕ) → k ≤ order n → (o : Option (List ℕ)) → IsInner (before ++ n ∷ after) order k o → Apart n o
  apart-of k le None inner = tt
  apart-of k le (Some c) inner = by (same_name n c) refl
    where
      by : (b : Bool) → same_name n c ≡ b → same_name n c ≡ false
      by false e = e
      by true same =
          let e : n ≡ c = same-is n c same in
          let lt = inner (subst (λ p. has_name (before ++ n ∷ after) p ≡ true) e itself) in
          let at : order n ≡ order c = ap order e in
          absurd (omega arith)

  aparts : (k : ℕ) → k ≤ order n → (xs : List Item) → AllByRecursion (λ i. IsInner (before ++ n ∷ after) order k (named i)) xs → AllByRecursion (λ i. Apart n (named i)) xs
  aparts k le [] inner = tt
  aparts k le (x ∷ xs) inner = (apart-of k le (named x) inner.0, aparts k le xs inner.1)

  stays : (k : Part) (c : List ℕ) → same_name n c ≡ false → amount_now k new ranks c ≡ amount_now k made ranks c
  stays k c apart = ap (λ o. amount_in k (newer o (rank_of ranks c))) (sym (put c ∙ ap (λ (b : Bool). cond b (Some (record { label = label; totals = totals })) (rank_of new c)) apart))

  same-sum : (k : Part) (q : List ℕ) → has_name (before ++ n ∷ after) q ≡ true → order q ≤ order n → summed k t new ranks q ≡ summed k t made ranks q
  same-sum k q h le = weigh-apart k t q n (amount_now k new ranks) (amount_now k made ranks) (stays k) (items_of t q) (aparts (order q) le (items_of t q) (laid.inner q h))

  label-new : (q : List ℕ) → rank_of made q ≡ Some (record { label = label; totals = totals }) → label_of made q ≡ label
  label-new q e = ap label_in e

  label-old : (q : List ℕ) → rank_of made q ≡ rank_of new q → label_of made q ≡ label_of new q
  label-old q e = ap label_in e

  was : (q : List ℕ) → rank_of made q ≡ rank_of new q → is_some (rank_of made q) ≡ true → is_some (rank_of new q) ≡ true
  was q e h = ap is_some (sym e) ∙ h

  in-before : (q : List ℕ) → is_some (rank_of new q) ≡ true → has_name before q ≡ true
  in-before q h = sym (renewed.covers q) ∙ h

  pub renew-step : IsRenewed t ranks stamp (before ++ n ∷ []) made (label + 1)
  renew-step = record {
    covers = covers;
    later = let l = renewed.later in omega arith;
    fresh = fresh;
    inner = inner;
    unlike = unlike;
    sums = sums-made;
  }
    where
      covers : (q : List ℕ) → is_some (rank_of made q) ≡ has_name (before ++ n ∷ []) q
      covers q = by (case q)
        where
          reversed : (b : Bool) → same_name q n ≡ b → same_name n q ≡ false → same_name q n ≡ false
          reversed false e apart = e
          reversed true e apart = absurd (false≢true (sym apart ∙ ap (same_name n) (same-is q n e) ∙ same-self n))

          or-nothing : (a b : Bool) → b ≡ false → a ≡ (a || (b || false))
          or-nothing true b h = refl
          or-nothing false b h = ap (λ x. x || false) (sym h)

          by : Case q → is_some (rank_of made q) ≡ has_name (before ++ n ∷ []) q
          by (inl c) = ap is_some c.1 ∙ sym (any-append _ before (n ∷ []) ∙ or-right _ _ (or-left _ _ (ap (same_name q) c.0 ∙ same-self q)))
          by (inr c) = ap is_some c.1 ∙ renewed.covers q ∙ or-nothing (has_name before q) (same_name q n) (reversed (same_name q n) refl c.0) ∙ sym (any-append _ before (n ∷ []))

      fresh : (q : List ℕ) → is_some (rank_of made q) ≡ true → (stamp ≤ label_of made q) × (label_of made q < label + 1)
      fresh q h = by (case q)
        where
          by : Case q → (stamp ≤ label_of made q) × (label_of made q < label + 1)
          by (inl c) = let e = label-new q c.1 in let l = renewed.later in (omega arith, omega arith)
          by (inr c) = let e = label-old q c.1 in let f = renewed.fresh q (was q c.1 h) in (omega (arith, f.0), omega (arith, f.1))

      -- a member that refers to a name that is new has a greater label than that
      inner-all : (P : Option (List ℕ) → Type 0) (l : ℕ) → ((c : List ℕ) → P (Some c) → has_name before c ≡ true → label_of new c < l) → (xs : List Item)
          → AllByRecursion (λ i. Apart n (named i)) xs → AllByRecursion (λ i. P (named i)) xs → AllByRecursion (λ i. IsInner (before ++ n ∷ []) (label_of made) l (named i)) xs
      inner-all P l less-of [] apart all = tt
      inner-all P l less-of (x ∷ xs) apart all = (of (named x) apart.0 all.0, inner-all P l less-of xs apart.1 all.1)
        where
          of : (o : Option (List ℕ)) → Apart n o → P o → IsInner (before ++ n ∷ []) (label_of made) l o
          of None apart p = tt
          of (Some c) apart p = by (case c)
            where
              by : Case c → has_name (before ++ n ∷ []) c ≡ true → label_of made c < l
              by (inl d) h = absurd (false≢true (sym apart ∙ ap (same_name n) (sym d.0) ∙ same-self n))
              by (inr d) h = let e = label-old c d.1 in let lt = less-of c p (in-before c (was c d.1 (covers c ∙ h))) in omega arith

      inner : (q : List ℕ) → has_name (before ++ n ∷ []) q ≡ true → AllByRecursion (λ i. IsInner (before ++ n ∷ []) (label_of made) (label_of made q) (named i)) (items_of t q)
      inner q h = by (case q)
        where
          by : Case q → AllByRecursion (λ i. IsInner (before ++ n ∷ []) (label_of made) (label_of made q) (named i)) (items_of t q)
          by (inl c) = subst (λ p. AllByRecursion (λ i. IsInner (before ++ n ∷ []) (label_of made) (label_of made q) (named i)) (items_of t p)) c.0
              (inner-all (Apart n) (label_of made q) (λ m _ b. let e = label-new q c.1 in let f = renewed.fresh m (renewed.covers m ∙ b) in omega (arith, f.1)) (items_of t n)
              (aparts (order n) (omega arith) (items_of t n) (laid.inner n itself)) (aparts (order n) (omega arith) (items_of t n) (laid.inner n itself)))
          by (inr c) =
              let b = in-before q (was q c.1 (covers q ∙ h)) in
              let l = less q b in
              inner-all (IsInner before (label_of new) (label_of new q)) (label_of made q) (λ m lt d. let e = label-old q c.1 in let f = lt d in omega arith) (items_of t q)
              (aparts (order q) (omega arith) (items_of t q) (laid.inner q (among q b))) (renewed.inner q b)

      unlike : (p q : List ℕ) → is_some (rank_of made p) ≡ true → is_some (rank_of made q) ≡ true → label_of made p ≡ label_of made q → p ≡ q
      unlike p q h i same = by (case p) (case q)
        where
          by : Case p → Case q → p ≡ q
          by (inl c) (inl d) = sym c.0 ∙ d.0
          by (inl c) (inr d) = let e = label-new p c.1 in let f = label-old q d.1 in let g = renewed.fresh q (was q d.1 i) in absurd (omega (arith, g.1))
          by (inr c) (inl d) = let e = label-old p c.1 in let f = label-new q d.1 in let g = renewed.fresh p (was p c.1 h) in absurd (omega (arith, g.1))
          by (inr c) (inr d) = renewed.unlike p q (was p c.1 h) (was q d.1 i) (sym (label-old p c.1) ∙ same ∙ label-old q d.1)

      sums-made : (k : Part) (q : List ℕ) → is_some (rank_of made q) ≡ true → amount_of k made q ≡ summed k t made ranks q
      sums-made k q h = by (case q)
        where
          by : Case q → amount_of k made q ≡ summed k t made ranks q
          by (inl c) = ap (amount_in k) c.1 ∙ sums k ∙ same-sum k n itself (omega arith) ∙ ap (summed k t made ranks) c.0
          by (inr c) = let b = in-before q (was q c.1 h) in let l = less q b in
              ap (amount_in k) c.1 ∙ renewed.sums k q (was q c.1 h) ∙ same-sum k q (among q b) (omega arith)

  pub small-step : (totals.members ≤ 65536) × (totals.services ≤ 65536) → AreSmall new → AreSmall made
  small-step small olds q h = by (case q)
    where
      by : Case q → (amount_of members made q ≤ 65536) × (amount_of services made q ≤ 65536)
      by (inl c) = (subst (λ (o : Option Rank). amount_in members o ≤ 65536) (sym c.1) small.0, subst (λ (o : Option Rank). amount_in services o ≤ 65536) (sym c.1) small.1)
      by (inr c) = let s = olds q (was q c.1 h) in
          (subst (λ (o : Option Rank). amount_in members o ≤ 65536) (sym c.1) s.0, subst (λ (o : Option Rank). amount_in services o ≤ 65536) (sym c.1) s.1)

pub small-start : (new : Ranks) → new ≡ [] → AreSmall new
small-start new empty q h = let no : is_some (rank_of new q) ≡ false = ap (λ (r : Ranks). is_some (rank_of r q)) empty in absurd (cc)

-- a list, cut at one of its elements
pub cut-at : (xs : List (List ℕ)) (i : ℕ) (d : List ℕ) → i < length xs → xs ≡ take i xs ++ get_or xs i d ∷ drop (suc i) xs
cut-at xs i d lt = sym (take-append-drop i xs) ∙ ap (λ r. take i xs ++ r) (drop-cons xs i d lt)

-- a name isn't new before its turn
pub not-before : (t : Table) (ranks : Ranks) (order : List ℕ → ℕ) (stamp : ℕ) (names : List (List ℕ)) (i : ℕ) (d n : List ℕ) (new : Ranks) (label : ℕ) → i < length names → n ≡ get_or names i d
    → IsLaid t order names → IsRenewed t ranks stamp (take i names) new label → rank_of new n ≡ None
not-before t ranks order stamp names i d n new label lt is laid renewed = by (rank_of new n) (renewed.covers n)
  where
    rises : Rises order (take i names ++ n ∷ drop (suc i) names)
    rises = subst (Rises order) (cut-at names i d lt ∙ ap (λ m. take i names ++ m ∷ drop (suc i) names) (sym is)) laid.rising

    by : (o : Option Rank) → is_some o ≡ has_name (take i names) n → o ≡ None
    by None h = refl
    by (Some r) h =
        let less : order n < order n =
        all-has (λ p. order p < order n) (take i names) n (rises-before order (take i names) n (drop (suc i) names) rises) (sym h) in
        absurd (omega arith)

-- the same, as a loop over the names goes
pub renew-at : (t : Table) (ranks : Ranks) (order : List ℕ → ℕ) (stamp : ℕ) (names : List (List ℕ)) (i : ℕ) (d n : List ℕ) (new made : Ranks) (label next : ℕ) (totals : Amounts)
    → i < length names → n ≡ get_or names i d → IsLaid t order names → IsRenewed t ranks stamp (take i names) new label × AreSmall new
    → (AreSums t new ranks n totals × (totals.members ≤ 65536) × (totals.services ≤ 65536))
    → ((q : List ℕ) → rank_of made q ≡ cond (same_name n q) (Some (record { label = label; totals = totals })) (rank_of new q)) → next ≡ label + 1
    → IsRenewed t ranks stamp (take (i + 1) names) made next × AreSmall made
renew-at t ranks order stamp names i d n new made label next totals lt is laid renewed sums put step =
    let cut : names ≡ take i names ++ n ∷ drop (suc i) names = cut-at names i d lt ∙ ap (λ m. take i names ++ m ∷ drop (suc i) names) (sym is) in
    let more : take (i + 1) names ≡ take i names ++ n ∷ [] = ap (λ j. take j names) (add-one i) ∙ take-suc names i d lt ∙ ap (λ m. take i names ++ m ∷ []) (sym is) in (
      subst (λ l. IsRenewed t ranks stamp (take (i + 1) names) made l) (sym step)
          (subst (λ qs. IsRenewed t ranks stamp qs made (label + 1)) (sym more)
          (renew-step t ranks order stamp (take i names) n (drop (suc i) names) (subst (IsLaid t order) cut laid) new made label totals renewed.0 sums.0 put)),
      small-step t ranks order stamp (take i names) n (drop (suc i) names) (subst (IsLaid t order) cut laid) new made label totals renewed.0 sums.0 put (sums.1, sums.2) renewed.1,
    )
  where
    add-one : (j : ℕ) → j + 1 ≡ suc j
    add-one j = omega arith

pub overfull-at : (t : Table) (ranks : Ranks) (stamp : ℕ) (names : List (List ℕ)) (i : ℕ) (d n : List ℕ) (new : Ranks) (label : ℕ) (f : ObjectFault)
    → i < length names → n ≡ get_or names i d → IsRenewed t ranks stamp (take i names) new label → Sums t new ranks n (Err f) → Overfills t ranks stamp names f
overfull-at t ranks stamp names i d n new label fault.TooMany lt is renewed over = record {
  before = take i names;
  name = n;
  after = drop (suc i) names;
  split = cut-at names i d lt ∙ ap (λ m. take i names ++ m ∷ drop (suc i) names) (sym is);
  new = new;
  label = label;
  renewed = renewed;
  over = over;
}
overfull-at t ranks stamp names i d n new label fault.NoMemory lt is renewed over = tt
overfull-at t ranks stamp names i d n new label fault.NameTaken lt is renewed over = over
overfull-at t ranks stamp names i d n new label (fault.Unknown l c) lt is renewed over = over
overfull-at t ranks stamp names i d n new label (fault.Bad l c) lt is renewed over = over
overfull-at t ranks stamp names i d n new label (fault.Unsupported l c) lt is renewed over = over
overfull-at t ranks stamp names i d n new label (fault.Cycle l) lt is renewed over = over
overfull-at t ranks stamp names i d n new label (fault.NoSuchMember l) lt is renewed over = over
overfull-at t ranks stamp names i d n new label (fault.NoValue c) lt is renewed over = over

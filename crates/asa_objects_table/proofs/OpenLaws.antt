-- What is kept stays sound where a name without members is added, and where one that no name refers to goes.
use Rattle.std.proofs.Common.{◌≡◌, ℕ, ◌+◌, ◌<◌, ◌≤◌, ◌⊎◌, inl, inr, Bool, true, false, cond, ◌&&◌, not, List, [], ◌∷◌, Option, Some, None, is_some, refl, sym, ap, subst, ◌∙◌, arith}
use Rattle.std.specs.List.{AllByRecursion, list_any, find}
use Rattle.std.specs.Option.{option_map}
use Rattle.std.specs.Map.{lookup}
use Rattle.std.specs.BTreeMap.{is_at}
use Rattle.std.specs.Ordering.{nat_cmp}
use Rattle.std.specs.Cmp.Lexicographic.{slice_cmp}
use Rattle.std.proofs.lemmas.Bool.{false≢true}
use Rattle.asa_objects_table.specs.declared.rank.Rank.{Rank}
use Rattle.asa_objects_values.specs.Spreads.{total, weight_of}
use Rattle.asa_objects_values.specs.Tables.{Entry, Table, entry_of, items_in, items_of, named, refers_to, same_name, group_at, user_of, refs_in}
use Rattle.asa_objects_table.specs.Ranks.{IsSound, IsThere, IsBelow, Part, members, prefixes, addresses, subnets, services, amount, amount_in, amount_of, label_in, Ranks, Uses, label_of, rank_of, users_of, has_name, weigh, own_totals, no_totals}
use Rattle.asa_objects_table.specs.Users.{AreUnused}
use Rattle.asa_objects_values.proofs.LabelLaws.{same-is}
use Rattle.asa_objects_table.proofs.RenewLaws.{Apart, weigh-apart}
use Rattle.asa_objects_table.proofs.ChangeLaws.{each-ref, from-ref}
use Rattle.asa_objects_table.proofs.ReplaceLaws.{refers-former}

-- a table and its ranks with one name other than before: what it has there, and what every other name has
module _ (t after : Table) (ranks ranks2 : Ranks) (uses : Uses) (stamp : ℕ) (name : List ℕ) (value : Option Entry) (rank : Option Rank) (sound : IsSound t ranks uses stamp)
    (entry : (q : List ℕ) → entry_of after q ≡ cond (same_name name q) value (entry_of t q))
    (ranked : (q : List ℕ) → rank_of ranks2 q ≡ cond (same_name name q) rank (rank_of ranks q))
    (empty : items_in value ≡ []) (zero-amount : (k : Part) → amount_in k rank ≡ 0) (same-some : is_some rank ≡ is_some value)
    (unused : (q : List ℕ) → same_name name q ≡ false → list_any (refers_to name) (items_of t q) ≡ false) where
  abbrev At : List ℕ → Type 0
  At q = ((name ≡ q) × (entry_of after q ≡ value) × (rank_of ranks2 q ≡ rank)) ⊎ ((same_name name q ≡ false) × (entry_of after q ≡ entry_of t q) × (rank_of ranks2 q ≡ rank_of ranks q))

  at : (q : List ℕ) → At q
  at q = by (same_name name q) refl (entry q) (ranked q)
    where
      by : (b : Bool) → same_name name q ≡ b → entry_of after q ≡ cond b value (entry_of t q) → rank_of ranks2 q ≡ cond b rank (rank_of ranks q) → At q
      by true same e r = inl (same-is name q same, e, r)
      by false apart e r = inr (apart, e, r)

  -- another name's members refer to other names
  others : (q : List ℕ) → same_name name q ≡ false → (c : List ℕ) → list_any (refers_to c) (items_of t q) ≡ true → same_name name c ≡ false
  others q apart c r = by (same_name name c) refl
    where
      by : (b : Bool) → same_name name c ≡ b → same_name name c ≡ false
      by false e = e
      by true e = absurd (false≢true (sym (unused q apart) ∙ ap (λ n. list_any (refers_to n) (items_of t q)) (same-is name c e) ∙ r))

  entry-other : (c : List ℕ) → same_name name c ≡ false → entry_of after c ≡ entry_of t c
  entry-other c e = entry c ∙ ap (λ (b : Bool). cond b value (entry_of t c)) e

  rank-other : (c : List ℕ) → same_name name c ≡ false → rank_of ranks2 c ≡ rank_of ranks c
  rank-other c e = ranked c ∙ ap (λ (b : Bool). cond b rank (rank_of ranks c)) e

  both-empty : (q : List ℕ) → entry_of after q ≡ value → items_of after q ≡ []
  both-empty q e = ap items_in e ∙ empty

  others-each : (Q : Option (List ℕ) → Type 0) → Q None → (q : List ℕ) → ((same_name name q ≡ false) → (c : List ℕ) → list_any (refers_to c) (items_of t q) ≡ true → same_name name c ≡ false → Q (Some c))
      → AllByRecursion (λ i. Q (named i)) (items_of after q)
  others-each Q none q f = by (at q)
    where
      by : At q → AllByRecursion (λ i. Q (named i)) (items_of after q)
      by (inl a) = subst (AllByRecursion (λ i. Q (named i))) (sym (both-empty q a.1)) tt
      by (inr a) = each-ref Q none (items_of after q) (λ c r. let old = ap (λ o. list_any (refers_to c) (items_in o)) (sym a.1) ∙ r in f a.0 c old (others q a.0 c old))

  -- what is kept of the others is as it was
  pub other-sound : (label : ℕ) → stamp ≤ label → ((r : Rank) → rank ≡ Some r → (stamp ≤ r.label) × (r.label < label)) → (uses2 : Uses)
      → ((c u : List ℕ) → has_name (users_of uses2 c) u ≡ list_any (refers_to c) (items_of after u)) → IsSound after ranks2 uses2 label
  other-sound label later fresh uses2 used = record {
    ranked = ranks-after;
    there = λ q. others-each (IsThere after) tt q (λ apart c r other. ap is_some (entry-other c other) ∙ from-ref (IsThere t) (items_of t q) c (sound.there q) r);
    falls = falls;
    early = early;
    unlike = unlike;
    sums = sums;
    small = small;
    used = used;
  }
    where
      ranks-after : (q : List ℕ) → is_some (rank_of ranks2 q) ≡ is_some (entry_of after q)
      ranks-after q = by (at q)
        where
          by : At q → is_some (rank_of ranks2 q) ≡ is_some (entry_of after q)
          by (inl a) = ap is_some a.2 ∙ same-some ∙ sym (ap is_some a.1)
          by (inr a) = ap is_some a.2 ∙ sound.ranked q ∙ sym (ap is_some a.1)

      falls : (q : List ℕ) → AllByRecursion (λ i. IsBelow (label_of ranks2) (label_of ranks2 q) (named i)) (items_of after q)
      falls q = others-each (IsBelow (label_of ranks2) (label_of ranks2 q)) tt q by
        where
          by : same_name name q ≡ false → (c : List ℕ) → list_any (refers_to c) (items_of t q) ≡ true → same_name name c ≡ false → label_of ranks2 c < label_of ranks2 q
          by apart c r other =
              let e : label_of ranks2 c ≡ label_of ranks c = ap label_in (rank-other c other) in
              let f : label_of ranks2 q ≡ label_of ranks q = ap label_in (rank-other q apart) in
              let lt : label_of ranks c < label_of ranks q = from-ref (IsBelow (label_of ranks) (label_of ranks q)) (items_of t q) c (sound.falls q) r in
              omega arith

      some-of : (o : Option Rank) → is_some o ≡ true → (r : Rank) × (o ≡ Some r)
      some-of None h = absurd (cc)
      some-of (Some r) h = (r, refl)

      label-some : (q : List ℕ) → rank_of ranks2 q ≡ rank → is_some (rank_of ranks2 q) ≡ true → (stamp ≤ label_of ranks2 q) × (label_of ranks2 q < label)
      label-some q e h =
          let s = some-of rank (ap is_some (sym e) ∙ h) in
          let f = fresh s.0 s.1 in
          let l : label_of ranks2 q ≡ s.0.label = ap label_in (e ∙ s.1) in
          (omega (arith, f.0), omega (arith, f.1))

      early : (q : List ℕ) → is_some (rank_of ranks2 q) ≡ true → label_of ranks2 q < label
      early q h = by (at q)
        where
          by : At q → label_of ranks2 q < label
          by (inl a) = (label-some q a.2 h).1
          by (inr a) = let e : label_of ranks2 q ≡ label_of ranks q = ap label_in a.2 in let old = sound.early q (ap is_some (sym a.2) ∙ h) in omega arith

      unlike : (p q : List ℕ) → is_some (rank_of ranks2 p) ≡ true → is_some (rank_of ranks2 q) ≡ true → label_of ranks2 p ≡ label_of ranks2 q → p ≡ q
      unlike p q h i same = by (at p) (at q)
        where
          by : At p → At q → p ≡ q
          by (inl a) (inl b) = sym a.0 ∙ b.0
          by (inl a) (inr b) =
              let f = label-some p a.2 h in let e : label_of ranks2 q ≡ label_of ranks q = ap label_in b.2 in
              let old = sound.early q (ap is_some (sym b.2) ∙ i) in absurd (omega (arith, f.0))
          by (inr a) (inl b) =
              let f = label-some q b.2 i in let e : label_of ranks2 p ≡ label_of ranks p = ap label_in a.2 in
              let old = sound.early p (ap is_some (sym a.2) ∙ h) in absurd (omega (arith, f.0))
          by (inr a) (inr b) = sound.unlike p q (ap is_some (sym a.2) ∙ h) (ap is_some (sym b.2) ∙ i) (sym (ap label_in a.2) ∙ same ∙ ap label_in b.2)

      sums : (k : Part) (q : List ℕ) → amount_of k ranks2 q ≡ total (weigh k after (amount_of k ranks2) q) (items_of after q)
      sums k q = by (at q)
        where
          by : At q → amount_of k ranks2 q ≡ total (weigh k after (amount_of k ranks2) q) (items_of after q)
          by (inl a) = ap (amount_in k) a.2 ∙ zero-amount k ∙ ap (λ xs. total (weigh k after (amount_of k ranks2) q) xs) (sym (both-empty q a.1))
          by (inr a) =
              ap (amount_in k) a.2 ∙ sound.sums k q
              ∙ weigh-apart k t q name (amount_of k ranks) (amount_of k ranks2) (λ c other. ap (amount_in k) (sym (rank-other c other))) (items_of t q)
              (each-ref (Apart name) tt (items_of t q) (λ c r. others q a.0 c r))
              ∙ ap (λ o. total (λ i. amount k (own_totals (group_at o) i) + weight_of (amount_of k ranks2) (named i)) (items_in o)) (sym a.1)

      small : (q : List ℕ) → (amount_of members ranks2 q ≤ 65536) × (amount_of services ranks2 q ≤ 65536)
      small q = by (at q)
        where
          by : At q → (amount_of members ranks2 q ≤ 65536) × (amount_of services ranks2 q ≤ 65536)
          by (inl a) =
              let m : amount_of members ranks2 q ≡ 0 = ap (amount_in members) a.2 ∙ zero-amount members in
              let s : amount_of services ranks2 q ≡ 0 = ap (amount_in services) a.2 ∙ zero-amount services in (omega arith, omega arith)
          by (inr a) = let old = sound.small q in
              (subst (λ (o : Option Rank). amount_in members o ≤ 65536) (sym a.2) old.0, subst (λ (o : Option Rank). amount_in services o ≤ 65536) (sym a.2) old.1)

-- a name that isn't there has no users
pub no-users : (t : Table) (ranks : Ranks) (uses : Uses) (stamp : ℕ) (name : List ℕ) → IsSound t ranks uses stamp → entry_of t name ≡ None
    → (q : List ℕ) → list_any (refers_to name) (items_of t q) ≡ false
no-users t ranks uses stamp name sound absent q = by (list_any (refers_to name) (items_of t q)) refl
  where
    by : (b : Bool) → list_any (refers_to name) (items_of t q) ≡ b → list_any (refers_to name) (items_of t q) ≡ false
    by false e = e
    by true e = absurd (false≢true (sym (ap is_some absent) ∙ from-ref (IsThere t) (items_of t q) name (sound.there q) e))

-- a new name without members
pub open-sound : (t after : Table) (ranks ranks2 : Ranks) (uses : Uses) (stamp : ℕ) (name : List ℕ) (made : Entry) → IsSound t ranks uses stamp → entry_of t name ≡ None → made.items ≡ []
    → ((q : List ℕ) → entry_of after q ≡ cond (same_name name q) (Some made) (entry_of t q))
    → ((q : List ℕ) → rank_of ranks2 q ≡ cond (same_name name q) (Some (record { label = stamp; totals = no_totals })) (rank_of ranks q))
    → IsSound after ranks2 uses (stamp + 1)
open-sound t after ranks ranks2 uses stamp name made sound absent empty entry ranked =
    other-sound t after ranks ranks2 uses stamp name (Some made) (Some (record { label = stamp; totals = no_totals })) sound entry ranked empty nothing refl
    (λ q _. no-users t ranks uses stamp name sound absent q) (stamp + 1) (omega arith) fresh uses used
  where
    nothing : (k : Part) → amount k no_totals ≡ 0
    nothing members = refl
    nothing prefixes = refl
    nothing addresses = refl
    nothing subnets = refl
    nothing services = refl

    label-is : Option Rank → ℕ
    label-is None = stamp
    label-is (Some r) = r.label

    fresh : (r : Rank) → Some (record { label = stamp; totals = no_totals }) ≡ Some r → (stamp ≤ r.label) × (r.label < stamp + 1)
    fresh r e = let l : stamp ≡ r.label = ap label-is e in (omega arith, omega arith)

    used : (c u : List ℕ) → has_name (users_of uses c) u ≡ list_any (refers_to c) (items_of after u)
    used c u = sound.used c u ∙ by (same_name name u) refl (entry u)
      where
        by : (b : Bool) → same_name name u ≡ b → entry_of after u ≡ cond b (Some made) (entry_of t u) → list_any (refers_to c) (items_of t u) ≡ list_any (refers_to c) (items_of after u)
        by true e p = ap (λ n. list_any (refers_to c) (items_of t n)) (sym (same-is name u e)) ∙ ap (λ o. list_any (refers_to c) (items_in o)) absent
            ∙ sym (ap (λ o. list_any (refers_to c) (items_in o)) p ∙ ap (list_any (refers_to c)) empty)
        by false e p = ap (λ o. list_any (refers_to c) (items_in o)) (sym p)

-- a name that goes
pub close-sound : (t after : Table) (ranks ranks2 : Ranks) (uses mid uses2 : Uses) (stamp : ℕ) (name : List ℕ) (former : Entry) → IsSound t ranks uses stamp → entry_of t name ≡ Some former
    → ((q : List ℕ) → list_any (refers_to name) (items_of t q) ≡ false)
    → ((q : List ℕ) → entry_of after q ≡ cond (same_name name q) None (entry_of t q))
    → ((q : List ℕ) → rank_of ranks2 q ≡ cond (same_name name q) None (rank_of ranks q))
    → AreUnused uses mid name (refs_in former.items)
    → ((c u : List ℕ) → has_name (users_of uses2 c) u ≡ cond (same_name name c) false (has_name (users_of mid c) u))
    → IsSound after ranks2 uses2 stamp
close-sound t after ranks ranks2 uses mid uses2 stamp name former sound is unused entry ranked dropped gone =
    other-sound t after ranks ranks2 uses stamp name None None sound entry ranked refl (λ k. refl) refl (λ q _. unused q) stamp (omega arith) (λ r e. absurd (cc)) uses2 used
  where
    and-not : (b : Bool) → (b && not b) ≡ false
    and-not true = refl
    and-not false = refl

    and-true : (b : Bool) → (b && true) ≡ b
    and-true true = refl
    and-true false = refl

    used : (c u : List ℕ) → has_name (users_of uses2 c) u ≡ list_any (refers_to c) (items_of after u)
    used c u = gone c u ∙ by (same_name name c) (same_name name u) refl refl (entry u)
      where
        by : (a b : Bool) → same_name name c ≡ a → same_name name u ≡ b → entry_of after u ≡ cond b None (entry_of t u)
            → cond a false (has_name (users_of mid c) u) ≡ list_any (refers_to c) (items_of after u)
        by true true e f p = sym (ap (λ o. list_any (refers_to c) (items_in o)) p)
        by true false e f p = sym (ap (λ o. list_any (refers_to c) (items_in o)) p ∙ ap (λ n. list_any (refers_to n) (items_of t u)) (sym (same-is name c e)) ∙ unused u)
        by false true e f p =
            let old : has_name (users_of uses c) u ≡ has_name (refs_in former.items) c = ap (has_name (users_of uses c)) (sym (same-is name u f)) ∙ refers-former t ranks uses stamp name former sound is c in
            dropped c u
            ∙ ap (λ (x : Bool). has_name (users_of uses c) u && not (x && has_name (refs_in former.items) c)) f
            ∙ ap (λ (x : Bool). x && not (has_name (refs_in former.items) c)) old ∙ and-not (has_name (refs_in former.items) c)
            ∙ sym (ap (λ o. list_any (refers_to c) (items_in o)) p)
        by false false e f p =
            dropped c u ∙ ap (λ (x : Bool). has_name (users_of uses c) u && not (x && has_name (refs_in former.items) c)) f
            ∙ and-true (has_name (users_of uses c) u) ∙ sound.used c u ∙ ap (λ o. list_any (refers_to c) (items_in o)) (sym p)

-- no name refers to one that has no user
pub unused-by : (t : Table) (name : List ℕ) → user_of t name ≡ None → (q : List ℕ) → list_any (refers_to name) (items_of t q) ≡ false
unused-by t name none q = in-table t none
  where
    in-table : (es : Table) → option_map (λ (e : List ℕ × Entry). e.0) (find (λ e. list_any (refers_to name) e.1.items) es) ≡ None → list_any (refers_to name) (items_in (lookup (is_at (slice_cmp nat_cmp q)) es)) ≡ false
    in-table [] h = refl
    in-table (e ∷ es) h = by (list_any (refers_to name) e.1.items) refl h (λ more. in-table es more)
      where
        by : (b : Bool) → list_any (refers_to name) e.1.items ≡ b → option_map (λ (x : List ℕ × Entry). x.0) (cond b (Some e) (find (λ x. list_any (refers_to name) x.1.items) es)) ≡ None
            → (option_map (λ (x : List ℕ × Entry). x.0) (find (λ x. list_any (refers_to name) x.1.items) es) ≡ None → list_any (refers_to name) (items_in (lookup (is_at (slice_cmp nat_cmp q)) es)) ≡ false)
            → list_any (refers_to name) (items_in (cond (same_name q e.0) (Some e.1) (lookup (is_at (slice_cmp nat_cmp q)) es))) ≡ false
        by true i h more = absurd (cc)
        by false i h more = here (same_name q e.0)
          where
            here : (c : Bool) → list_any (refers_to name) (items_in (cond c (Some e.1) (lookup (is_at (slice_cmp nat_cmp q)) es))) ≡ false
            here true = i
            here false = more h

-- no name refers to one that was added without members
pub unused-begun : (t after : Table) (ranks : Ranks) (uses : Uses) (stamp : ℕ) (name : List ℕ) (made : Entry) → IsSound t ranks uses stamp → entry_of t name ≡ None → made.items ≡ []
    → ((q : List ℕ) → entry_of after q ≡ cond (same_name name q) (Some made) (entry_of t q)) → (q : List ℕ) → list_any (refers_to name) (items_of after q) ≡ false
unused-begun t after ranks uses stamp name made sound absent empty entry q = by (same_name name q) (entry q)
  where
    by : (b : Bool) → entry_of after q ≡ cond b (Some made) (entry_of t q) → list_any (refers_to name) (items_of after q) ≡ false
    by true e = ap (λ o. list_any (refers_to name) (items_in o)) e ∙ ap (list_any (refers_to name)) empty
    by false e = ap (λ o. list_any (refers_to name) (items_in o)) e ∙ no-users t ranks uses stamp name sound absent q

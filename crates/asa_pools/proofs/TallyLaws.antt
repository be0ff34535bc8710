-- What rows keep where a key comes, goes or is counted once more.
use Rattle.std.proofs.Common.{◌≡◌, ◌≢◌, ℕ, zero, suc, ◌+◌, ◌-◌, ◌%◌, ◌<◌, ◌≤◌, ⊎_elim, Bool, eqb, nat_lt, true, false, cond, List, [], ◌∷◌, ◌++◌, length, get_or, set, length-set, length-append, get_or-set_same, get_or-set_other, Option, Some, None, refl, sym, ap, ◌∙◌, subst, arith}
use Rattle.std.specs.List.{sum_by, swap_remove}
use Rattle.std.proofs.lemmas.Bool.{cases_Bool, cases_eq, cases_lt, eq-eqb, false≢true, lt-ltb, ltb-true, ne_eqb}
use Rattle.std.proofs.lemmas.List.{get_or_append_left}
use Rattle.std.proofs.lemmas.List.Sums.{sum_by-cons, sum_by-set, sum_by-swap_remove, sum_by_push}
use Rattle.std.proofs.Math.Seq.{get_or-append_seam}
use Rattle.asa_rings.specs.Rings.{Rings, In, Present, IsJoined, IsParted, IsNextOlder, bucket, stamp}
use Rattle.asa_pools.specs.declared.key.Key.{Key}
use Rattle.asa_pools.specs.declared.key.Wanted.{Wanted}
use Rattle.asa_pools.specs.declared.key.Wanted.TheVariants as wanted
use Rattle.asa_pools.specs.declared.tally.Row.{Row}
use Rattle.asa_pools.specs.Keys.{key_hash, passes, same_key, wanted_hash}
use Rattle.asa_pools.specs.declared.tally.Tally.TheInside.{Inside}
use Rattle.asa_pools.specs.Tally.{AreRows, IsAbove, IsFound, IsMoved, IsTally, Mirrors, Tallied, no_row, once, row_at, tallied_of, times, total, weight}
use Rattle.asa_pools.proofs.KeyLaws.{same_key_is, same_key_self, wanted_is}

module _ {r : Rings} {rows : List Row} (k : Mirrors r rows) where
  pub row_in : (p : ℕ) → p < length rows → In r (key_hash (row_at rows p).key % r.buckets) p
  row_in p h = record { place = omega (arith, h, k.long); joined = omega (arith, k.stamps p h); home = k.homes p h }

-- each step down leaves fewer stamps
pub smaller_is : (r : Rings) (at y : ℕ) → at < r.places → 0 < stamp r at → (y < r.places → stamp r y < stamp r at)
    → cond (nat_lt y r.places) (stamp r y) 0 < cond (nat_lt at r.places) (stamp r at) 0
smaller_is r at y lt live falls = by (nat_lt y r.places) refl
  where
    here : cond (nat_lt at r.places) (stamp r at) 0 ≡ stamp r at
    here = ap (λ b. cond b (stamp r at) 0) (lt-ltb at r.places lt)

    by : (b : Bool) → nat_lt y r.places ≡ b → cond (nat_lt y r.places) (stamp r y) 0 < cond (nat_lt at r.places) (stamp r at) 0
    by true e = omega (arith, here, falls (ltb-true y r.places e), ap (λ b. cond b (stamp r y) 0) e)
    by false e = omega (arith, here, live, ap (λ b. cond b (stamp r y) 0) e)

-- all weights of rows that no test passes are none
pub times_none : (t : Key → Bool) (rows : List Row) → ((q : ℕ) → q < length rows → t (row_at rows q).key ≡ false) → times t rows ≡ 0
times_none t [] none = refl
times_none t (x ∷ xs) none =
    sum_by-cons (weight t) x xs ∙ omega (arith, times_none t xs (λ q h. none (suc q) (omega (arith, h))), ap (λ b. cond b x.count 0) (none 0 (omega arith)))

-- one row alone passes a test
pub times_one : (t : Key → Bool) (rows : List Row) (p : ℕ) → p < length rows → t (row_at rows p).key ≡ true
    → ((q : ℕ) → q < length rows → q ≢ p → t (row_at rows q).key ≡ false) → times t rows ≡ (row_at rows p).count
times_one t [] p within here other = absurd (omega (arith, within))
times_one t (x ∷ xs) zero within here other =
    sum_by-cons (weight t) x xs
    ∙ omega (arith, times_none t xs (λ q h. other (suc q) (omega (arith, h)) (λ e. omega (arith, e))), ap (λ b. cond b x.count 0) here)
times_one t (x ∷ xs) (suc p) within here other =
    sum_by-cons (weight t) x xs
    ∙ omega (arith, times_one t xs p (omega (arith, within)) here (λ q h ne. other (suc q) (omega (arith, h)) (λ e. ne (omega (arith, e)))), ap (λ b. cond b x.count 0) (other 0 (omega arith) (λ e. omega (arith, e))))

-- a row that isn't wanted by its own key is another
module _ {rows : List Row} (k : AreRows rows) where
  pub apart : (p q : ℕ) → p < length rows → q < length rows → (row_at rows p).key ≡ (row_at rows q).key → p ≡ q
  apart p q hp hq same = ⊎_elim
      (λ (lt : p < q). absurd (k.distinct p q lt hq same))
      (λ (ge : q ≤ p). ⊎_elim
      (λ (e : p ≡ q). e)
      (λ (ne : p ≢ q). absurd (k.distinct q p (omega (arith, ge, ne)) hp (sym same)))
      (cases_eq p q))
      (cases_lt p q)

  pub times_found : (j : Key) (p : ℕ) → IsFound (wanted.Key j) rows (Some p) → times (same_key j) rows ≡ (row_at rows p).count
  times_found j p f = times_one (same_key j) rows p f.0 f.1
      (λ q h ne. ⊎_elim
      (λ (pass : same_key j (row_at rows q).key ≡ true). absurd (ne (apart q p h f.0 (sym (same_key_is j (row_at rows q).key pass) ∙ same_key_is j (row_at rows p).key f.1))))
      (λ (miss : same_key j (row_at rows q).key ≡ false). miss)
      (cases_Bool (same_key j (row_at rows q).key)))

  -- there are no more rows than are counted
  pub few_rows : length rows ≤ total rows
  few_rows = by rows k.counts
    where
      by : (xs : List Row) → ((p : ℕ) → p < length xs → 0 < (row_at xs p).count) → length xs ≤ total xs
      by [] pos = omega arith
      by (x ∷ xs) pos = omega (arith, by xs (λ p h. pos (suc p) (omega (arith, h))), pos 0 (omega arith), sum_by-cons (weight (λ _. true)) x xs)

-- a key that has no row gets one
module _ {r : Rings} {rows : List Row} (k : Mirrors r rows) (j : Key) (t : Rings) (room : length rows < r.places) (joined : IsJoined (length rows) (length rows + 1) (key_hash j % r.buckets) r t) where
  pub mirrors_pushed : (x : Row) → x.key ≡ j → Mirrors t (rows ++ x ∷ [])
  mirrors_pushed x is = record {
    long = omega (arith, room, joined.sizes.places, length-append rows (x ∷ []));
    buckets = omega (arith, k.buckets, joined.sizes.buckets);
    stamps = λ p h. ⊎_elim
        (λ (e : p ≡ length rows). ap (stamp t) e ∙ joined.stamp_here ∙ omega (arith, e))
        (λ (ne : p ≢ length rows). joined.others.stamps p ne ∙ k.stamps p (below p h ne))
        (cases_eq p (length rows));
    homes = λ p h. ⊎_elim
        (λ (e : p ≡ length rows). ap (bucket t) e ∙ joined.bucket_here ∙ ap (λ n. key_hash j % n) (sym joined.sizes.buckets)
        ∙ ap (λ i. key_hash i % t.buckets) (sym is ∙ ap (λ (y : Row). y.key) (sym (ap (row_at (rows ++ x ∷ [])) e ∙ get_or-append_seam rows x [] no_row))))
        (λ (ne : p ≢ length rows). joined.others.buckets p ne ∙ k.homes p (below p h ne) ∙ ap (λ n. key_hash (row_at rows p).key % n) (sym joined.sizes.buckets)
        ∙ ap (λ (y : Row). key_hash y.key % t.buckets) (sym (get_or_append_left rows (x ∷ []) no_row p (below p h ne))))
        (cases_eq p (length rows));
    free = λ p within ge.
        joined.others.stamps p (λ e. omega (arith, e, ge, length-append rows (x ∷ [])))
        ∙ k.free p (omega (arith, within, joined.sizes.places)) (omega (arith, ge, length-append rows (x ∷ [])));
  }
    where
      below : (p : ℕ) → p < length (rows ++ x ∷ []) → p ≢ length rows → p < length rows
      below p h ne = omega (arith, h, ne, length-append rows (x ∷ []))

pub rows_pushed : (rows : List Row) (j : Key) → AreRows rows → ((q : ℕ) → q < length rows → same_key j (row_at rows q).key ≡ false) → same_key j j ≡ true
    → AreRows (rows ++ record { key = j; count = 1 } ∷ [])
rows_pushed rows j k new self = record {
  counts = λ p h. ⊎_elim
      (λ (e : p ≡ length rows). subst (λ (y : Row). 0 < y.count) (sym (last p e)) (omega arith))
      (λ (ne : p ≢ length rows). subst (λ (y : Row). 0 < y.count) (sym (old p h ne)) (k.counts p (below p h ne)))
      (cases_eq p (length rows));
  distinct = λ p q lt h same. ⊎_elim
      (λ (e : q ≡ length rows). false≢true (sym (new p (omega (arith, lt, e)))
      ∙ ap (λ (y : Row). same_key j y.key) (sym (old p (omega (arith, lt, h)) (λ f. omega (arith, lt, e, f))))
      ∙ ap (same_key j) (same ∙ ap (λ (y : Row). y.key) (last q e)) ∙ self))
      (λ (ne : q ≢ length rows). k.distinct p q lt (below q h ne)
      (ap (λ (y : Row). y.key) (sym (old p (omega (arith, lt, h)) (λ f. omega (arith, lt, below q h ne, f)))) ∙ same ∙ ap (λ (y : Row). y.key) (old q h ne)))
      (cases_eq q (length rows));
}
  where
    added : List Row
    added = rows ++ record { key = j; count = 1 } ∷ []

    below : (p : ℕ) → p < length added → p ≢ length rows → p < length rows
    below p h ne = omega (arith, h, ne, length-append rows (record { key = j; count = 1 } ∷ []))

    last : (p : ℕ) → p ≡ length rows → row_at added p ≡ record { key = j; count = 1 }
    last p e = ap (row_at added) e ∙ get_or-append_seam rows (record { key = j; count = 1 }) [] no_row

    old : (p : ℕ) → p < length added → p ≢ length rows → row_at added p ≡ row_at rows p
    old p h ne = get_or_append_left rows (record { key = j; count = 1 } ∷ []) no_row p (below p h ne)

-- the places that two partings leave have no stamp like that of the first
module _ (place last : ℕ) {r s t : Rings} (order : place < last)
    (stamps : (q : ℕ) → q ≤ last → stamp r q ≡ q + 1) (free : (q : ℕ) → last < q → q < r.places → stamp r q ≡ 0)
    (one : IsParted place r s) (two : IsParted last s t) where
  pub parted_place : stamp t place ≡ 0
  parted_place = two.others.stamps place (λ e. omega (arith, e, order)) ∙ one.stamp_here

  pub strictly_below : (mark q : ℕ) → mark ≡ place + 1 → q < t.places → 0 < stamp t q → stamp t q ≤ mark → stamp t q < mark
  strictly_below mark q is within live low = ⊎_elim
      (λ (e : q ≡ place). absurd (omega (arith, live, ap (stamp t) e, parted_place)))
      (λ (np : q ≢ place). ⊎_elim
      (λ (e : q ≡ last). absurd (omega (arith, live, ap (stamp t) e, two.stamp_here)))
      (λ (nl : q ≢ last). ⊎_elim
      (λ (gt : last < q). absurd (omega (arith, live, kept np nl, free q gt (omega (arith, within, one.sizes.places, two.sizes.places)))))
      (λ (le : q ≤ last). omega (arith, low, is, kept np nl, stamps q le, np))
      (cases_lt last q))
      (cases_eq q last))
      (cases_eq q place)
    where
      kept : q ≢ place → q ≢ last → stamp t q ≡ stamp r q
      kept np nl = two.others.stamps q nl ∙ one.others.stamps q np

  pub moved_is : (mark hash above : ℕ) (u : Rings) → mark ≡ place + 1 → IsAbove t (hash % t.buckets) mark above
      → IsJoined place mark (bucket t above) t u → IsMoved place last hash r u
  moved_is mark hash above u is a j = record {
    places = j.sizes.places ∙ two.sizes.places ∙ one.sizes.places;
    buckets = j.sizes.buckets ∙ two.sizes.buckets ∙ one.sizes.buckets;
    stamps = λ q np nl. j.others.stamps q np ∙ two.others.stamps q nl ∙ one.others.stamps q np;
    homes = λ q np nl. j.others.buckets q np ∙ two.others.buckets q nl ∙ one.others.buckets q np;
    gone = j.others.stamps last (λ e. omega (arith, e, order)) ∙ two.stamp_here;
    stamp_here = λ _. j.stamp_here ∙ is;
    home_here = λ _. j.bucket_here ∙ a.home ∙ ap (λ n. hash % n) (two.sizes.buckets ∙ one.sizes.buckets);
  }

pub last_moved : (place last hash : ℕ) {r s : Rings} → place ≡ last → IsParted place r s → IsMoved place last hash r s
last_moved place last hash {r} {s} e one = record {
  places = one.sizes.places;
  buckets = one.sizes.buckets;
  stamps = λ q np nl. one.others.stamps q np;
  homes = λ q np nl. one.others.buckets q np;
  gone = ap (stamp s) (sym e) ∙ one.stamp_here;
  stamp_here = λ lt. absurd (omega (arith, lt, e));
  home_here = λ lt. absurd (omega (arith, lt, e));
}

-- a row goes, and the last one takes its place
module _ (place last : ℕ) {rows less : List Row} (long : length less + 1 ≡ length rows) (end : last + 1 ≡ length rows) (within : place < length rows)
    (here : place < last → row_at less place ≡ row_at rows last) (others : (q : ℕ) → q ≢ place → q < last → row_at less q ≡ row_at rows q) where
  pub mirrors_moved : {r t : Rings} → Mirrors r rows → IsMoved place last (key_hash (row_at rows last).key) r t → Mirrors t less
  mirrors_moved {r} {t} k m = record {
    long = omega (arith, k.long, long, m.places);
    buckets = omega (arith, k.buckets, m.buckets);
    stamps = λ q h. ⊎_elim
        (λ (e : q ≡ place). ap (stamp t) e ∙ m.stamp_here (omega (arith, h, e, long, end)) ∙ omega (arith, e))
        (λ (ne : q ≢ place). m.stamps q ne (λ e. omega (arith, e, h, long, end)) ∙ k.stamps q (omega (arith, h, long)))
        (cases_eq q place);
    homes = λ q h. ⊎_elim
        (λ (e : q ≡ place). ap (bucket t) e ∙ m.home_here (omega (arith, h, e, long, end))
        ∙ ap (λ n. key_hash (row_at rows last).key % n) (sym m.buckets)
        ∙ ap (λ (y : Row). key_hash y.key % t.buckets) (sym (ap (row_at less) e ∙ here (omega (arith, h, e, long, end)))))
        (λ (ne : q ≢ place). m.homes q ne (λ e. omega (arith, e, h, long, end)) ∙ k.homes q (omega (arith, h, long))
        ∙ ap (λ n. key_hash (row_at rows q).key % n) (sym m.buckets)
        ∙ ap (λ (y : Row). key_hash y.key % t.buckets) (sym (others q ne (omega (arith, h, long, end)))))
        (cases_eq q place);
    free = λ q inside ge. ⊎_elim
        (λ (e : q ≡ last). ap (stamp t) e ∙ m.gone)
        (λ (ne : q ≢ last). m.stamps q (λ e. omega (arith, e, ne, within, ge, long, end)) ne
        ∙ k.free q (omega (arith, inside, m.places)) (omega (arith, ge, ne, long, end)))
        (cases_eq q last);
  }

  pub rows_moved : AreRows rows → AreRows less
  rows_moved k = record {
    counts = λ q h. subst (λ (y : Row). 0 < y.count) (sym (from_is q h)) (k.counts (from q) (from_within q h));
    distinct = λ p q lt h same. from_apart p q (omega (arith, lt, h)) h lt
        (apart k (from p) (from q) (from_within p (omega (arith, lt, h))) (from_within q h)
        (ap (λ (y : Row). y.key) (sym (from_is p (omega (arith, lt, h)))) ∙ same ∙ ap (λ (y : Row). y.key) (from_is q h)));
  }
    where
      from : ℕ → ℕ
      from q = cond (eqb q place) last q

      from_here : (q : ℕ) → q ≡ place → from q ≡ last
      from_here q e = ap (λ b. cond b last q) (eq-eqb q place e)

      from_other : (q : ℕ) → q ≢ place → from q ≡ q
      from_other q ne = ap (λ b. cond b last q) (ne_eqb q place ne)

      from_within : (q : ℕ) → q < length less → from q < length rows
      from_within q h = ⊎_elim
          (λ (e : q ≡ place). omega (arith, from_here q e, end))
          (λ (ne : q ≢ place). omega (arith, from_other q ne, h, long))
          (cases_eq q place)

      from_is : (q : ℕ) → q < length less → row_at less q ≡ row_at rows (from q)
      from_is q h = ⊎_elim
          (λ (e : q ≡ place). ap (row_at less) e ∙ here (omega (arith, h, e, long, end)) ∙ ap (row_at rows) (sym (from_here q e)))
          (λ (ne : q ≢ place). others q ne (omega (arith, h, long, end)) ∙ ap (row_at rows) (sym (from_other q ne)))
          (cases_eq q place)

      from_apart : (p q : ℕ) → p < length less → q < length less → p < q → from p ≡ from q → ⊥
      from_apart p q hp hq lt e = ⊎_elim
          (λ (ep : p ≡ place). ⊎_elim
          (λ (eq : q ≡ place). omega (arith, ep, eq, lt))
          (λ (nq : q ≢ place). omega (arith, e, from_here p ep, from_other q nq, hq, long, end))
          (cases_eq q place))
          (λ (np : p ≢ place). ⊎_elim
          (λ (eq : q ≡ place). omega (arith, e, from_other p np, from_here q eq, hp, long, end))
          (λ (nq : q ≢ place). omega (arith, e, from_other p np, from_other q nq, lt))
          (cases_eq q place))
          (cases_eq p place)

-- what is seen of a tally
module _ (s : Inside) (v : Tallied) (is : tallied_of s ≡ v) (k : IsTally s) where
  seen : s.rows.items ≡ v.rows
  seen = ap (λ (t : Tallied). t.rows) is

  pub room_left : total v.rows < v.room → length s.rows.items < s.ring.places
  room_left few = omega (arith, few, few_rows k.rows, ap (λ (t : Tallied). total t.rows) is, ap (λ (t : Tallied). t.room) is)

  pub new_inside : (j : Key) → ((q : ℕ) → q < length v.rows → same_key j (row_at v.rows q).key ≡ false)
      → (q : ℕ) → q < length s.rows.items → same_key j (row_at s.rows.items q).key ≡ false
  new_inside j new = subst (λ xs. (q : ℕ) → q < length xs → same_key j (row_at xs q).key ≡ false) (sym seen) new

  pub times_some : (j : Key) (p : ℕ) (o : Option ℕ) → IsFound (wanted.Key j) v.rows o → o ≡ Some p → (row_at s.rows.items p).count ≡ times (same_key j) v.rows
  times_some j p o found some =
      sym (times_found k.rows j p (subst (λ xs. IsFound (wanted.Key j) xs (Some p)) (sym seen) (subst (IsFound (wanted.Key j) v.rows) some found)))
      ∙ ap (λ (t : Tallied). times (same_key j) t.rows) is

pub times_zero : (j : Key) (rows : List Row) (o : Option ℕ) → IsFound (wanted.Key j) rows o → o ≡ None → times (same_key j) rows ≡ 0
times_zero j rows o found none = times_none (same_key j) rows (subst (IsFound (wanted.Key j) rows) none found)

pub joined_last : {r t : Rings} (n c place mark b : ℕ) → place ≡ n → mark ≡ n + 1 → b ≡ c → IsJoined place mark b r t → IsJoined n (n + 1) c r t
joined_last {r} {t} n c place mark b ep em eb j =
    subst (λ x. IsJoined x (n + 1) c r t) ep (subst (λ x. IsJoined place x c r t) em (subst (λ x. IsJoined place mark x r t) eb j))

ones : {A : Type 0} (xs : List A) → sum_by (λ _. 1) xs ≡ length xs
ones [] = refl
ones (x ∷ xs) = sum_by-cons (λ _. 1) x xs ∙ omega (arith, ones xs)

pub length_gone : (rows : List Row) (p : ℕ) (d : Row) → p < length rows → length (swap_remove rows p d) + 1 ≡ length rows
length_gone rows p d h = omega (arith, sum_by-swap_remove (λ _. 1) rows p d h, ones rows, ones (swap_remove rows p d))

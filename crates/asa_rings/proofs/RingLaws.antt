-- What joining and parting leave of rings, over the functions of their four lists.
use Rattle.std.proofs.Common.{◌≡◌, ◌≢◌, ℕ, ◌+◌, ◌<◌, ◌≤◌, List, length, get_or, set, refl, sym, ap, ◌∙◌, arith, ⊎_elim, get_or-set_same, get_or-set_other, slice_index, subst, length-set}
use Rattle.std.proofs.lemmas.Bool.{cases_lt, cases_eq}
use Rattle.std.proofs.lemmas.List.{get_or_read}
use Rattle.asa_rings.specs.Rings.{Rings, stamp, bucket, IsPresent, IsIn, Present, In, IsLinked, AreLinked, IsRing, IsNextOlder, IsNextNewer}

-- the three parts of what is known of a place: the one below it, the one above it, and its bucket
record IsDown (n m : ℕ) (s b o w : ℕ → ℕ) (x : ℕ) : Type 0 where
  older_there : IsPresent n m s (o x)
  older_bucket : b (o x) ≡ b x
  back : w (o x) ≡ x
  falls : o x < n → x < n → s (o x) < s x
  next_there : (q : ℕ) → IsIn n s b (b x) q → (x < n → s q < s x) → o x < n
  next_most : (q : ℕ) → IsIn n s b (b x) q → (x < n → s q < s x) → q ≢ o x → s q < s (o x)

record IsUp (n m : ℕ) (s b o w : ℕ → ℕ) (x : ℕ) : Type 0 where
  newer_there : IsPresent n m s (w x)
  newer_bucket : b (w x) ≡ b x
  forth : o (w x) ≡ x

record IsEnded (n m : ℕ) (s b : ℕ → ℕ) (x : ℕ) : Type 0 where
  bounded : b x < m
  end_bucket : n ≤ x → x ≡ n + b x
  end_stamp : n ≤ x → s x ≡ 0

linked_of : {n m : ℕ} {s b o w : ℕ → ℕ} (x : ℕ) → IsDown n m s b o w x → IsUp n m s b o w x → IsEnded n m s b x → IsLinked n m s b o w x
linked_of x d u e = record {
  older_there = d.older_there;
  newer_there = u.newer_there;
  older_bucket = d.older_bucket;
  newer_bucket = u.newer_bucket;
  back = d.back;
  forth = u.forth;
  falls = d.falls;
  bounded = e.bounded;
  end_bucket = e.end_bucket;
  end_stamp = e.end_stamp;
  next_there = d.next_there;
  next_most = d.next_most;
}

-- a place leaves its ring: its two neighbours are linked
pub record Parts (n m p : ℕ) (s b o w s' b' o' w' : ℕ → ℕ) : Type 0 where
  pub links : AreLinked n m s b o w
  pub inside : p < n
  pub lives : 0 < s p
  pub stamp_here : s' p ≡ 0
  pub stamps : (x : ℕ) → x ≢ p → s' x ≡ s x
  pub buckets : (x : ℕ) → x ≢ p → b' x ≡ b x
  pub older_here : o' (w p) ≡ o p
  pub olders : (x : ℕ) → x ≢ p → x ≢ w p → o' x ≡ o x
  pub newer_here : w' (o p) ≡ w p
  pub newers : (x : ℕ) → x ≢ p → x ≢ o p → w' x ≡ w x

module _ {n m p : ℕ} {s b o w s' b' o' w' : ℕ → ℕ} (k : Parts n m p s b o w s' b' o' w') where
  -- what is known of the place that leaves
  parts_here : IsLinked n m s b o w p
  parts_here = k.links.at p (record { within = omega (arith, k.inside); live = λ _. k.lives })

  -- a place that is in a ring afterwards was in one before, and isn't the one that left
  parts_other : (x : ℕ) → IsPresent n m s' x → x ≢ p
  parts_other x t same = omega (arith, t.live, k.stamp_here, ap s' same, k.inside)

  parts_before : (x : ℕ) → IsPresent n m s' x → IsPresent n m s x
  parts_before x t = record { within = t.within; live = λ h. omega (arith, t.live h, k.stamps x (parts_other x t)) }

  parts_after : (x : ℕ) → x ≢ p → IsPresent n m s x → IsPresent n m s' x
  parts_after x ne t = record { within = t.within; live = λ h. omega (arith, t.live h, k.stamps x ne) }

  parts_in : (c q : ℕ) → IsIn n s' b' c q → (q ≢ p) × IsIn n s b c q
  parts_in c q i =
      let ne : q ≢ p = λ same. omega (arith, i.joined, k.stamp_here, ap s' same) in
      (ne, record { place = i.place; joined = omega (arith, i.joined, k.stamps q ne); home = sym (k.buckets q ne) ∙ i.home })

  -- the place below the one that left isn't it
  parts_older_ne : o p ≢ p
  parts_older_ne same = let h = parts_here.falls in omega (arith, h, k.inside, ap s same)

  parts_newer_ne : w p ≢ p
  parts_newer_ne same = parts_older_ne (ap o (sym same) ∙ parts_here.forth)

  parts_kept_link : (x : ℕ) → IsPresent n m s' x → x ≢ w p → IsDown n m s' b' o' w' x
  parts_kept_link x t ne =
      let nep = parts_other x t in
      let l = k.links.at x (parts_before x t) in
      let e : o' x ≡ o x = k.olders x nep ne in
      let onp : o x ≢ p = λ same. ne (sym l.back ∙ ap w same) in
      let ono : o x ≢ o p = λ same. nep (sym l.back ∙ ap w same ∙ parts_here.back) in
      record {
        older_there = rw e (parts_after (o x) onp l.older_there);
        older_bucket = ap b' e ∙ k.buckets (o x) onp ∙ l.older_bucket ∙ sym (k.buckets x nep);
        back = ap w' e ∙ k.newers (o x) onp ono ∙ l.back;
        falls = λ h i. let d : s (o x) < s x = l.falls (rw e at h) i in omega (arith, d, ap s' e, k.stamps (o x) onp, k.stamps x nep);
        next_there = λ q i h. let j = parts_in (b' x) q i in
            rw e (l.next_there q (rw (k.buckets x nep) at j.1) (λ hx. omega (arith, h hx, k.stamps q j.0, k.stamps x nep)));
        next_most = λ q i h nq. let j = parts_in (b' x) q i in
            let d : s q < s (o x) = l.next_most q (rw (k.buckets x nep) at j.1) (λ hx. omega (arith, h hx, k.stamps q j.0, k.stamps x nep)) (λ z. nq (z ∙ sym e)) in
            omega (arith, d, ap s' e, k.stamps q j.0, k.stamps (o x) onp);
      }

  parts_cut_link : (x : ℕ) → IsPresent n m s' x → x ≡ w p → IsDown n m s' b' o' w' x
  parts_cut_link x t same =
      let nep = parts_other x t in
      let l = k.links.at x (parts_before x t) in
      let e : o' x ≡ o p = ap o' same ∙ k.older_here in
      let ox : o x ≡ p = ap o same ∙ parts_here.forth in
      let bx : b x ≡ b p = ap b same ∙ parts_here.newer_bucket in
      let sop : s' (o p) ≡ s (o p) = k.stamps (o p) parts_older_ne in
      let below : (q : ℕ) → IsIn n s' b' (b' x) q → (x < n → s' q < s' x) → (q ≢ p) × (IsIn n s b (b p) q × (s q < s p)) = λ q i h.
      let j = parts_in (b' x) q i in
      let jx : IsIn n s b (b x) q = rw (k.buckets x nep) at j.1 in
      let d : s q < s (o x) = l.next_most q jx (λ hx. omega (arith, h hx, k.stamps q j.0, k.stamps x nep)) (λ z. j.0 (z ∙ ox)) in
      (j.0, (rw bx at jx, omega (arith, d, ap s ox))) in
      record {
        older_there = rw e (parts_after (o p) parts_older_ne parts_here.older_there);
        older_bucket = ap b' e ∙ k.buckets (o p) parts_older_ne ∙ parts_here.older_bucket ∙ sym bx ∙ sym (k.buckets x nep);
        back = ap w' e ∙ k.newer_here ∙ sym same;
        falls = λ h i.
            let d : s (o p) < s p = parts_here.falls (rw e at h) k.inside in
            let f : s (o x) < s x = l.falls (omega (arith, k.inside, ox)) i in
            omega (arith, d, f, ap s ox, ap s' e, sop, k.stamps x nep);
        next_there = λ q i h. let j = below q i h in rw e (parts_here.next_there q j.1.0 (λ _. j.1.1));
        next_most = λ q i h nq. let j = below q i h in
            let d : s q < s (o p) = parts_here.next_most q j.1.0 (λ _. j.1.1) (λ z. nq (z ∙ sym e)) in
            omega (arith, d, ap s' e, k.stamps q j.0, sop);
      }

  parts_same_up : (x : ℕ) → IsPresent n m s' x → x ≡ o p → IsUp n m s' b' o' w' x
  parts_same_up x t same =
      let nep = parts_other x t in
      let e : w' x ≡ w p = ap w' same ∙ k.newer_here in
      let bx : b x ≡ b p = ap b same ∙ parts_here.older_bucket in
      record {
        newer_there = rw e (parts_after (w p) parts_newer_ne parts_here.newer_there);
        newer_bucket = ap b' e ∙ k.buckets (w p) parts_newer_ne ∙ parts_here.newer_bucket ∙ sym bx ∙ sym (k.buckets x nep);
        forth = ap o' e ∙ k.older_here ∙ sym same;
      }

  parts_other_up : (x : ℕ) → IsPresent n m s' x → x ≢ o p → IsUp n m s' b' o' w' x
  parts_other_up x t ne =
      let nep = parts_other x t in
      let l = k.links.at x (parts_before x t) in
      let e : w' x ≡ w x = k.newers x nep ne in
      let wnp : w x ≢ p = λ same. ne (sym l.forth ∙ ap o same) in
      let wnw : w x ≢ w p = λ same. nep (sym l.forth ∙ ap o same ∙ parts_here.forth) in
      record {
        newer_there = rw e (parts_after (w x) wnp l.newer_there);
        newer_bucket = ap b' e ∙ k.buckets (w x) wnp ∙ l.newer_bucket ∙ sym (k.buckets x nep);
        forth = ap o' e ∙ k.olders (w x) wnp wnw ∙ l.forth;
      }

  parts_end : (x : ℕ) → IsPresent n m s' x → IsEnded n m s' b' x
  parts_end x t =
      let nep = parts_other x t in
      let l = k.links.at x (parts_before x t) in
      record {
        bounded = omega (arith, l.bounded, k.buckets x nep);
        end_bucket = λ h. omega (arith, l.end_bucket h, k.buckets x nep);
        end_stamp = λ h. k.stamps x nep ∙ l.end_stamp h;
      }

  pub parted : AreLinked n m s' b' o' w'
  parted = record {
    at = λ x t. linked_of x
        (⊎_elim (λ same. parts_cut_link x t same) (λ ne. parts_kept_link x t ne) (cases_eq x (w p)))
        (⊎_elim (λ same. parts_same_up x t same) (λ ne. parts_other_up x t ne) (cases_eq x (o p)))
        (parts_end x t);
  }

-- two places of one bucket with one stamp are the same
pub twins : {n m : ℕ} {s b o w : ℕ → ℕ} → AreLinked n m s b o w → (x q : ℕ) → x < n → 0 < s x → IsIn n s b (b x) q → s q ≡ s x → q ≢ x → ⊥
twins {n} {m} {s} {b} {o} {w} k x q lt live i same ne =
    let l = k.at x (record { within = omega arith; live = λ _. live }) in
    let u = k.at (w x) l.newer_there in
    let f : w x < n → s x < s (w x) = λ h. let d : s (o (w x)) < s (w x) = u.falls (omega (arith, l.forth)) h in omega (arith, d, ap s l.forth) in
    let j : IsIn n s b (b (w x)) q = record { place = i.place; joined = i.joined; home = i.home ∙ sym l.newer_bucket } in
    let d : s q < s (o (w x)) = u.next_most q j (λ h. omega (arith, f h)) (λ z. ne (z ∙ l.forth)) in
    omega (arith, d, ap s l.forth)

-- a place joins a ring just below `t`, with a stamp between those of `t` and of the place below it
pub record Joins (n m p t mark : ℕ) (s b o w s' b' o' w' : ℕ → ℕ) : Type 0 where
  pub links : AreLinked n m s b o w
  pub inside : p < n
  pub free : s p ≡ 0
  pub there : IsPresent n m s t
  pub positive : 0 < mark
  pub lower : t < n → mark < s t
  pub upper : (q : ℕ) → IsIn n s b (b t) q → (t < n → s q < s t) → s q < mark
  pub stamp_here : s' p ≡ mark
  pub bucket_here : b' p ≡ b t
  pub stamps : (x : ℕ) → x ≢ p → s' x ≡ s x
  pub buckets : (x : ℕ) → x ≢ p → b' x ≡ b x
  pub older_here : o' p ≡ o t
  pub older_above : o' t ≡ p
  pub olders : (x : ℕ) → x ≢ p → x ≢ t → o' x ≡ o x
  pub newer_here : w' p ≡ t
  pub newer_below : w' (o t) ≡ p
  pub newers : (x : ℕ) → x ≢ p → x ≢ o t → w' x ≡ w x

module _ {n m p t mark : ℕ} {s b o w s' b' o' w' : ℕ → ℕ} (k : Joins n m p t mark s b o w s' b' o' w') where
  joins_above : IsLinked n m s b o w t
  joins_above = k.links.at t k.there

  -- a place that was in a ring isn't the new one
  joins_ne : (x : ℕ) → IsPresent n m s x → x ≢ p
  joins_ne x h same = omega (arith, h.live, k.free, ap s same, k.inside)

  joins_after : (x : ℕ) → IsPresent n m s x → IsPresent n m s' x
  joins_after x h = record { within = h.within; live = λ i. omega (arith, h.live i, k.stamps x (joins_ne x h)) }

  joins_before : (x : ℕ) → x ≢ p → IsPresent n m s' x → IsPresent n m s x
  joins_before x ne h = record { within = h.within; live = λ i. omega (arith, h.live i, k.stamps x ne) }

  joins_new : IsPresent n m s' p
  joins_new = record { within = omega (arith, k.inside); live = λ _. omega (arith, k.stamp_here, k.positive) }

  joins_in : (c q : ℕ) → q ≢ p → IsIn n s' b' c q → IsIn n s b c q
  joins_in c q ne i = record { place = i.place; joined = omega (arith, i.joined, k.stamps q ne); home = sym (k.buckets q ne) ∙ i.home }

  joins_below_ne : o t ≢ p
  joins_below_ne = joins_ne (o t) joins_above.older_there

  joins_here_down : IsDown n m s' b' o' w' p
  joins_here_down =
      let e = k.older_here in
      let sot : s' (o t) ≡ s (o t) = k.stamps (o t) joins_below_ne in
      let under : (q : ℕ) → IsIn n s' b' (b' p) q → (p < n → s' q < s' p) → (q ≢ p) × (IsIn n s b (b t) q × (t < n → s q < s t)) = λ q i h.
      let ne : q ≢ p = λ same. omega (arith, h k.inside, ap s' same) in
      (ne, (rw k.bucket_here at (joins_in (b' p) q ne i), λ ht. omega (arith, h k.inside, k.stamp_here, k.stamps q ne, k.lower ht))) in
      record {
        older_there = rw e (joins_after (o t) joins_above.older_there);
        older_bucket = ap b' e ∙ k.buckets (o t) joins_below_ne ∙ joins_above.older_bucket ∙ sym k.bucket_here;
        back = ap w' e ∙ k.newer_below;
        falls = λ h _.
            let hot : o t < n = rw e at h in
            let i : IsIn n s b (b t) (o t) = record { place = hot; joined = joins_above.older_there.live hot; home = joins_above.older_bucket } in
            let d : s (o t) < mark = k.upper (o t) i (λ ht. joins_above.falls hot ht) in
            omega (arith, d, ap s' e, sot, k.stamp_here);
        next_there = λ q i h. let j = under q i h in rw e (joins_above.next_there q j.1.0 j.1.1);
        next_most = λ q i h nq. let j = under q i h in
            let d : s q < s (o t) = joins_above.next_most q j.1.0 j.1.1 (λ z. nq (z ∙ sym e)) in
            omega (arith, d, ap s' e, sot, k.stamps q j.0);
      }

  joins_above_down : (x : ℕ) → IsPresent n m s x → x ≡ t → IsDown n m s' b' o' w' x
  joins_above_down x h same =
      let ne = joins_ne x h in
      let e : o' x ≡ p = ap o' same ∙ k.older_above in
      let sx : s' x ≡ s t = k.stamps x ne ∙ ap s same in
      let bx : b' x ≡ b t = k.buckets x ne ∙ ap b same in
      record {
        older_there = rw e joins_new;
        older_bucket = ap b' e ∙ k.bucket_here ∙ sym bx;
        back = ap w' e ∙ k.newer_here ∙ sym same;
        falls = λ _ hx. omega (arith, k.lower (omega (arith, hx, same)), ap s' e, k.stamp_here, sx);
        next_there = λ _ _ _. omega (arith, e, k.inside);
        next_most = λ q i hq nq.
            let nep : q ≢ p = λ z. nq (z ∙ sym e) in
            let d : s q < mark = k.upper q (rw bx at (joins_in (b' x) q nep i)) (λ ht. omega (arith, hq (omega (arith, ht, same)), sx, k.stamps q nep)) in
            omega (arith, d, ap s' e, k.stamp_here, k.stamps q nep);
      }

  -- a place of the bucket above the new stamp, and not `t`, is above `t`
  joins_between : (x : ℕ) → IsPresent n m s x → x ≢ t → b x ≡ b t → (x < n → mark < s x) → (t < n) × (x < n → s t < s x)
  joins_between x h ne same above =
      let l = k.links.at x h in
      ⊎_elim
      (λ (lt : t < n). (
        lt,
        λ hx. ⊎_elim
            (λ (z : s t < s x). z)
            (λ (le : s x ≤ s t).
            let i : IsIn n s b (b t) x = record { place = hx; joined = h.live hx; home = same } in
            ⊎_elim
            (λ (e : s x ≡ s t). absurd (twins k.links t x lt (k.there.live lt) i e ne))
            (λ (d : s x ≢ s t). let f : s x < mark = k.upper x i (λ _. omega arith) in omega (arith, f, above hx))
            (cases_eq (s x) (s t)))
            (cases_lt (s t) (s x)),
      ))
      (λ (ge : n ≤ t). ⊎_elim
      (λ (hx : x < n).
      let i : IsIn n s b (b t) x = record { place = hx; joined = h.live hx; home = same } in
      let f : s x < mark = k.upper x i (λ ht. omega arith) in
      absurd (omega (arith, f, above hx)))
      (λ (gx : n ≤ x). absurd (ne (l.end_bucket gx ∙ ap (λ z. n + z) same ∙ sym (joins_above.end_bucket ge))))
      (cases_lt x n))
      (cases_lt t n)

  joins_other_down : (x : ℕ) → IsPresent n m s x → x ≢ t → IsDown n m s' b' o' w' x
  joins_other_down x h ne =
      let nep = joins_ne x h in
      let l = k.links.at x h in
      let e : o' x ≡ o x = k.olders x nep ne in
      let onp : o x ≢ p = joins_ne (o x) l.older_there in
      let ono : o x ≢ o t = λ same. ne (sym l.back ∙ ap w same ∙ joins_above.back) in
      let new : IsIn n s' b' (b' x) p → (x < n → s' p < s' x) → (o x < n) × (mark < s (o x)) = λ i f.
      let same : b x ≡ b t = sym (k.buckets x nep) ∙ sym i.home ∙ k.bucket_here in
      let g = joins_between x h ne same (λ hx. omega (arith, f hx, k.stamp_here, k.stamps x nep)) in
      let it : IsIn n s b (b x) t = record { place = g.0; joined = k.there.live g.0; home = sym same } in (
        l.next_there t it g.1,
        ⊎_elim
            (λ (z : t ≡ o x). omega (arith, k.lower g.0, ap s z))
            (λ (z : t ≢ o x). omega (arith, k.lower g.0, l.next_most t it g.1 z))
            (cases_eq t (o x)),
      ) in
      record {
        older_there = rw e (joins_after (o x) l.older_there);
        older_bucket = ap b' e ∙ k.buckets (o x) onp ∙ l.older_bucket ∙ sym (k.buckets x nep);
        back = ap w' e ∙ k.newers (o x) onp ono ∙ l.back;
        falls = λ i j. let d : s (o x) < s x = l.falls (rw e at i) j in omega (arith, d, ap s' e, k.stamps (o x) onp, k.stamps x nep);
        next_there = λ q i f. ⊎_elim
            (λ (z : q ≡ p). rw e (new (subst (IsIn n s' b' (b' x)) z i) (λ hx. omega (arith, f hx, ap s' z))).0)
            (λ (z : q ≢ p). rw e (l.next_there q (rw (k.buckets x nep) at (joins_in (b' x) q z i)) (λ hx. omega (arith, f hx, k.stamps q z, k.stamps x nep))))
            (cases_eq q p);
        next_most = λ q i f nq. ⊎_elim
            (λ (z : q ≡ p). let d = new (subst (IsIn n s' b' (b' x)) z i) (λ hx. omega (arith, f hx, ap s' z)) in
            omega (arith, d.1, ap s' z, k.stamp_here, ap s' e, k.stamps (o x) onp))
            (λ (z : q ≢ p).
            let d : s q < s (o x) = l.next_most q (rw (k.buckets x nep) at (joins_in (b' x) q z i)) (λ hx. omega (arith, f hx, k.stamps q z, k.stamps x nep)) (λ y. nq (y ∙ sym e)) in
            omega (arith, d, ap s' e, k.stamps q z, k.stamps (o x) onp))
            (cases_eq q p);
      }

  joins_here_up : IsUp n m s' b' o' w' p
  joins_here_up = record {
    newer_there = rw k.newer_here (joins_after t k.there);
    newer_bucket = ap b' k.newer_here ∙ k.buckets t (joins_ne t k.there) ∙ sym k.bucket_here;
    forth = ap o' k.newer_here ∙ k.older_above;
  }

  joins_below_up : (x : ℕ) → IsPresent n m s x → x ≡ o t → IsUp n m s' b' o' w' x
  joins_below_up x h same =
      let e : w' x ≡ p = ap w' same ∙ k.newer_below in
      record {
        newer_there = rw e joins_new;
        newer_bucket = ap b' e ∙ k.bucket_here ∙ sym joins_above.older_bucket ∙ sym (ap b same) ∙ sym (k.buckets x (joins_ne x h));
        forth = ap o' e ∙ k.older_here ∙ sym same;
      }

  joins_other_up : (x : ℕ) → IsPresent n m s x → x ≢ o t → IsUp n m s' b' o' w' x
  joins_other_up x h ne =
      let nep = joins_ne x h in
      let l = k.links.at x h in
      let e : w' x ≡ w x = k.newers x nep ne in
      let wnp : w x ≢ p = joins_ne (w x) l.newer_there in
      let wnt : w x ≢ t = λ same. ne (sym l.forth ∙ ap o same) in
      record {
        newer_there = rw e (joins_after (w x) l.newer_there);
        newer_bucket = ap b' e ∙ k.buckets (w x) wnp ∙ l.newer_bucket ∙ sym (k.buckets x nep);
        forth = ap o' e ∙ k.olders (w x) wnp wnt ∙ l.forth;
      }

  joins_other_end : (x : ℕ) → IsPresent n m s x → IsEnded n m s' b' x
  joins_other_end x h =
      let nep = joins_ne x h in
      let l = k.links.at x h in
      record {
        bounded = omega (arith, l.bounded, k.buckets x nep);
        end_bucket = λ g. omega (arith, l.end_bucket g, k.buckets x nep);
        end_stamp = λ g. k.stamps x nep ∙ l.end_stamp g;
      }

  joins_here_end : IsEnded n m s' b' p
  joins_here_end = record {
    bounded = omega (arith, joins_above.bounded, k.bucket_here);
    end_bucket = λ g. absurd (omega (arith, g, k.inside));
    end_stamp = λ g. absurd (omega (arith, g, k.inside));
  }

  joined_other : (x : ℕ) → IsPresent n m s x → IsLinked n m s' b' o' w' x
  joined_other x h = linked_of x
      (⊎_elim (λ same. joins_above_down x h same) (λ ne. joins_other_down x h ne) (cases_eq x t))
      (⊎_elim (λ same. joins_below_up x h same) (λ ne. joins_other_up x h ne) (cases_eq x (o t)))
      (joins_other_end x h)

  pub joined : AreLinked n m s' b' o' w'
  joined = record {
    at = λ x h. ⊎_elim
        (λ (same : x ≡ p). subst (IsLinked n m s' b' o' w') (sym same) (linked_of p joins_here_down joins_here_up joins_here_end))
        (λ (ne : x ≢ p). joined_other x (joins_before x ne h))
        (cases_eq x p);
  }

-- what the next place down and the next place up are
pub next_older : (r : Rings) (os ws : List ℕ) → AreLinked r.places r.buckets (stamp r) (bucket r) (slice_index os) (slice_index ws) → (c x : ℕ) → Present r x → bucket r x ≡ c → IsNextOlder r c x (get_or os x 0)
next_older r os ws k c x h home =
    let l = k.at x h in
    let lo = k.at (get_or os x 0) l.older_there in
    record {
      there = l.older_there;
      home = l.older_bucket ∙ home;
      falls = l.falls;
      ends = λ g. lo.end_bucket g ∙ ap (λ z. r.places + z) (l.older_bucket ∙ home);
      most = λ q i ne le.
          let j : In r (bucket r x) q = record { place = i.place; joined = i.joined; home = i.home ∙ sym home } in
          let f : x < r.places → stamp r q < stamp r x = λ hx. ⊎_elim
          (λ (z : stamp r q < stamp r x). z)
          (λ (z : stamp r x ≤ stamp r q). absurd (twins k x q hx (h.live hx) j (omega (arith, le hx)) ne))
          (cases_lt (stamp r q) (stamp r x)) in (
            l.next_there q j f,
            ⊎_elim
                (λ (z : q ≡ get_or os x 0). omega (arith, ap (stamp r) z))
                (λ (z : q ≢ get_or os x 0). omega (arith, l.next_most q j f z))
                (cases_eq q (get_or os x 0)),
          );
    }

pub next_newer : (r : Rings) (os ws : List ℕ) → AreLinked r.places r.buckets (stamp r) (bucket r) (slice_index os) (slice_index ws) → (c x : ℕ) → Present r x → bucket r x ≡ c → IsNextNewer r c x (get_or ws x 0)
next_newer r os ws k c x h home =
    let y = get_or ws x 0 in
    let l = k.at x h in
    let u = k.at y l.newer_there in
    record {
      there = l.newer_there;
      home = l.newer_bucket ∙ home;
      rises = λ hy hx. let d : stamp r (get_or os y 0) < stamp r y = u.falls (omega (arith, hx, l.forth)) hy in omega (arith, d, ap (stamp r) l.forth);
      ends = λ g. u.end_bucket g ∙ ap (λ z. r.places + z) (l.newer_bucket ∙ home);
      least = λ q i ne ge.
          let j : In r (bucket r y) q = record { place = i.place; joined = i.joined; home = i.home ∙ sym home ∙ sym l.newer_bucket } in
          -- a place below the next one up is below `x`
          let f : (y < r.places → stamp r q < stamp r y) → (x < r.places) × (stamp r q < stamp r x) = λ z.
          (omega (arith, u.next_there q j z, l.forth), let d : stamp r q < stamp r (get_or os y 0) = u.next_most q j z (λ e. ne (e ∙ l.forth)) in omega (arith, d, ap (stamp r) l.forth)) in
          ⊎_elim
          (λ (hy : y < r.places). (
            hy,
            ⊎_elim
                (λ (z : stamp r q < stamp r y). let d = f (λ _. z) in absurd (omega (arith, d.1, ge d.0)))
                (λ (z : stamp r y ≤ stamp r q). z)
                (cases_lt (stamp r q) (stamp r y)),
          ))
          (λ (gy : r.places ≤ y). let d = f (λ hy. absurd (omega arith)) in absurd (omega (arith, d.1, ge d.0)))
          (cases_lt y r.places);
    }

-- the rings of these lists
abbrev pub rings_of : ℕ → ℕ → List ℕ → List ℕ → List ℕ → List ℕ → Rings
rings_of n m ss bs os ws = record { places = n; buckets = m; stamps = ss; homes = bs; olders = os; newers = ws }

module _ {n m : ℕ} {ss bs os ws : List ℕ} (r : Rings) (e : rings_of n m ss bs os ws ≡ r) (k : IsRing n m ss bs os ws) where
  -- what a read of the two lists of neighbours gives
  pub reads_older : (at y c : ℕ) → y ≡ get_or os at y → Present r at → bucket r at ≡ c → IsNextOlder r c at y
  reads_older at y c read = subst (λ z. Present z at → bucket z at ≡ c → IsNextOlder z c at y) e
      (λ h home. let v = rings_of n m ss bs os ws in
      let lt : at < length os = omega (arith, h.within, k.olders_long) in
      subst (IsNextOlder v c at) (sym (get_or_read os at y lt read 0)) (next_older v os ws k.links c at h home))

  pub reads_newer : (at y c : ℕ) → y ≡ get_or ws at y → Present r at → bucket r at ≡ c → IsNextNewer r c at y
  reads_newer at y c read = subst (λ z. Present z at → bucket z at ≡ c → IsNextNewer z c at y) e
      (λ h home. let v = rings_of n m ss bs os ws in
      let lt : at < length ws = omega (arith, h.within, k.newers_long) in
      subst (IsNextNewer v c at) (sym (get_or_read ws at y lt read 0)) (next_newer v os ws k.links c at h home))

  -- a place leaves
  pub parted_ring : (p below above : ℕ) → below ≡ get_or os p below → above ≡ get_or ws p above → p < r.places → 0 < stamp r p → IsRing n m (set ss p 0) bs (set os above below) (set ws below above)
  parted_ring p below above rb ra = subst (λ z. p < z.places → 0 < stamp z p → IsRing n m (set ss p 0) bs (set os above below) (set ws below above)) e
      (λ inside lives.
      let l = k.links.at p (record { within = omega (arith, inside); live = λ _. lives }) in
      let eb : below ≡ get_or os p 0 = get_or_read os p below (omega (arith, inside, k.olders_long)) rb 0 in
      let ea : above ≡ get_or ws p 0 = get_or_read ws p above (omega (arith, inside, k.newers_long)) ra 0 in
      record {
        few = k.few;
        stamps_long = length-set ss p 0 ∙ k.stamps_long;
        homes_long = k.homes_long;
        olders_long = length-set os above below ∙ k.olders_long;
        newers_long = length-set ws below above ∙ k.newers_long;
        links = parted {p = p} {s = slice_index ss} {b = slice_index bs} {o = slice_index os} {w = slice_index ws} (record {
          links = k.links;
          inside = inside;
          lives = lives;
          stamp_here = get_or-set_same ss p 0 0 (omega (arith, inside, k.stamps_long));
          stamps = λ x ne. get_or-set_other ss p x 0 0 ne;
          buckets = λ x ne. refl;
          older_here = ap (λ z. get_or (set os above below) z 0) (sym ea) ∙ get_or-set_same os above below 0 (omega (arith, l.newer_there.within, ea, k.olders_long)) ∙ eb;
          olders = λ x _ ne. get_or-set_other os above x below 0 (λ z. ne (z ∙ ea));
          newer_here = ap (λ z. get_or (set ws below above) z 0) (sym eb) ∙ get_or-set_same ws below above 0 (omega (arith, l.older_there.within, eb, k.newers_long)) ∙ ea;
          newers = λ x _ ne. get_or-set_other ws below x above 0 (λ z. ne (z ∙ eb));
        });
      })

  -- a place joins below `t`
  pub joined_ring : (p t mark home below : ℕ) → below ≡ get_or os t below → home ≡ get_or bs t home → p < r.places → stamp r p ≡ 0 → Present r t → 0 < mark → (t < r.places → mark < stamp r t) → ((q : ℕ) → In r (bucket r t) q → (t < r.places → stamp r q < stamp r t) → stamp r q < mark) → IsRing n m (set ss p mark) (set bs p home) (set (set os p below) t p) (set (set ws p t) below p)
  joined_ring p t mark home below rb rh = subst (λ z. p < z.places → stamp z p ≡ 0 → Present z t → 0 < mark → (t < z.places → mark < stamp z t) → ((q : ℕ) → In z (bucket z t) q → (t < z.places → stamp z q < stamp z t) → stamp z q < mark) → IsRing n m (set ss p mark) (set bs p home) (set (set os p below) t p) (set (set ws p t) below p)) e
      (λ inside free there positive lower upper.
      let l = k.links.at t there in
      let eb : below ≡ get_or os t 0 = get_or_read os t below (omega (arith, there.within, k.olders_long)) rb 0 in
      let eh : home ≡ get_or bs t 0 = get_or_read bs t home (omega (arith, there.within, k.homes_long)) rh 0 in
      let nt : p ≢ t = λ z. omega (arith, there.live, free, inside, ap (slice_index ss) z) in
      let nb : p ≢ below = λ z. let g : p ≡ get_or os t 0 = z ∙ eb in omega (arith, l.older_there.live, free, inside, ap (slice_index ss) g) in
      let lt : t < length (set os p below) = omega (arith, there.within, length-set os p below, k.olders_long) in
      let lb : below < length (set ws p t) = omega (arith, l.older_there.within, eb, length-set ws p t, k.newers_long) in
      record {
        few = k.few;
        stamps_long = length-set ss p mark ∙ k.stamps_long;
        homes_long = length-set bs p home ∙ k.homes_long;
        olders_long = length-set (set os p below) t p ∙ length-set os p below ∙ k.olders_long;
        newers_long = length-set (set ws p t) below p ∙ length-set ws p t ∙ k.newers_long;
        links = joined {p = p} {t = t} {mark = mark} {s = slice_index ss} {b = slice_index bs} {o = slice_index os} {w = slice_index ws} (record {
          links = k.links;
          inside = inside;
          free = free;
          there = there;
          positive = positive;
          lower = lower;
          upper = upper;
          stamp_here = get_or-set_same ss p mark 0 (omega (arith, inside, k.stamps_long));
          bucket_here = get_or-set_same bs p home 0 (omega (arith, inside, k.homes_long)) ∙ eh;
          stamps = λ x ne. get_or-set_other ss p x mark 0 ne;
          buckets = λ x ne. get_or-set_other bs p x home 0 ne;
          older_here = get_or-set_other (set os p below) t p p 0 nt ∙ get_or-set_same os p below 0 (omega (arith, inside, k.olders_long)) ∙ eb;
          older_above = get_or-set_same (set os p below) t p 0 lt;
          olders = λ x np ne. get_or-set_other (set os p below) t x p 0 ne ∙ get_or-set_other os p x below 0 np;
          newer_here = get_or-set_other (set ws p t) below p p 0 nb ∙ get_or-set_same ws p t 0 (omega (arith, inside, k.newers_long));
          newer_below = ap (λ z. get_or (set (set ws p t) below p) z 0) (sym eb) ∙ get_or-set_same (set ws p t) below p 0 lb;
          newers = λ x np ne. get_or-set_other (set ws p t) below x p 0 (λ z. ne (z ∙ eb)) ∙ get_or-set_other ws p x t 0 np;
        });
      })

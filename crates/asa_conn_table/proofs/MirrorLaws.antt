-- Rings that mirror slots: what joining, parting and changing a place leave, and what a look-up in them finds.
use Rattle.std.proofs.Common.{◌≡◌, ◌≢◌, ℕ, ◌<◌, ◌≤◌, ⊎_elim, zero, suc, [], ◌∷◌, Bool, true, false, List, length, set, get_or-set_same, get_or-set_other, length-set, Option, Some, None, is_some, nat_lt, refl, sym, ap, ◌∙◌, subst, arith}
use Rattle.std.proofs.lemmas.Bool.{cases_Bool, cases_eq, ltb-true, lt-ltb, false≢true}
use Rattle.asa_rings.specs.Rings.{Rings, In, Present, IsJoined, IsParted, IsNextNewer, bucket, stamp}
use Rattle.asa_conn_table.specs.declared.conn.Conn.{Conn}
use Rattle.asa_conn_table.specs.Slots.{IsLeast, IsLeastPlace, IsPlace, slot, slot_passes}
use Rattle.asa_conn_table.specs.Shelf.{IsInRing, IsMirrored, Mirrors}

-- a slot that isn't there has nothing
pub slot_within : (xs : List (Option Conn)) (p : ℕ) (c : Conn) → slot xs p ≡ Some c → p < length xs
slot_within [] p c e = absurd (cc)
slot_within (x ∷ xs) zero c e = omega arith
slot_within (x ∷ xs) (suc p) c e = omega (arith, slot_within xs p c e)

-- the same facts of what is the same
mirrored_same : (f : Conn → ℕ → ℕ) {n m s t b a : ℕ} {o u : Option Conn} → u ≡ o → t ≡ s → a ≡ b → m ≡ n → IsMirrored (λ c. f c n) o s b → IsMirrored (λ c. f c m) u t a
mirrored_same f {n} {m} {s} {t} {b} {a} {o} {u} e es eb en k =
    subst (λ x. IsMirrored (λ c. f c m) u t x) (sym eb)
    (subst (λ x. IsMirrored (λ c. f c m) u x b) (sym es)
    (subst (λ x. IsMirrored (λ c. f c x) u s b) (sym en)
    (subst (λ x. IsMirrored (λ c. f c n) x s b) (sym e) k)))

module _ {f : Conn → ℕ → ℕ} {r : Rings} {xs : List (Option Conn)} (k : Mirrors f r xs) where
  -- what a place's ring tells of its slot, and the other way round
  pub mirror_taken : (p : ℕ) (c : Conn) → slot xs p ≡ Some c → (0 < c.id) × (stamp r p ≡ c.id) × (bucket r p ≡ f c r.buckets)
  mirror_taken p c e = subst (λ o. IsMirrored (λ d. f d r.buckets) o (stamp r p) (bucket r p)) e (k.each p (slot_within xs p c e))

  pub mirror_joined : (p : ℕ) → p < length xs → is_some (slot xs p) ≡ true → 0 < stamp r p
  mirror_joined p within some = by (slot xs p) refl some
    where
      by : (o : Option Conn) → slot xs p ≡ o → is_some o ≡ true → 0 < stamp r p
      by None e h = absurd (false≢true h)
      by (Some c) e h = let m = mirror_taken p c e in omega (arith, m.0, m.1)

  pub mirror_free : (p : ℕ) → p < length xs → slot xs p ≡ None → stamp r p ≡ 0
  mirror_free p within e = subst (λ o. IsMirrored (λ d. f d r.buckets) o (stamp r p) (bucket r p)) e (k.each p within)

  pub mirror_live : (p : ℕ) → p < length xs → 0 < stamp r p → (c : Conn) × (slot xs p ≡ Some c)
  mirror_live p within live = by (slot xs p) refl
    where
      by : (o : Option Conn) → slot xs p ≡ o → (c : Conn) × (slot xs p ≡ Some c)
      by None e = absurd (omega (arith, live, mirror_free p within e))
      by (Some c) e = (c, e)

  pub mirror_in : (p : ℕ) (c : Conn) → slot xs p ≡ Some c → In r (f c r.buckets) p
  mirror_in p c e = let m = mirror_taken p c e in record { place = omega (arith, slot_within xs p c e, k.places); joined = omega (arith, m.0, m.1); home = m.2 }

  pub mirror_present : (p : ℕ) → p < length xs → is_some (slot xs p) ≡ true → Present r p
  mirror_present p within some = record { within = omega (arith, within, k.places); live = λ _. mirror_joined p within some }

  -- all stamps of a ring are below an id that is above all
  pub mirror_newest : (id c q : ℕ) → ((p : ℕ) (d : Conn) → slot xs p ≡ Some d → d.id < id) → In r c q → stamp r q < id
  mirror_newest id c q newest i =
      let s = mirror_live q (omega (arith, i.place, k.places)) i.joined in
      omega (arith, newest q s.0 s.1, (mirror_taken q s.0 s.1).1)

  -- a connection comes into a free slot
  pub mirror_put : (p : ℕ) (c : Conn) (t : Rings) → p < length xs → 0 < c.id → IsJoined p c.id (f c r.buckets) r t → Mirrors f t (set xs p (Some c))
  mirror_put p c t within first j = record {
    places = j.sizes.places ∙ k.places ∙ sym (length-set xs p (Some c));
    buckets = omega (arith, k.buckets, j.sizes.buckets);
    each = λ q h. ⊎_elim
        (λ (e : q ≡ p). mirrored_same f {n = r.buckets} (ap (slot (set xs p (Some c))) e ∙ get_or-set_same xs p (Some c) None within)
        (ap (stamp t) e ∙ j.stamp_here) (ap (bucket t) e ∙ j.bucket_here) j.sizes.buckets (first, refl, refl))
        (λ (ne : q ≢ p). mirrored_same f {n = r.buckets} (get_or-set_other xs p q (Some c) None ne)
        (j.others.stamps q ne) (j.others.buckets q ne) j.sizes.buckets (k.each q (omega (arith, h, length-set xs p (Some c)))))
        (cases_eq q p);
  }

  -- a connection leaves its slot
  pub mirror_take : (p : ℕ) (t : Rings) → p < length xs → IsParted p r t → Mirrors f t (set xs p None)
  mirror_take p t within j = record {
    places = j.sizes.places ∙ k.places ∙ sym (length-set xs p None);
    buckets = omega (arith, k.buckets, j.sizes.buckets);
    each = λ q h. ⊎_elim
        (λ (e : q ≡ p). subst (λ o. IsMirrored (λ d. f d t.buckets) o (stamp t q) (bucket t q))
        (sym (ap (slot (set xs p None)) e ∙ get_or-set_same xs p None None within))
        (ap (stamp t) e ∙ j.stamp_here))
        (λ (ne : q ≢ p). mirrored_same f {n = r.buckets} (get_or-set_other xs p q None None ne)
        (j.others.stamps q ne) (j.others.buckets q ne) j.sizes.buckets (k.each q (omega (arith, h, length-set xs p None))))
        (cases_eq q p);
  }

  -- a connection changes, and neither its id nor its bucket
  pub mirror_same : (p : ℕ) (c d : Conn) → slot xs p ≡ Some c → d.id ≡ c.id → f d r.buckets ≡ f c r.buckets → Mirrors f r (set xs p (Some d))
  mirror_same p c d here id home = let m = mirror_taken p c here in record {
    places = k.places ∙ sym (length-set xs p (Some d));
    buckets = k.buckets;
    each = λ q h. ⊎_elim
        (λ (e : q ≡ p). mirrored_same f {n = r.buckets} (ap (slot (set xs p (Some d))) e ∙ get_or-set_same xs p (Some d) None (slot_within xs p c here))
        (ap (stamp r) e) (ap (bucket r) e) refl (omega (arith, m.0, id), m.1 ∙ sym id, m.2 ∙ sym home))
        (λ (ne : q ≢ p). mirrored_same f {n = r.buckets} (get_or-set_other xs p q (Some d) None ne)
        refl refl refl (k.each q (omega (arith, h, length-set xs p (Some d)))))
        (cases_eq q p);
  }

  -- what isn't in the ring of its bucket isn't there
  pub place_in_ring : (t : Conn → Bool) (b : ℕ) (o : Option ℕ) → ((d : Conn) → t d ≡ true → f d r.buckets ≡ b) → IsInRing t r b xs o → IsPlace t xs o
  place_in_ring t b (Some p) home i = i
  place_in_ring t b None home i = λ q d e. ⊎_elim
      (λ (pass : t d ≡ true). ap (slot_passes t) (sym e) ∙ i q (subst (λ x. In r x q) (home d pass) (mirror_in q d e)))
      (λ (miss : t d ≡ false). miss)
      (cases_Bool (t d))

-- all connections stand in one ring by rising id
module _ {r : Rings} {xs : List (Option Conn)} (k : Mirrors (λ _ _. 0) r xs) where
  pub least_some : (t : Conn → Bool) (at : ℕ) → at < r.places → slot_passes t (slot xs at) ≡ true
      → ((q : ℕ) → In r 0 q → slot_passes t (slot xs q) ≡ true → (at < r.places) × (stamp r at ≤ stamp r q)) → IsLeastPlace t xs at
  least_some t at lt here left = record {
    within = omega (arith, lt, k.places);
    here = here;
    least = λ q c d ec ed pass. omega (arith, (left q (mirror_in k q d ed) (ap (slot_passes t) ed ∙ pass)).1, (mirror_taken k at c ec).1, (mirror_taken k q d ed).1);
  }

  pub least_none : (t : Conn → Bool) (at : ℕ) → r.places ≤ at
      → ((q : ℕ) → In r 0 q → slot_passes t (slot xs q) ≡ true → (at < r.places) × (stamp r at ≤ stamp r q)) → IsLeast t xs None
  least_none t at ge left = λ q d e. ⊎_elim
      (λ (pass : t d ≡ true). absurd (omega (arith, ge, (left q (mirror_in k q d e) (ap (slot_passes t) e ∙ pass)).0)))
      (λ (miss : t d ≡ false). miss)
      (cases_Bool (t d))

  -- the next place up has the next id
  module _ (p : ℕ) (c : Conn) (here : slot xs p ≡ Some c) (y : ℕ) (n : IsNextNewer r 0 p y) where
    next_above : (q : ℕ) (d : Conn) → slot xs q ≡ Some d → nat_lt c.id d.id ≡ true → (y < r.places) × (stamp r y ≤ stamp r q)
    next_above q d e lt =
        let mp = mirror_taken k p c here in
        let mq = mirror_taken k q d e in
        let low : c.id < d.id = ltb-true c.id d.id lt in
        n.least q (mirror_in k q d e) (λ same. omega (arith, low, mp.1, mq.1, ap (stamp r) same)) (λ _. omega (arith, low, mp.1, mq.1))

    pub next_some : y < r.places → IsLeastPlace (λ d. nat_lt c.id d.id) xs y
    next_some lt =
        let within : y < length xs = omega (arith, lt, k.places) in
        let s = mirror_live k y within (n.there.live lt) in
        let mp = mirror_taken k p c here in
        let my = mirror_taken k y s.0 s.1 in
        let rise : stamp r p < stamp r y = n.rises lt (omega (arith, slot_within xs p c here, k.places)) in
        record {
          within = within;
          here = ap (slot_passes (λ d. nat_lt c.id d.id)) s.1 ∙ lt-ltb c.id s.0.id (omega (arith, rise, mp.1, my.1));
          least = λ q e d ee ed pass. omega (arith, (next_above q d ed pass).1, (mirror_taken k y e ee).1, (mirror_taken k q d ed).1);
        }

    pub next_none : r.places ≤ y → IsLeast (λ d. nat_lt c.id d.id) xs None
    next_none ge = λ q d e. ⊎_elim
        (λ (pass : nat_lt c.id d.id ≡ true). absurd (omega (arith, ge, (next_above q d e pass).0)))
        (λ (miss : nat_lt c.id d.id ≡ false). miss)
        (cases_Bool (nat_lt c.id d.id))

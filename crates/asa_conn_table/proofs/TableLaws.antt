-- What the table's list answers and becomes, from what its slots hold.
use Rattle.std.proofs.Common.{◌≡◌, ◌≢◌, ℕ, zero, suc, ◌+◌, ◌<◌, ◌≤◌, ⊎_elim, inl, inr, Bool, true, false, not, cond, ◌&&◌, ◌||◌, nat_lt, List, [], ◌∷◌, ◌++◌, length, map, set, get_or, get_or-set_same, get_or-set_other, length-set, length-append, slice_index, Option, Some, None, is_none, Bor, refl, sym, ap, ◌∙◌, subst, arith}
use Rattle.std.specs.List.{find, list_all}
use Rattle.std.specs.Option.{option_copied, option_map}
use Rattle.std.proofs.lemmas.List.{get_or_append_left}
use Rattle.std.proofs.lemmas.Bool.{and_parts, and_from, cases_Bool, cases_eq, cases_lt, eqb-true, eq-eqb, lt-ltb, ltb-false, ltb-true, not-true, false≢true, ne_eqb, or_from, or_left, or_parts, or_right}
use Rattle.asa_base.specs.declared.flow.Key.{Key}
use Rattle.asa_conn_table.specs.declared.conn.Conn.{Conn}
use Rattle.asa_conn_table.specs.declared.conn.Side.{Side}
use Rattle.asa_conn_table.specs.declared.conn.Side.TheVariants as side
use Rattle.asa_conn_table.specs.Conns.{AreApart, IsSound, Table, can_add, conn_of, found, has_id, holds, is_forward, is_newest, marked, same_key, side_of, touched, without}
use Rattle.asa_conn_table.specs.Slots.{AreDistinct, AreFree, IsHighest, IsLeast, IsLeastPlace, IsPlace, in_order, slot, slot_passes}
use Rattle.asa_conn_table.proofs.MirrorLaws.{slot_within}
use Rattle.asa_conn_table.proofs.OrderLaws.{Member, Rising, filter_none, find_least, find_none, length_removed, map_none, member_of, order_added, order_changed, order_empty, order_removed, rising_of, slot_of, some_is}

-- keys that test the same are the same
pub same_is : (a b : Key) → same_key a b ≡ true → a ≡ b
same_is a b h =
    let s6 = and_parts _ _ h in
    let s5 = and_parts _ _ s6.0 in
    let s4 = and_parts _ _ s5.0 in
    let s3 = and_parts _ _ s4.0 in
    let s2 = and_parts _ _ s3.0 in
    let s1 = and_parts _ _ s2.0 in
    ap (λ x. record a { ifc = x }) (eqb-true a.ifc b.ifc s1.0)
    ∙ ap (λ x. record a { ifc = b.ifc; proto = x }) (eqb-true a.proto b.proto s1.1)
    ∙ ap (λ x. record a { ifc = b.ifc; proto = b.proto; kind = x }) (eqb-true a.kind b.kind s2.1)
    ∙ ap (λ x. record a { ifc = b.ifc; proto = b.proto; kind = b.kind; src = record { 0 = x } }) (eqb-true a.src.0 b.src.0 s3.1)
    ∙ ap (λ x. record a { ifc = b.ifc; proto = b.proto; kind = b.kind; src = b.src; sport = x }) (eqb-true a.sport b.sport s4.1)
    ∙ ap (λ x. record b { dst = record { 0 = x }; dport = a.dport }) (eqb-true a.dst.0 b.dst.0 s5.1)
    ∙ ap (λ x. record b { dport = x }) (eqb-true a.dport b.dport s6.1)

-- a test of a slot is that of its connection
pub slot_conn : (t : Conn → Bool) (o : Option Conn) → slot_passes t o ≡ true → (c : Conn) × (o ≡ Some c) × (t c ≡ true)
slot_conn t None h = absurd (false≢true h)
slot_conn t (Some c) h = (c, refl, h)

-- what holds of members holds by index
every : (P : Conn → Type 0) (ys : List Conn) → ((c : Conn) → Member c ys → P c) → (i : ℕ) (d : Conn) → i < length ys → P (get_or ys i d)
every P [] f i d h = absurd (omega (arith, h))
every P (y ∷ ys) f zero d h = f y (inl refl)
every P (y ∷ ys) f (suc i) d h = every P ys (λ c m. f c (inr m)) i d (omega (arith, h))

pairs : (R : Conn → Conn → Type 0) (ys : List Conn) → Rising ys → ((c d : Conn) → Member c ys → Member d ys → c.id < d.id → R c d)
    → (i j : ℕ) (d : Conn) → i < j → j < length ys → R (get_or ys i d) (get_or ys j d)
pairs R [] r f i j d h g = absurd (omega (arith, g))
pairs R (y ∷ ys) r f zero zero d h g = absurd (omega (arith, h))
pairs R (y ∷ ys) r f zero (suc j) d h g = every (λ b. R y b) ys (λ b m. f y b (inl refl) (inr m) (r.0 b m)) j d (omega (arith, g))
pairs R (y ∷ ys) r f (suc i) zero d h g = absurd (omega (arith, h))
pairs R (y ∷ ys) r f (suc i) (suc j) d h g = pairs R ys r.1 (λ c b mc mb lt. f c b (inr mc) (inr mb) lt) i j d (omega (arith, h)) (omega (arith, g))

-- what a look-up by place tells
pub place_some : (xs : List (Option Conn)) (t : Conn → Bool) (o : Option ℕ) (p : ℕ) → IsPlace t xs o → o ≡ Some p → (c : Conn) × (slot xs p ≡ Some c) × (t c ≡ true)
place_some xs t o p i e = let j = subst (IsPlace t xs) e i in slot_conn t (slot xs p) j.1

pub least_some_of : (xs : List (Option Conn)) (t : Conn → Bool) (o : Option ℕ) (p : ℕ) → IsLeast t xs o → o ≡ Some p → IsLeastPlace t xs p
least_some_of xs t o p i e = subst (IsLeast t xs) e i

-- what stands in a slot that was read
pub read_slot : (xs : List (Option Conn)) (p : ℕ) (r : Option (Bor Conn)) (b : Bor Conn) → option_copied r ≡ slot xs p → r ≡ Some b → slot xs p ≡ Some b.now
read_slot xs p r b e was = sym e ∙ ap option_copied was

module _ (xs : List (Option Conn)) (k : AreDistinct xs) where
  -- two slots with one id are one
  pub one_slot : (p q : ℕ) (c d : Conn) → slot xs p ≡ Some c → slot xs q ≡ Some d → c.id ≡ d.id → c ≡ d
  one_slot p q c d ep eq same = ⊎_elim
      (λ (e : p ≡ q). some_is (sym ep ∙ ap (slot xs) e ∙ eq))
      (λ (ne : p ≢ q). absurd (k.ids p q c d ep eq ne same))
      (cases_eq p q)

  -- what the slots tell of a test, the list by rising id tells
  pub least_found : (t : Conn → Bool) (p : ℕ) (c : Conn) → slot xs p ≡ Some c → IsLeastPlace t xs p → find t (in_order xs) ≡ Some c
  least_found t p c here l =
      find_least t (in_order xs) c (rising_of xs k.ids) (member_of xs p c here) (ap (slot_passes t) (sym here) ∙ l.here)
      (λ d m pass. let s = slot_of xs d m in l.least s.0 c d here s.1 pass)

  pub nothing_found : (t : Conn → Bool) → ((q : ℕ) (d : Conn) → slot xs q ≡ Some d → t d ≡ false) → find t (in_order xs) ≡ None
  nothing_found t none = find_none t (in_order xs) (λ d m. let s = slot_of xs d m in none s.0 d s.1)

  pub alone_found : (t : Conn → Bool) (p : ℕ) (c : Conn) → slot xs p ≡ Some c → t c ≡ true → ((q : ℕ) (d : Conn) → slot xs q ≡ Some d → p ≢ q → t d ≡ false) → find t (in_order xs) ≡ Some c
  alone_found t p c here pass alone = least_found t p c here (record {
    within = slot_within xs p c here;
    here = ap (slot_passes t) here ∙ pass;
    least = λ q b d eb ed h. ⊎_elim
        (λ (e : p ≡ q). omega (arith, ap (λ (x : Conn). x.id) (some_is (sym eb ∙ ap (slot xs) e ∙ ed))))
        (λ (ne : p ≢ q). absurd (false≢true (sym (alone q d ed ne) ∙ h)))
        (cases_eq p q);
  })

  pub id_found : (id p : ℕ) (c : Conn) → slot xs p ≡ Some c → has_id id c ≡ true → conn_of id (in_order xs) ≡ Some c
  id_found id p c here h = alone_found (has_id id) p c here h
      (λ q d e ne. ne_eqb d.id id (λ same. k.ids p q c d here e ne (eqb-true c.id id h ∙ sym same)))

  -- no other connection holds a key of one
  pub forward_found : (key : Key) (p : ℕ) (c : Conn) → slot xs p ≡ Some c → same_key key c.forward ≡ true → find (holds key) (in_order xs) ≡ Some c
  forward_found key p c here h = alone_found (holds key) p c here (or_left _ _ h)
      (λ q d e ne. ap (λ x. holds x d) (same_is key c.forward h) ∙ (k.apart p q c d here e ne).forward)

  pub reply_found : (key : Key) (p : ℕ) (c : Conn) → slot xs p ≡ Some c → same_key key c.reply ≡ true → find (holds key) (in_order xs) ≡ Some c
  reply_found key p c here h = alone_found (holds key) p c here (or_right _ _ h)
      (λ q d e ne. ap (λ x. holds x d) (same_is key c.reply h) ∙ (k.apart p q c d here e ne).reply)

  -- the answers of the look-ups
  pub place_none : (t : Conn → Bool) (o : Option ℕ) → IsPlace t xs o → o ≡ None → find t (in_order xs) ≡ None
  place_none t o i e = nothing_found t (subst (IsPlace t xs) e i)

  pub least_none_of : (t : Conn → Bool) (o : Option ℕ) → IsLeast t xs o → o ≡ None → option_map (λ c. c.id) (find t (in_order xs)) ≡ None
  least_none_of t o i e = ap (option_map (λ (c : Conn). c.id)) (nothing_found t (subst (IsLeast t xs) e i))

  pub least_id : (t : Conn → Bool) (o : Option ℕ) (p : ℕ) (c : Conn) → IsLeast t xs o → o ≡ Some p → slot xs p ≡ Some c → option_map (λ c. c.id) (find t (in_order xs)) ≡ Some c.id
  least_id t o p c i e here = ap (option_map (λ (d : Conn). d.id)) (least_found t p c here (least_some_of xs t o p i e))

  pub found_forward : (key : Key) (o : Option ℕ) (p : ℕ) (c : Conn) → IsPlace (λ d. same_key key d.forward) xs o → o ≡ Some p → slot xs p ≡ Some c → found key (in_order xs) ≡ Some (c.id, side.Forward)
  found_forward key o p c i e here =
      let h : same_key key c.forward ≡ true = ap (slot_passes (λ d. same_key key d.forward)) (sym here) ∙ (subst (IsPlace (λ d. same_key key d.forward) xs) e i).1 in
      ap (option_map (λ (d : Conn). (d.id, side_of key d))) (forward_found key p c here h)
      ∙ ap (λ b. Some (c.id, cond b side.Forward side.Reply)) h

  pub found_reply : (key : Key) (n o : Option ℕ) (p : ℕ) (c : Conn) → IsPlace (λ d. same_key key d.forward) xs n → n ≡ None → IsPlace (λ d. same_key key d.reply) xs o → o ≡ Some p → slot xs p ≡ Some c
      → found key (in_order xs) ≡ Some (c.id, side.Reply)
  found_reply key n o p c j en i e here =
      let h : same_key key c.reply ≡ true = ap (slot_passes (λ d. same_key key d.reply)) (sym here) ∙ (subst (IsPlace (λ d. same_key key d.reply) xs) e i).1 in
      let g : same_key key c.forward ≡ false = subst (IsPlace (λ d. same_key key d.forward) xs) en j p c here in
      ap (option_map (λ (d : Conn). (d.id, side_of key d))) (reply_found key p c here h)
      ∙ ap (λ b. Some (c.id, cond b side.Forward side.Reply)) g

  pub found_none : (key : Key) (n o : Option ℕ) → IsPlace (λ d. same_key key d.forward) xs n → n ≡ None → IsPlace (λ d. same_key key d.reply) xs o → o ≡ None → found key (in_order xs) ≡ None
  found_none key n o j en i e =
      ap (option_map (λ (d : Conn). (d.id, side_of key d)))
      (nothing_found (holds key) (λ q d h. or_from _ _ (subst (IsPlace (λ d. same_key key d.forward) xs) en j q d h) (subst (IsPlace (λ d. same_key key d.reply) xs) e i q d h)))

  -- the list is sound
  pub sound_of : (room : ℕ) → length (in_order xs) ≤ room → IsSound (record { conns = in_order xs; room = room })
  sound_of room few = record {
    few = few;
    rising = pairs (λ c d. c.id < d.id) (in_order xs) (rising_of xs k.ids) (λ c d mc md lt. lt);
    apart = pairs AreApart (in_order xs) (rising_of xs k.ids) apart;
    own = every (λ c. same_key c.forward c.reply ≡ false) (in_order xs) (λ c m. let s = slot_of xs c m in k.own s.0 c s.1);
  }
    where
      apart : (c d : Conn) → Member c (in_order xs) → Member d (in_order xs) → c.id < d.id → AreApart c d
      apart c d mc md lt =
          let a = slot_of xs c mc in
          let b = slot_of xs d md in
          k.apart a.0 b.0 c d a.1 b.1 (λ e. omega (arith, lt, ap (λ (x : Conn). x.id) (some_is (sym a.1 ∙ ap (slot xs) e ∙ b.1))))

  -- a change by id reaches the one connection that has it
  pub touched_other : (id now : ℕ) (d : Conn) → has_id id d ≡ false → touched id now d ≡ d
  touched_other id now d h = ap (λ b. record d { used = cond b now d.used }) h

  pub marked_other : (id : ℕ) (from : Side) (now : ℕ) (d : Conn) → has_id id d ≡ false → marked id from now d ≡ d
  marked_other id from now d h = ap (λ b. change b) h
    where
      change : Bool → Conn
      change b = record d { fin_i = (b && is_forward from) || d.fin_i; fin_r = (b && not (is_forward from)) || d.fin_r; used = cond b now d.used }

  other_id : (p q : ℕ) (c d : Conn) → slot xs p ≡ Some c → slot xs q ≡ Some d → q ≢ p → has_id c.id d ≡ false
  other_id p q c d here e ne = ne_eqb d.id c.id (k.ids q p d c e here ne)

  pub touch_order : (id now p : ℕ) (c : Conn) → slot xs p ≡ Some c → has_id id c ≡ true → in_order (set xs p (Some (touched c.id now c))) ≡ map (touched id now) (in_order xs)
  touch_order id now p c here h = subst (λ n. in_order (set xs p (Some (touched c.id now c))) ≡ map (touched n now) (in_order xs)) (eqb-true c.id id h)
      (order_changed (touched c.id now) (λ d. refl) xs p c here (λ q d ne e. touched_other c.id now d (other_id p q c d here e ne)))

  pub mark_order : (id : ℕ) (from : Side) (now p : ℕ) (c : Conn) → slot xs p ≡ Some c → has_id id c ≡ true → in_order (set xs p (Some (marked c.id from now c))) ≡ map (marked id from now) (in_order xs)
  mark_order id from now p c here h = subst (λ n. in_order (set xs p (Some (marked c.id from now c))) ≡ map (marked n from now) (in_order xs)) (eqb-true c.id id h)
      (order_changed (marked c.id from now) (λ d. refl) xs p c here (λ q d ne e. marked_other c.id from now d (other_id p q c d here e ne)))

  pub remove_order : (id p : ℕ) (c : Conn) → slot xs p ≡ Some c → has_id id c ≡ true → in_order (set xs p None) ≡ without id (in_order xs)
  remove_order id p c here h = order_removed (λ d. not (has_id id d)) xs p c k.ids here (ap not h)
      (λ q d ne e. ap not (subst (λ n. has_id n d ≡ false) (eqb-true c.id id h) (other_id p q c d here e ne)))

  -- a change by an id that isn't there
  pub touch_none : (id now : ℕ) (o : Option ℕ) → IsPlace (has_id id) xs o → o ≡ None → map (touched id now) (in_order xs) ≡ in_order xs
  touch_none id now o i e = map_none (touched id now) xs (λ q d h. touched_other id now d (subst (IsPlace (has_id id) xs) e i q d h))

  pub mark_none : (id : ℕ) (from : Side) (now : ℕ) (o : Option ℕ) → IsPlace (has_id id) xs o → o ≡ None → map (marked id from now) (in_order xs) ≡ in_order xs
  mark_none id from now o i e = map_none (marked id from now) xs (λ q d h. marked_other id from now d (subst (IsPlace (has_id id) xs) e i q d h))

  pub without_none : (id : ℕ) (o : Option ℕ) → IsPlace (has_id id) xs o → o ≡ None → without id (in_order xs) ≡ in_order xs
  without_none id o i e = filter_none (λ d. not (has_id id d)) xs (λ q d h. ap not (subst (IsPlace (has_id id) xs) e i q d h))

  -- distinct connections stay so where one leaves, changes or comes
  pub distinct_without : (p : ℕ) → AreDistinct (set xs p None)
  distinct_without p = record {
    ids = λ a b c d ea eb. k.ids a b c d (was a c ea) (was b d eb);
    apart = λ a b c d ea eb. k.apart a b c d (was a c ea) (was b d eb);
    own = λ a c ea. k.own a c (was a c ea);
  }
    where
      was : (q : ℕ) (d : Conn) → slot (set xs p None) q ≡ Some d → slot xs q ≡ Some d
      was q d e = ⊎_elim
          (λ (same : p ≡ q). absurd (gone (subst (λ n. slot (set xs p None) n ≡ Some d) (sym same) e)))
          (λ (ne : p ≢ q). sym (get_or-set_other xs p q None None (λ e. ne (sym e))) ∙ e)
          (cases_eq p q)
        where
          gone : slot (set xs p None) p ≡ Some d → ⊥
          gone e = let within : p < length xs = omega (arith, slot_within (set xs p None) p d e, length-set xs p None) in cc (e, get_or-set_same xs p None None within)

-- connections with one id and the same keys
pub record Alike (c d : Conn) : Type 0 where
  pub id : c.id ≡ d.id
  pub forward : c.forward ≡ d.forward
  pub reply : c.reply ≡ d.reply

alike_self : (c : Conn) → Alike c c
alike_self c = record { id = refl; forward = refl; reply = refl }

holds_alike : (k : Key) (c d : Conn) → Alike c d → holds k c ≡ holds k d
holds_alike k c d a = ap (λ x. same_key k x || same_key k c.reply) a.forward ∙ ap (λ x. same_key k d.forward || same_key k x) a.reply

apart_alike : (c d b e : Conn) → Alike c b → Alike d e → AreApart b e → AreApart c d
apart_alike c d b e ac ad k = record {
  forward = ap (λ x. holds x d) ac.forward ∙ holds_alike b.forward d e ad ∙ k.forward;
  reply = ap (λ x. holds x d) ac.reply ∙ holds_alike b.reply d e ad ∙ k.reply;
}

-- where one changes neither its id nor a key, all stay distinct
module _ (xs : List (Option Conn)) (k : AreDistinct xs) (p : ℕ) (c d : Conn) (here : slot xs p ≡ Some c) (alike : Alike d c) where
  before : (q : ℕ) (e : Conn) → slot (set xs p (Some d)) q ≡ Some e → (b : Conn) × (slot xs q ≡ Some b) × Alike e b
  before q e h = ⊎_elim
      (λ (same : p ≡ q). (
        c,
        ap (slot xs) (sym same) ∙ here,
        subst (λ x. Alike x c) (some_is (sym (get_or-set_same xs p (Some d) None (slot_within xs p c here)) ∙ ap (slot (set xs p (Some d))) same ∙ h)) alike,
      ))
      (λ (ne : p ≢ q). (e, sym (get_or-set_other xs p q (Some d) None (λ e. ne (sym e))) ∙ h, alike_self e))
      (cases_eq p q)

  pub distinct_changed : AreDistinct (set xs p (Some d))
  distinct_changed = record {
    ids = λ a b e f he hf ne same.
        let x = before a e he in
        let y = before b f hf in
        k.ids a b x.0 y.0 x.1 y.1 ne (sym x.2.id ∙ same ∙ y.2.id);
    apart = λ a b e f he hf ne.
        let x = before a e he in
        let y = before b f hf in
        apart_alike e f x.0 y.0 x.2 y.2 (k.apart a b x.0 y.0 x.1 y.1 ne);
    own = λ a e he.
        let x = before a e he in
        ap (λ z. same_key z e.reply) x.2.forward ∙ ap (λ z. same_key x.0.forward z) x.2.reply ∙ k.own a x.0 x.1;
  }

-- keys test the same both ways
same_self : (a : Key) → same_key a a ≡ true
same_self a =
    and_from _ _ (and_from _ _ (and_from _ _ (and_from _ _ (and_from _ _ (and_from _ _ (eq-eqb a.ifc a.ifc refl) (eq-eqb a.proto a.proto refl)) (eq-eqb a.kind a.kind refl))
    (eq-eqb a.src.0 a.src.0 refl)) (eq-eqb a.sport a.sport refl)) (eq-eqb a.dst.0 a.dst.0 refl)) (eq-eqb a.dport a.dport refl)

other_way : (a b : Key) → same_key a b ≡ false → same_key b a ≡ false
other_way a b h = ⊎_elim
    (λ (e : same_key b a ≡ true). absurd (false≢true (sym h ∙ ap (λ x. same_key a x) (same_is b a e) ∙ same_self a)))
    (λ (e : same_key b a ≡ false). e)
    (cases_Bool (same_key b a))

apart_back : (c d : Conn) → AreApart c d → AreApart d c
apart_back c d k =
    let f = or_parts _ _ k.forward in
    let r = or_parts _ _ k.reply in
    record {
      forward = or_from _ _ (other_way c.forward d.forward f.0) (other_way c.reply d.forward r.0);
      reply = or_from _ _ (other_way c.forward d.reply f.1) (other_way c.reply d.reply r.1);
    }

-- a list in which nothing is found has nothing that passes
none_passes : (t : Conn → Bool) (ys : List Conn) → find t ys ≡ None → (d : Conn) → Member d ys → t d ≡ false
none_passes t [] h d m = absurd m
none_passes t (y ∷ ys) h d m = by (t y) refl h m (λ none n. none_passes t ys none d n)
  where
    by : (b : Bool) → t y ≡ b → cond b (Some y) (find t ys) ≡ None → Member d (y ∷ ys) → (find t ys ≡ None → Member d ys → t d ≡ false) → t d ≡ false
    by true e none n deep = absurd (cc none)
    by false e none (inl same) deep = ap t same ∙ e
    by false e none (inr n) deep = deep none n

none_mapped : {X : Type 0} (f : Conn → X) (o : Option Conn) → option_map f o ≡ None → o ≡ None
none_mapped f None e = refl
none_mapped f (Some c) e = absurd (cc e)

-- the last of a list
get_or-append-last : (xs : List ℕ) (x : ℕ) → slice_index (xs ++ (x ∷ [])) (length xs) ≡ x
get_or-append-last [] x = refl
get_or-append-last (y ∷ ys) x = get_or-append-last ys x

-- what is asked of a connection that comes into a free slot
pub record CanCome (xs : List (Option Conn)) (p : ℕ) (c : Conn) : Type 0 where
  pub within : p < length xs
  pub free : slot xs p ≡ None
  pub can : can_add (record { conns = in_order xs; room = length xs }) c ≡ true

-- the parts of the test
pub record CanParts (t : Table) (c : Conn) : Type 0 where
  pub room : length t.conns < t.room
  pub first : 0 < c.id
  pub newest : is_newest c.id t.conns ≡ true
  pub forward : found c.forward t.conns ≡ None
  pub reply : found c.reply t.conns ≡ None
  pub own : same_key c.forward c.reply ≡ false

none_is : {X : Type 0} (o : Option X) → is_none o ≡ true → o ≡ None
none_is None h = refl
none_is (Some x) h = absurd (false≢true h)

pub can_parts : (t : Table) (c : Conn) → can_add t c ≡ true → CanParts t c
can_parts t c h =
    let p5 = and_parts _ _ h in
    let p4 = and_parts _ _ p5.0 in
    let p3 = and_parts _ _ p4.0 in
    let p2 = and_parts _ _ p3.0 in
    let p1 = and_parts _ _ p2.0 in
    record {
      room = ltb-true (length t.conns) t.room p1.0;
      first = ltb-true 0 c.id p1.1;
      newest = p2.1;
      forward = none_is (found c.forward t.conns) p3.1;
      reply = none_is (found c.reply t.conns) p4.1;
      own = not-true (same_key c.forward c.reply) p5.1;
    }

-- what a test of all members tells
all_members : (t : Conn → Bool) (ys : List Conn) → list_all t ys ≡ true → (c : Conn) → Member c ys → t c ≡ true
all_members t [] all c m = absurd m
all_members t (y ∷ ys) all c (inl e) = ap t e ∙ (and_parts _ _ all).0
all_members t (y ∷ ys) all c (inr n) = all_members t ys (and_parts _ _ all).1 c n

members_all : (t : Conn → Bool) (ys : List Conn) → ((c : Conn) → Member c ys → t c ≡ true) → list_all t ys ≡ true
members_all t [] all = refl
members_all t (y ∷ ys) all = and_from _ _ (all y (inl refl)) (members_all t ys (λ c m. all c (inr m)))

-- the highest id decides whether an id is the newest
pub newest_some : (xs : List (Option Conn)) (id latest : ℕ) → IsHighest xs latest → nat_lt latest id ≡ is_newest id (in_order xs)
newest_some xs id latest h = by (nat_lt latest id) refl
  where
    by : (b : Bool) → nat_lt latest id ≡ b → nat_lt latest id ≡ is_newest id (in_order xs)
    by true e = e ∙ sym (members_all (λ c. nat_lt c.id id) (in_order xs) (λ c m. let s = slot_of xs c m in lt-ltb c.id id (omega (arith, ltb-true latest id e, h.most s.0 c s.1))))
    by false e = ⊎_elim
        (λ (all : is_newest id (in_order xs) ≡ true).
        let low = all_members (λ c. nat_lt c.id id) (in_order xs) all h.here.1 (member_of xs h.here.0 h.here.1 h.here.2) in
        absurd (omega (arith, ltb-false latest id e, ltb-true h.here.1.id id low, h.here.3)))
        (λ (some : is_newest id (in_order xs) ≡ false). e ∙ sym some)
        (cases_Bool (is_newest id (in_order xs)))

pub newest_none : (xs : List (Option Conn)) (id : ℕ) → ((q : ℕ) (d : Conn) → slot xs q ≡ Some d → ⊥) → true ≡ is_newest id (in_order xs)
newest_none xs id none = sym (members_all (λ c. nat_lt c.id id) (in_order xs) (λ c m. let s = slot_of xs c m in absurd (none s.0 c s.1)))

module _ (xs : List (Option Conn)) (p : ℕ) (c : Conn) (k : CanCome xs p c) where
  parts : CanParts (record { conns = in_order xs; room = length xs }) c
  parts = can_parts (record { conns = in_order xs; room = length xs }) c k.can

  pub newest_member : (d : Conn) → Member d (in_order xs) → d.id < c.id
  newest_member d m = ltb-true d.id c.id (all_members (λ b. nat_lt b.id c.id) (in_order xs) parts.newest d m)

  pub newest_slot : (q : ℕ) (d : Conn) → slot xs q ≡ Some d → d.id < c.id
  newest_slot q d e = newest_member d (member_of xs q d e)

  new_apart : (q : ℕ) (d : Conn) → slot xs q ≡ Some d → AreApart c d
  new_apart q d e = record {
    forward = none_passes (holds c.forward) (in_order xs) (none_mapped (λ b. (b.id, side_of c.forward b)) (find (holds c.forward) (in_order xs)) parts.forward) d (member_of xs q d e);
    reply = none_passes (holds c.reply) (in_order xs) (none_mapped (λ b. (b.id, side_of c.reply b)) (find (holds c.reply) (in_order xs)) parts.reply) d (member_of xs q d e);
  }

  pub added_order : in_order (set xs p (Some c)) ≡ in_order xs ++ (c ∷ [])
  added_order = order_added xs p c k.within k.free newest_member

  module _ (before : AreDistinct xs) where
    the_new : (q : ℕ) (d : Conn) → slot (set xs p (Some c)) q ≡ Some d → p ≡ q → d ≡ c
    the_new q d e same = some_is (sym e ∙ ap (slot (set xs p (Some c))) (sym same) ∙ get_or-set_same xs p (Some c) None k.within)

    an_old : (q : ℕ) (d : Conn) → slot (set xs p (Some c)) q ≡ Some d → p ≢ q → slot xs q ≡ Some d
    an_old q d e ne = sym (get_or-set_other xs p q (Some c) None (λ e. ne (sym e))) ∙ e

    pub distinct_added : AreDistinct (set xs p (Some c))
    distinct_added = record {
      ids = λ a b e f he hf ne same. ⊎_elim
          (λ (pa : p ≡ a). omega (arith, same, ap (λ (x : Conn). x.id) (the_new a e he pa), newest_slot b f (an_old b f hf (λ pb. ne (sym pa ∙ pb)))))
          (λ (na : p ≢ a). ⊎_elim
          (λ (pb : p ≡ b). omega (arith, same, ap (λ (x : Conn). x.id) (the_new b f hf pb), newest_slot a e (an_old a e he na)))
          (λ (nb : p ≢ b). before.ids a b e f (an_old a e he na) (an_old b f hf nb) ne same)
          (cases_eq p b))
          (cases_eq p a);
      apart = λ a b e f he hf ne. ⊎_elim
          (λ (pa : p ≡ a). subst (λ x. AreApart x f) (sym (the_new a e he pa)) (new_apart b f (an_old b f hf (λ pb. ne (sym pa ∙ pb)))))
          (λ (na : p ≢ a). ⊎_elim
          (λ (pb : p ≡ b). subst (λ x. AreApart e x) (sym (the_new b f hf pb)) (apart_back c e (new_apart a e (an_old a e he na))))
          (λ (nb : p ≢ b). before.apart a b e f (an_old a e he na) (an_old b f hf nb) ne)
          (cases_eq p b))
          (cases_eq p a);
      own = λ a e he. ⊎_elim
          (λ (pa : p ≡ a). subst (λ (x : Conn). same_key x.forward x.reply ≡ false) (sym (the_new a e he pa)) parts.own)
          (λ (na : p ≢ a). before.own a e (an_old a e he na))
          (cases_eq p a);
    }

  -- the place on top of the free ones is no longer free
  pub free_added : (rest : List ℕ) → AreFree xs (rest ++ (p ∷ [])) → AreFree (set xs p (Some c)) rest
  free_added rest f =
      let long : length (rest ++ (p ∷ [])) ≡ length rest + 1 = length-append rest (p ∷ []) in
      let top : slice_index (rest ++ (p ∷ [])) (length rest) ≡ p = get_or-append-last rest p in
      let at : (i : ℕ) → i < length rest → slice_index (rest ++ (p ∷ [])) i ≡ slice_index rest i = λ i h. get_or_append_left rest (p ∷ []) 0 i h in
      record {
        all = omega (arith, f.all, long, ap length added_order, length-append (in_order xs) (c ∷ []), length-set xs p (Some c));
        within = λ i h. omega (arith, f.within i (omega (arith, h, long)), at i h, length-set xs p (Some c));
        empty = λ i h.
            let ne : slice_index rest i ≢ p = λ e. f.distinct i (length rest) h (omega (arith, long)) (at i h ∙ e ∙ sym top) in
            get_or-set_other xs p (slice_index rest i) (Some c) None ne ∙ ap (slot xs) (sym (at i h)) ∙ f.empty i (omega (arith, h, long));
        distinct = λ i j lt h e. f.distinct i j lt (omega (arith, h, long)) (at i (omega (arith, lt, h)) ∙ e ∙ sym (at j h));
      }

-- a place whose connection left is free
pub free_removed : (xs : List (Option Conn)) (p : ℕ) (c : Conn) (free : List ℕ) → slot xs p ≡ Some c → AreFree xs free → AreFree (set xs p None) (free ++ (p ∷ []))
free_removed xs p c free here f =
    let long : length (free ++ (p ∷ [])) ≡ length free + 1 = length-append free (p ∷ []) in
    let top : slice_index (free ++ (p ∷ [])) (length free) ≡ p = get_or-append-last free p in
    let at : (i : ℕ) → i < length free → slice_index (free ++ (p ∷ [])) i ≡ slice_index free i = λ i h. get_or_append_left free (p ∷ []) 0 i h in
    let within : p < length xs = slot_within xs p c here in
    let other : (i : ℕ) → i < length free → slice_index free i ≢ p = λ i h e. absurd (cc (f.empty i h, ap (slot xs) e, here)) in
    record {
      all = omega (arith, f.all, long, length_removed xs p c here, length-set xs p None);
      within = λ i h. ⊎_elim
          (λ (lt : i < length free). omega (arith, f.within i lt, at i lt, length-set xs p None))
          (λ (ge : length free ≤ i). omega (arith, within, top, ap (slice_index (free ++ (p ∷ []))) (is_last i ge h long), length-set xs p None))
          (cases_lt i (length free));
      empty = λ i h. ⊎_elim
          (λ (lt : i < length free). ap (slot (set xs p None)) (at i lt) ∙ get_or-set_other xs p (slice_index free i) None None (other i lt) ∙ f.empty i lt)
          (λ (ge : length free ≤ i). ap (slot (set xs p None)) (ap (slice_index (free ++ (p ∷ []))) (is_last i ge h long) ∙ top) ∙ get_or-set_same xs p None None within)
          (cases_lt i (length free));
      distinct = λ i j lt h e. ⊎_elim
          (λ (below : j < length free). f.distinct i j lt below (sym (at i (omega (arith, lt, below))) ∙ e ∙ at j below))
          (λ (ge : length free ≤ j). other i (omega (arith, lt, h, long)) (sym (at i (omega (arith, lt, h, long))) ∙ e ∙ ap (slice_index (free ++ (p ∷ []))) (is_last j ge h long) ∙ top))
          (cases_lt j (length free));
    }
  where
    is_last : (i : ℕ) → length free ≤ i → i < length (free ++ (p ∷ [])) → length (free ++ (p ∷ [])) ≡ length free + 1 → i ≡ length free
    is_last i ge h long = omega (arith, ge, h, long)

-- where a connection changes, the free places stay
pub free_changed : (xs : List (Option Conn)) (p : ℕ) (c d : Conn) (free : List ℕ) → slot xs p ≡ Some c → length (in_order (set xs p (Some d))) ≡ length (in_order xs) → AreFree xs free → AreFree (set xs p (Some d)) free
free_changed xs p c d free here same f = record {
  all = omega (arith, f.all, same, length-set xs p (Some d));
  within = λ i h. omega (arith, f.within i h, length-set xs p (Some d));
  empty = λ i h. get_or-set_other xs p (slice_index free i) (Some d) None (λ e. absurd (cc (f.empty i h, ap (slot xs) e, here))) ∙ f.empty i h;
  distinct = f.distinct;
}

-- all places are free at first
pub free_first : (xs : List (Option Conn)) (free : List ℕ) (n : ℕ) → length xs ≡ n → length free ≡ n → ((p : ℕ) → slot xs p ≡ None) → ((i : ℕ) → i < n → slice_index free i ≡ i) → AreFree xs free
free_first xs free n long free_long empty each = record {
  all = omega (arith, long, free_long, ap length (order_empty xs empty));
  within = λ i h. omega (arith, each i (omega (arith, h, free_long)), h, free_long, long);
  empty = λ i h. empty (slice_index free i);
  distinct = λ i j lt h e. omega (arith, lt, e, each i (omega (arith, lt, h, free_long)), each j (omega (arith, h, free_long)));
}

-- the place on top of the free ones is free
pub top_free : (xs : List (Option Conn)) (p : ℕ) (rest : List ℕ) → AreFree xs (rest ++ (p ∷ [])) → (p < length xs) × (slot xs p ≡ None)
top_free xs p rest f =
    let long : length (rest ++ (p ∷ [])) ≡ length rest + 1 = length-append rest (p ∷ []) in
    let top : slice_index (rest ++ (p ∷ [])) (length rest) ≡ p = get_or-append-last rest p in
    (omega (arith, f.within (length rest) (omega (arith, long)), top), ap (slot xs) (sym top) ∙ f.empty (length rest) (omega (arith, long)))

pub can_come : (xs : List (Option Conn)) (t : Table) (p : ℕ) (c : Conn) (rest : List ℕ) → record { conns = in_order xs; room = length xs } ≡ t → AreFree xs (rest ++ (p ∷ [])) → can_add t c ≡ true → CanCome xs p c
can_come xs t p c rest e f can =
    let top = top_free xs p rest f in
    record { within = top.0; free = top.1; can = ap (λ x. can_add x c) e ∙ can }

pub distinct_first : (xs : List (Option Conn)) → ((p : ℕ) → slot xs p ≡ None) → AreDistinct xs
distinct_first xs empty = record {
  ids = λ p q c d e f ne. absurd (cc (empty p, e));
  apart = λ p q c d e f ne. absurd (cc (empty p, e));
  own = λ p c e. absurd (cc (empty p, e));
}

-- What the list by rising id is after a slot changes, and what is found in it, from what stands in the slots.
use Rattle.std.proofs.Common.{◌≡◌, ◌≢◌, ℕ, zero, suc, ◌+◌, ◌<◌, ◌≤◌, ◌⊎◌, ⊎_elim, inl, inr, Bool, true, false, cond, ltb, List, [], ◌∷◌, ◌++◌, length, map, set, Option, Some, None, refl, sym, ap, ◌∙◌, subst, arith}
use Rattle.std.specs.List.{filter, find}
use Rattle.std.proofs.lemmas.Bool.{ltb-true, ltb-false, lt-ltb, le-ltb, false≢true}
use Rattle.asa_conn_table.specs.declared.conn.Conn.{Conn}
use Rattle.asa_conn_table.specs.Slots.{in_order, inserted, slot}

-- the connection stands in the list
abbrev pub Member : Conn → List Conn → Type 0
Member c [] = ⊥
Member c (d ∷ ds) = (c ≡ d) ⊎ Member c ds

-- ids rise
abbrev pub Rising : List Conn → Type 0
Rising [] = Unit {0}
Rising (c ∷ cs) = ((d : Conn) → Member d cs → c.id < d.id) × Rising cs

-- what stands in a slot is one
pub some_is : {c d : Conn} → Some c ≡ Some d → c ≡ d
some_is {c} {d} e = ap (λ (o : Option Conn). value c o) e
  where
    value : Conn → Option Conn → Conn
    value x None = x
    value x (Some y) = y

-- members of a list with one more
pub member_here : (c : Conn) (ds : List Conn) → Member c (inserted c ds)
member_here c [] = inl refl
member_here c (d ∷ ds) = by (ltb c.id d.id) (member_here c ds)
  where
    by : (b : Bool) → Member c (inserted c ds) → Member c (cond b (c ∷ d ∷ ds) (d ∷ inserted c ds))
    by true m = inl refl
    by false m = inr m

pub member_there : (c b : Conn) (ds : List Conn) → Member b ds → Member b (inserted c ds)
member_there c b [] m = absurd m
member_there c b (d ∷ ds) m = by (ltb c.id d.id) m (λ n. member_there c b ds n)
  where
    by : (t : Bool) → Member b (d ∷ ds) → (Member b ds → Member b (inserted c ds)) → Member b (cond t (c ∷ d ∷ ds) (d ∷ inserted c ds))
    by true n deep = inr n
    by false (inl e) deep = inl e
    by false (inr n) deep = inr (deep n)

pub member_from : (c b : Conn) (ds : List Conn) → Member b (inserted c ds) → (b ≡ c) ⊎ Member b ds
member_from c b [] (inl e) = inl e
member_from c b [] (inr m) = absurd m
member_from c b (d ∷ ds) m = by (ltb c.id d.id) m (λ n. member_from c b ds n)
  where
    by : (t : Bool) → Member b (cond t (c ∷ d ∷ ds) (d ∷ inserted c ds)) → (Member b (inserted c ds) → (b ≡ c) ⊎ Member b ds) → (b ≡ c) ⊎ Member b (d ∷ ds)
    by true (inl e) deep = inl e
    by true (inr n) deep = inr n
    by false (inl e) deep = inr (inl e)
    by false (inr n) deep = ⊎_elim (λ e. inl e) (λ k. inr (inr k)) (deep n)

-- what stands in a slot stands in the list, and the other way round
pub member_of : (xs : List (Option Conn)) (p : ℕ) (c : Conn) → slot xs p ≡ Some c → Member c (in_order xs)
member_of [] p c e = absurd (cc)
member_of (None ∷ xs) zero c e = absurd (cc)
member_of (None ∷ xs) (suc p) c e = member_of xs p c e
member_of (Some d ∷ xs) zero c e = subst (λ x. Member x (inserted d (in_order xs))) (some_is e) (member_here d (in_order xs))
member_of (Some d ∷ xs) (suc p) c e = member_there d c (in_order xs) (member_of xs p c e)

pub slot_of : (xs : List (Option Conn)) (c : Conn) → Member c (in_order xs) → (p : ℕ) × (slot xs p ≡ Some c)
slot_of [] c m = absurd m
slot_of (None ∷ xs) c m = let s = slot_of xs c m in (suc s.0, s.1)
slot_of (Some d ∷ xs) c m = by (member_from d c (in_order xs) m) (λ n. slot_of xs c n)
  where
    by : (c ≡ d) ⊎ Member c (in_order xs) → (Member c (in_order xs) → (p : ℕ) × (slot xs p ≡ Some c)) → (p : ℕ) × (slot (Some d ∷ xs) p ≡ Some c)
    by (inl e) deep = (zero, ap Some (sym e))
    by (inr n) deep = (suc (deep n).0, (deep n).1)

-- an insertion keeps the order
pub rising_inserted : (c : Conn) (ds : List Conn) → Rising ds → ((d : Conn) → Member d ds → d.id ≢ c.id) → Rising (inserted c ds)
rising_inserted c [] r apart = (λ d m. absurd m, tt)
rising_inserted c (d ∷ ds) r apart = by (ltb c.id d.id) refl (rising_inserted c ds r.1 (λ b m. apart b (inr m)))
  where
    front : c.id < d.id → (b : Conn) → Member b (d ∷ ds) → c.id < b.id
    front lt b (inl e) = subst (λ (x : Conn). c.id < x.id) (sym e) lt
    front lt b (inr m) = omega (arith, lt, r.0 b m)

    back : d.id < c.id → (b : Conn) → (b ≡ c) ⊎ Member b ds → d.id < b.id
    back lt b (inl e) = subst (λ (x : Conn). d.id < x.id) (sym e) lt
    back lt b (inr m) = r.0 b m

    by : (t : Bool) → ltb c.id d.id ≡ t → Rising (inserted c ds) → Rising (cond t (c ∷ d ∷ ds) (d ∷ inserted c ds))
    by true e deep = (front (ltb-true c.id d.id e), r)
    by false e deep =
        let ne : d.id ≢ c.id = apart d (inl refl) in
        (λ b m. back (omega (arith, ltb-false c.id d.id e, ne)) b (member_from c b ds m), deep)

-- connections in two slots have two ids
abbrev pub HaveIds : List (Option Conn) → Type 0
HaveIds xs = (p q : ℕ) (c d : Conn) → slot xs p ≡ Some c → slot xs q ≡ Some d → p ≢ q → c.id ≢ d.id

pub ids_tail : (o : Option Conn) (xs : List (Option Conn)) → HaveIds (o ∷ xs) → HaveIds xs
ids_tail o xs ids p q c d ep eq ne = ids (suc p) (suc q) c d ep eq (λ e. ne (omega (arith, e)))

pub ids_head : (c : Conn) (xs : List (Option Conn)) → HaveIds (Some c ∷ xs) → (d : Conn) → Member d (in_order xs) → d.id ≢ c.id
ids_head c xs ids d m = let s = slot_of xs d m in ids (suc s.0) zero d c s.1 refl (λ e. absurd (omega (arith, e)))

pub rising_of : (xs : List (Option Conn)) → HaveIds xs → Rising (in_order xs)
rising_of [] ids = tt
rising_of (None ∷ xs) ids = rising_of xs (ids_tail None xs ids)
rising_of (Some c ∷ xs) ids = rising_inserted c (in_order xs) (rising_of xs (ids_tail (Some c) xs ids)) (ids_head c xs ids)

-- the first of a rising list that passes a test is the one with the least id
pub find_least : (t : Conn → Bool) (ys : List Conn) (c : Conn) → Rising ys → Member c ys → t c ≡ true → ((d : Conn) → Member d ys → t d ≡ true → c.id ≤ d.id) → find t ys ≡ Some c
find_least t [] c r m here least = absurd m
find_least t (d ∷ ds) c r m here least = by (t d) refl m (λ n. find_least t ds c r.1 n here (λ b k. least b (inr k)))
  where
    by : (b : Bool) → t d ≡ b → Member c (d ∷ ds) → (Member c ds → find t ds ≡ Some c) → cond b (Some d) (find t ds) ≡ Some c
    by true e (inl same) deep = ap Some (sym same)
    by true e (inr n) deep = absurd (omega (arith, r.0 c n, least d (inl refl) e))
    by false e (inl same) deep = absurd (false≢true (sym e ∙ ap t (sym same) ∙ here))
    by false e (inr n) deep = deep n

pub find_none : (t : Conn → Bool) (ys : List Conn) → ((d : Conn) → Member d ys → t d ≡ false) → find t ys ≡ None
find_none t [] none = refl
find_none t (d ∷ ds) none = ap (λ b. cond b (Some d) (find t ds)) (none d (inl refl)) ∙ find_none t ds (λ b m. none b (inr m))

-- the newest comes last
inserted_last : (c : Conn) (ds : List Conn) → ((d : Conn) → Member d ds → d.id < c.id) → inserted c ds ≡ ds ++ (c ∷ [])
inserted_last c [] newest = refl
inserted_last c (d ∷ ds) newest =
    let lt : d.id < c.id = newest d (inl refl) in
    ap (λ b. cond b (c ∷ d ∷ ds) (d ∷ inserted c ds)) (le-ltb c.id d.id (omega (arith, lt))) ∙ ap (λ zs. d ∷ zs) (inserted_last c ds (λ b m. newest b (inr m)))

inserted_before : (d c : Conn) (ds : List Conn) → d.id < c.id → inserted d (ds ++ (c ∷ [])) ≡ inserted d ds ++ (c ∷ [])
inserted_before d c [] lt = ap (λ b. cond b (d ∷ c ∷ []) (c ∷ d ∷ [])) (lt-ltb d.id c.id lt)
inserted_before d c (b ∷ bs) lt = by (ltb d.id b.id) (inserted_before d c bs lt)
  where
    by : (t : Bool) → inserted d (bs ++ (c ∷ [])) ≡ inserted d bs ++ (c ∷ []) → cond t (d ∷ b ∷ (bs ++ (c ∷ []))) (b ∷ inserted d (bs ++ (c ∷ []))) ≡ cond t (d ∷ b ∷ bs) (b ∷ inserted d bs) ++ (c ∷ [])
    by true e = refl
    by false e = ap (λ zs. b ∷ zs) e

pub order_added : (xs : List (Option Conn)) (p : ℕ) (c : Conn) → p < length xs → slot xs p ≡ None → ((d : Conn) → Member d (in_order xs) → d.id < c.id)
    → in_order (set xs p (Some c)) ≡ in_order xs ++ (c ∷ [])
order_added [] p c within free newest = absurd (omega (arith, within))
order_added (None ∷ xs) zero c within free newest = inserted_last c (in_order xs) newest
order_added (None ∷ xs) (suc p) c within free newest = order_added xs p c (omega (arith, within)) free newest
order_added (Some d ∷ xs) zero c within free newest = absurd (cc)
order_added (Some d ∷ xs) (suc p) c within free newest =
    ap (inserted d) (order_added xs p c (omega (arith, within)) free (λ b m. newest b (member_there d b (in_order xs) m)))
    ∙ inserted_before d c (in_order xs) (newest d (member_here d (in_order xs)))

-- an order of what is left
filter_all : (t : Conn → Bool) (ds : List Conn) → ((d : Conn) → Member d ds → t d ≡ true) → filter t ds ≡ ds
filter_all t [] all = refl
filter_all t (d ∷ ds) all = ap (λ b. cond b (d ∷ filter t ds) (filter t ds)) (all d (inl refl)) ∙ ap (λ zs. d ∷ zs) (filter_all t ds (λ b m. all b (inr m)))

filter_out : (t : Conn → Bool) (c : Conn) (ds : List Conn) → t c ≡ false → filter t (inserted c ds) ≡ filter t ds
filter_out t c [] out = ap (λ b. cond b (c ∷ []) []) out
filter_out t c (d ∷ ds) out = by (ltb c.id d.id) (filter_out t c ds out)
  where
    by : (s : Bool) → filter t (inserted c ds) ≡ filter t ds → filter t (cond s (c ∷ d ∷ ds) (d ∷ inserted c ds)) ≡ filter t (d ∷ ds)
    by true e = ap (λ b. cond b (c ∷ filter t (d ∷ ds)) (filter t (d ∷ ds))) out
    by false e = ap (λ zs. cond (t d) (d ∷ zs) zs) e

inserted_first : (c : Conn) (ds : List Conn) → ((d : Conn) → Member d ds → c.id < d.id) → inserted c ds ≡ c ∷ ds
inserted_first c [] first = refl
inserted_first c (d ∷ ds) first = ap (λ b. cond b (c ∷ d ∷ ds) (d ∷ inserted c ds)) (lt-ltb c.id d.id (first d (inl refl)))

member_filter : (t : Conn → Bool) (c : Conn) (ds : List Conn) → Member c (filter t ds) → Member c ds
member_filter t c [] m = absurd m
member_filter t c (d ∷ ds) m = by (t d) m (λ n. member_filter t c ds n)
  where
    by : (b : Bool) → Member c (cond b (d ∷ filter t ds) (filter t ds)) → (Member c (filter t ds) → Member c ds) → Member c (d ∷ ds)
    by true (inl same) deep = inl same
    by true (inr n) deep = inr (deep n)
    by false n deep = inr (deep n)

filter_in : (t : Conn → Bool) (c : Conn) (ds : List Conn) → t c ≡ true → Rising ds → inserted c (filter t ds) ≡ filter t (inserted c ds)
filter_in t c [] stays r = sym (ap (λ b. cond b (c ∷ []) []) stays)
filter_in t c (d ∷ ds) stays r = by (ltb c.id d.id) refl (t d) refl (filter_in t c ds stays r.1)
  where
    low : c.id < d.id → (b : Conn) → Member b (d ∷ ds) → c.id < b.id
    low lt b (inl e) = subst (λ (x : Conn). c.id < x.id) (sym e) lt
    low lt b (inr m) = omega (arith, lt, r.0 b m)

    by : (s : Bool) → ltb c.id d.id ≡ s → (u : Bool) → t d ≡ u → inserted c (filter t ds) ≡ filter t (inserted c ds) → inserted c (cond u (d ∷ filter t ds) (filter t ds)) ≡ filter t (cond s (c ∷ d ∷ ds) (d ∷ inserted c ds))
    by true e u f deep =
        inserted_first c (cond u (d ∷ filter t ds) (filter t ds)) (λ b m. low (ltb-true c.id d.id e) b (member_filter t b (d ∷ ds) (subst (λ k. Member b (cond k (d ∷ filter t ds) (filter t ds))) (sym f) m)))
        ∙ ap (λ k. c ∷ cond k (d ∷ filter t ds) (filter t ds)) (sym f)
        ∙ sym (ap (λ b. cond b (c ∷ filter t (d ∷ ds)) (filter t (d ∷ ds))) stays)
    by false e true f deep =
        ap (λ b. cond b (c ∷ d ∷ filter t ds) (d ∷ inserted c (filter t ds))) e
        ∙ ap (λ zs. d ∷ zs) deep
        ∙ ap (λ b. cond b (d ∷ filter t (inserted c ds)) (filter t (inserted c ds))) (sym f)
    by false e false f deep = deep ∙ ap (λ b. cond b (d ∷ filter t (inserted c ds)) (filter t (inserted c ds))) (sym f)

pub order_removed : (t : Conn → Bool) (xs : List (Option Conn)) (p : ℕ) (c : Conn) → HaveIds xs → slot xs p ≡ Some c → t c ≡ false → ((q : ℕ) (d : Conn) → q ≢ p → slot xs q ≡ Some d → t d ≡ true)
    → in_order (set xs p None) ≡ filter t (in_order xs)
order_removed t [] p c ids here out others = absurd (cc)
order_removed t (None ∷ xs) zero c ids here out others = absurd (cc)
order_removed t (None ∷ xs) (suc p) c ids here out others =
    order_removed t xs p c (ids_tail None xs ids) here out (λ q d ne e. others (suc q) d (λ k. ne (omega (arith, k))) e)
order_removed t (Some d ∷ xs) zero c ids here out others =
    sym (filter_out t d (in_order xs) (ap t (some_is here) ∙ out)
    ∙ filter_all t (in_order xs) (λ b m. let s = slot_of xs b m in others (suc s.0) b (λ k. absurd (omega (arith, k))) s.1))
order_removed t (Some d ∷ xs) (suc p) c ids here out others =
    ap (inserted d) (order_removed t xs p c (ids_tail (Some d) xs ids) here out (λ q b ne e. others (suc q) b (λ k. ne (omega (arith, k))) e))
    ∙ filter_in t d (in_order xs) (others zero d (λ k. absurd (omega (arith, k))) refl) (rising_of xs (ids_tail (Some d) xs ids))

-- one connection changes, and no id
map_all : (g : Conn → Conn) (ds : List Conn) → ((d : Conn) → Member d ds → g d ≡ d) → map g ds ≡ ds
map_all g [] same = refl
map_all g (d ∷ ds) same = ap (λ x. x ∷ map g ds) (same d (inl refl)) ∙ ap (λ zs. d ∷ zs) (map_all g ds (λ b m. same b (inr m)))

map_inserted : (g : Conn → Conn) → ((d : Conn) → (g d).id ≡ d.id) → (c : Conn) (ds : List Conn) → map g (inserted c ds) ≡ inserted (g c) (map g ds)
map_inserted g ids c [] = refl
map_inserted g ids c (d ∷ ds) =
    by (ltb c.id d.id) (map_inserted g ids c ds)
    ∙ ap (λ k. cond k (g c ∷ g d ∷ map g ds) (g d ∷ inserted (g c) (map g ds))) (ap (λ n. ltb n d.id) (sym (ids c)) ∙ ap (λ n. ltb (g c).id n) (sym (ids d)))
  where
    by : (t : Bool) → map g (inserted c ds) ≡ inserted (g c) (map g ds) → map g (cond t (c ∷ d ∷ ds) (d ∷ inserted c ds)) ≡ cond t (g c ∷ g d ∷ map g ds) (g d ∷ inserted (g c) (map g ds))
    by true e = refl
    by false e = ap (λ zs. g d ∷ zs) e

pub order_changed : (g : Conn → Conn) → ((d : Conn) → (g d).id ≡ d.id) → (xs : List (Option Conn)) (p : ℕ) (c : Conn) → slot xs p ≡ Some c → ((q : ℕ) (d : Conn) → q ≢ p → slot xs q ≡ Some d → g d ≡ d)
    → in_order (set xs p (Some (g c))) ≡ map g (in_order xs)
order_changed g ids [] p c here others = absurd (cc)
order_changed g ids (None ∷ xs) zero c here others = absurd (cc)
order_changed g ids (None ∷ xs) (suc p) c here others = order_changed g ids xs p c here (λ q d ne e. others (suc q) d (λ k. ne (omega (arith, k))) e)
order_changed g ids (Some d ∷ xs) zero c here others =
    ap (λ x. inserted (g x) (in_order xs)) (sym (some_is here))
    ∙ ap (inserted (g d)) (sym (map_all g (in_order xs) (λ b m. let s = slot_of xs b m in others (suc s.0) b (λ k. absurd (omega (arith, k))) s.1)))
    ∙ sym (map_inserted g ids d (in_order xs))
order_changed g ids (Some d ∷ xs) (suc p) c here others =
    ap (inserted d) (order_changed g ids xs p c here (λ q b ne e. others (suc q) b (λ k. ne (omega (arith, k))) e))
    ∙ ap (λ x. inserted x (map g (in_order xs))) (sym (others zero d (λ k. absurd (omega (arith, k))) refl))
    ∙ sym (map_inserted g ids d (in_order xs))

pub map_none : (g : Conn → Conn) (xs : List (Option Conn)) → ((q : ℕ) (d : Conn) → slot xs q ≡ Some d → g d ≡ d) → map g (in_order xs) ≡ in_order xs
map_none g xs same = map_all g (in_order xs) (λ b m. let s = slot_of xs b m in same s.0 b s.1)

pub filter_none : (t : Conn → Bool) (xs : List (Option Conn)) → ((q : ℕ) (d : Conn) → slot xs q ≡ Some d → t d ≡ true) → filter t (in_order xs) ≡ in_order xs
filter_none t xs all = filter_all t (in_order xs) (λ b m. let s = slot_of xs b m in all s.0 b s.1)

-- how many stand in slots
inserted_length : (c : Conn) (ds : List Conn) → length (inserted c ds) ≡ length ds + 1
inserted_length c [] = refl
inserted_length c (d ∷ ds) = by (ltb c.id d.id) (inserted_length c ds)
  where
    by : (t : Bool) → length (inserted c ds) ≡ length ds + 1 → length (cond t (c ∷ d ∷ ds) (d ∷ inserted c ds)) ≡ length (d ∷ ds) + 1
    by true e = omega arith
    by false e = omega (arith, e)

pub length_removed : (xs : List (Option Conn)) (p : ℕ) (c : Conn) → slot xs p ≡ Some c → length (in_order (set xs p None)) + 1 ≡ length (in_order xs)
length_removed [] p c here = absurd (cc)
length_removed (None ∷ xs) zero c here = absurd (cc)
length_removed (None ∷ xs) (suc p) c here = length_removed xs p c here
length_removed (Some d ∷ xs) zero c here = sym (inserted_length d (in_order xs))
length_removed (Some d ∷ xs) (suc p) c here = omega (arith, inserted_length d (in_order (set xs p None)), inserted_length d (in_order xs), length_removed xs p c here)

-- nothing stands in free slots
pub order_empty : (xs : List (Option Conn)) → ((p : ℕ) → slot xs p ≡ None) → in_order xs ≡ []
order_empty [] empty = refl
order_empty (None ∷ xs) empty = order_empty xs (λ p. empty (suc p))
order_empty (Some c ∷ xs) empty = absurd (cc (empty zero))

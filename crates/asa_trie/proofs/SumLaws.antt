-- Joined values of a list, of its parts and of the items that cover an address.
use Rattle.std.proofs.Common.{◌≡◌, ℕ, zero, suc, ◌+◌, ◌/◌, ◌^◌, ◌<◌, Bool, true, false, cond, not, ◌&&◌, eqb, List, [], ◌∷◌, length, get_or, set, All, refl, sym, ap, ◌∙◌, arith}
use Rattle.std.specs.Prelude.{filter}
use Rattle.std.specs.List.{swap}
use Rattle.std.specs.List.Sorted.{IsPermutation}
use Rattle.std.proofs.lemmas.List.Sorted.{IsPermutation-keeps}
use Rattle.std.proofs.lemmas.Bool.{true≢false}
use Rattle.asa_base.specs.Networks.{Network}
use Rattle.asa_trie.specs.Bits.{covers_number, bit_below, is_here, is_low, is_high, IsWithin}
use Rattle.asa_trie.specs.Tries.{Joining, Laws, sum_over, total}
use Rattle.asa_trie.proofs.BlockLaws.{inside_at, here_covers, half_covers, outside_covers}

pub unit_right : {M : Type 0} (j : Joining M) → Laws j → (a : M) → j.op a j.unit ≡ a
unit_right j l a = l.comm a j.unit ∙ l.unit_left a

-- two joined pairs, joined the other way
pub join_pairs : {M : Type 0} (j : Joining M) → Laws j → (a b c d : M) → j.op (j.op a b) (j.op c d) ≡ j.op (j.op a c) (j.op b d)
join_pairs j l a b c d =
    l.assoc a b (j.op c d) ∙ ap (λ x. j.op a x) (sym (l.assoc b c d) ∙ ap (λ x. j.op x d) (l.comm b c) ∙ l.assoc c b d) ∙ sym (l.assoc a c (j.op b d))

-- two values before a third, the other way round
turn : {M : Type 0} (j : Joining M) → Laws j → (a b c : M) → j.op a (j.op b c) ≡ j.op b (j.op a c)
turn j l a b c = sym (l.assoc a b c) ∙ ap (λ x. j.op x c) (l.comm a b) ∙ l.assoc b a c

-- what passes a test, joined, is everything joined with the unit where the test fails
pub sum_filter : {T M : Type 0} (j : Joining M) → Laws j → (p : T → Bool) (v : T → M) (xs : List T)
    → sum_over j v (filter p xs) ≡ sum_over j (λ x. cond (p x) (v x) j.unit) xs
sum_filter j l p v [] = refl
sum_filter {T} {M} j l p v (x ∷ xs) = step (p x) (filter p xs) (sum_filter j l p v xs)
  where
    step : (b : Bool) (ys : List T) → sum_over j v ys ≡ sum_over j (λ x. cond (p x) (v x) j.unit) xs
        → sum_over j v (cond b (x ∷ ys) ys) ≡ j.op (cond b (v x) j.unit) (sum_over j (λ x. cond (p x) (v x) j.unit) xs)
    step true ys e = ap (λ s. j.op (v x) s) e
    step false ys e = e ∙ sym (l.unit_left _)

-- joined values of joined values
sum_both : {T M : Type 0} (j : Joining M) → Laws j → (v w : T → M) (xs : List T)
    → sum_over j (λ x. j.op (v x) (w x)) xs ≡ j.op (sum_over j v xs) (sum_over j w xs)
sum_both j l v w [] = sym (l.unit_left j.unit)
sum_both j l v w (x ∷ xs) = ap (λ s. j.op (j.op (v x) (w x)) s) (sum_both j l v w xs) ∙ join_pairs j l (v x) (w x) (sum_over j v xs) (sum_over j w xs)

-- values that are equal at each item of the list
pub sum_same : {T M : Type 0} (j : Joining M) (v w : T → M) (xs : List T) → All (λ x. v x ≡ w x) xs → sum_over j v xs ≡ sum_over j w xs
sum_same j v w [] all = refl
sum_same j v w (x ∷ xs) all =
    ap (λ a. j.op a (sum_over j v xs)) (all 0 x (omega arith)) ∙ ap (λ s. j.op (w x) s) (sum_same j v w xs (λ k d less. all (suc k) d (omega arith)))

-- nothing but units
pub sum_units : {T M : Type 0} (j : Joining M) → Laws j → (xs : List T) → sum_over j (λ x. j.unit) xs ≡ j.unit
sum_units j l [] = refl
sum_units j l (x ∷ xs) = l.unit_left _ ∙ sum_units j l xs

-- the value of one item: as the block itself, or in its half
part : {M : Type 0} (j : Joining M) → Laws j → (here bit bit_a cov : Bool) (v : M)
    → (here ≡ true → cov ≡ true) → (here ≡ false → cov ≡ true → bit ≡ bit_a)
    → cond cov v j.unit ≡ j.op (cond here v j.unit)
    (cond bit_a (cond (not here && bit) (cond cov v j.unit) j.unit) (cond (not here && not bit) (cond cov v j.unit) j.unit))
part j l true bit true true v hc hb = sym (unit_right j l v)
part j l true bit false true v hc hb = sym (unit_right j l v)
part j l true bit bit_a false v hc hb = absurd (true≢false (sym (hc refl)))
part j l false true true cov v hc hb = sym (l.unit_left _)
part j l false false false cov v hc hb = sym (l.unit_left _)
part j l false true false false v hc hb = sym (l.unit_left _)
part j l false true false true v hc hb = absurd (true≢false (hb refl refl))
part j l false false true false v hc hb = sym (l.unit_left _)
part j l false false true true v hc hb = absurd (true≢false (sym (hb refl refl)))

-- a block's total at one of its addresses: the block's own items, and the total of the address's half
pub split : {T M : Type 0} (j : Joining M) → Laws j → (pre : T → Network) (v : T → M) (levels level home a : ℕ) (xs : List T)
    → levels ≡ level + 1 → All (λ x. IsWithin levels home (pre x)) xs → home / 2 ^ level ≡ a / 2 ^ level
    → total j pre v xs a ≡ j.op (sum_over j v (filter (λ x. is_here level (pre x)) xs))
    (cond (bit_below level a) (total j pre v (filter (λ x. is_high level (pre x)) xs) a) (total j pre v (filter (λ x. is_low level (pre x)) xs) a))
split {T} {M} j l pre v levels level home a xs e all block =
    sum_same j value (λ x. j.op (at_here x) (in_half x)) xs each
    ∙ sum_both j l at_here in_half xs
    ∙ ap (λ s. j.op s (sum_over j in_half xs)) (sym (sum_filter j l (λ x. is_here level (pre x)) v xs))
    ∙ ap (λ s. j.op (sum_over j v (filter (λ x. is_here level (pre x)) xs)) s) (of_half (bit_below level a))
  where
    value : T → M
    value x = cond (covers_number (pre x) a) (v x) j.unit

    at_here : T → M
    at_here x = cond (is_here level (pre x)) (v x) j.unit

    in_half : T → M
    in_half x = cond (bit_below level a) (cond (is_high level (pre x)) (value x) j.unit) (cond (is_low level (pre x)) (value x) j.unit)

    each : All (λ x. value x ≡ j.op (at_here x) (in_half x)) xs
    each k d less =
        let x : T = get_or xs k d in
        let w = inside_at levels level home (pre x) e (all k d less) in
        part j l (is_here level (pre x)) (bit_below level (pre x).addr.0) (bit_below level a) (covers_number (pre x) a) (v x)
        (λ here. here_covers level home a (pre x) w.1 here (sym block)) (λ here cov. half_covers level home a (pre x) w.0 here cov)

    of_half : (b : Bool) → sum_over j (λ x. cond b (cond (is_high level (pre x)) (value x) j.unit) (cond (is_low level (pre x)) (value x) j.unit)) xs
        ≡ cond b (total j pre v (filter (λ x. is_high level (pre x)) xs) a) (total j pre v (filter (λ x. is_low level (pre x)) xs) a)
    of_half true = sym (sum_filter j l (λ x. is_high level (pre x)) value xs)
    of_half false = sym (sum_filter j l (λ x. is_low level (pre x)) value xs)

-- at an address outside a block its total is the unit
pub outside : {T M : Type 0} (j : Joining M) → Laws j → (pre : T → Network) (v : T → M) (levels level home a : ℕ) (xs : List T)
    → levels ≡ level + 1 → All (λ x. IsWithin levels home (pre x)) xs → eqb (home / 2 ^ level) (a / 2 ^ level) ≡ false
    → total j pre v xs a ≡ j.unit
outside {T} {M} j l pre v levels level home a xs e all out = sum_same j (λ x. cond (covers_number (pre x) a) (v x) j.unit) (λ x. j.unit) xs each ∙ sum_units j l xs
  where
    each : All (λ x. cond (covers_number (pre x) a) (v x) j.unit ≡ j.unit) xs
    each k d less =
        let x : T = get_or xs k d in
        let w = inside_at levels level home (pre x) e (all k d less) in
        rw (outside_covers level home a (pre x) w.0 w.1 out) refl

-- an item at the front and one further on change places
exchange : {T M : Type 0} (j : Joining M) → Laws j → (v : T → M) (xs : List T) (i : ℕ) (a d : T) → i < length xs
    → j.op (v (get_or xs i d)) (sum_over j v (set xs i a)) ≡ j.op (v a) (sum_over j v xs)
exchange j l v [] i a d less = absurd (omega arith)
exchange j l v (b ∷ xs) zero a d less = turn j l (v b) (v a) (sum_over j v xs)
exchange j l v (b ∷ xs) (suc i) a d less =
    turn j l (v (get_or xs i d)) (v b) (sum_over j v (set xs i a))
    ∙ ap (λ s. j.op (v b) s) (exchange j l v xs i a d (omega arith))
    ∙ turn j l (v b) (v a) (sum_over j v xs)

exchanged : {T M : Type 0} (j : Joining M) → Laws j → (v : T → M) (d : T) (xs : List T) (i k : ℕ) → i < length xs → k < length xs
    → sum_over j v (set (set xs i (get_or xs k d)) k (get_or xs i d)) ≡ sum_over j v xs
exchanged j l v d [] i k less more = absurd (omega arith)
exchanged j l v d (a ∷ xs) zero zero less more = refl
exchanged j l v d (a ∷ xs) zero (suc k) less more = exchange j l v xs k a d (omega arith)
exchanged j l v d (a ∷ xs) (suc i) zero less more = exchange j l v xs i a d (omega arith)
exchanged j l v d (a ∷ xs) (suc i) (suc k) less more = ap (λ s. j.op (v a) s) (exchanged j l v d xs i k (omega arith) (omega arith))

-- the order of a list doesn't matter
pub sum_permutation : {T M : Type 0} (j : Joining M) → Laws j → (v : T → M) (xs ys : List T) → IsPermutation xs ys → sum_over j v ys ≡ sum_over j v xs
sum_permutation {T} {M} j l v xs ys h = IsPermutation-keeps xs (λ zs. sum_over j v zs ≡ sum_over j v xs) refl step ys h
  where
    step : (zs : List T) (i k : ℕ) → i < length zs → k < length zs → sum_over j v zs ≡ sum_over j v xs → sum_over j v (swap zs i k) ≡ sum_over j v xs
    step [] i k less more e = absurd (omega arith)
    step (d ∷ zs) i k less more e = exchanged j l v d (d ∷ zs) i k less more ∙ e

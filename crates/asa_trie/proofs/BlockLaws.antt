-- Blocks of addresses and their halves.
use Rattle.std.proofs.Common.{◌≡◌, ℕ, suc, ◌+◌, ◌-◌, ◌*◌, ◌/◌, ◌%◌, ◌^◌, ◌<◌, ◌≤◌, inl, inr, Bool, true, false, cond, not, ◌&&◌, eqb, List, [], ◌∷◌, length, get_or, All, refl, sym, ap, subst, ◌∙◌, arith, eq-eqb, add-zero}
use Rattle.std.specs.Prelude.{filter}
use Rattle.std.specs.List.{list_all}
use Rattle.std.proofs.lemmas.Bool.{eqb-true, eqb-false, and_from, and_parts, le-leb, false_from_ne_true, not-true, true≢false, or_cases}
use Rattle.std.proofs.lemmas.Bool.Decides.{nat_tests}
use Rattle.std.proofs.lemmas.Nat.{shr-shr, pow_pos, mod-mul-add}
use Rattle.std.proofs.lemmas.List.Elements.{All-nil, All-filter, filter_passes}
use Rattle.asa_base.specs.Networks.{Network, is_prefix}
use Rattle.asa_trie.specs.Bits.{height, covers_number, bit_below, is_here, is_low, is_high, home_of, one_half, IsWithin}

-- an address without its low bits begins a prefix
pub block_is_prefix : (a level q : ℕ) → a < 2 ^ 32 → level ≤ 32 → q ≡ a / 2 ^ level → is_prefix (q * 2 ^ level % 18446744073709551616) (32 - level) ≡ true
block_is_prefix a level q small most e =
    let at : 32 - (32 - level) ≡ level = omega arith in
    let pos : 0 < 2 ^ level = pow_pos level in
    let fits : q * 2 ^ level ≤ a = rw e (omega arith) in
    let whole : q * 2 ^ level % 18446744073709551616 ≡ q * 2 ^ level = omega arith in
    let none : q * 2 ^ level % 2 ^ level ≡ 0 = rw add-zero at (mod-mul-add q (2 ^ level) 0 pos) in
    rw (whole, at) (and_from _ _ (le-leb (32 - level) 32 (omega arith)) (eq-eqb _ 0 none))

-- addresses in one block are in one block of each higher level
pub same_above : (k m a b : ℕ) → k ≤ m → a / 2 ^ k ≡ b / 2 ^ k → a / 2 ^ m ≡ b / 2 ^ m
same_above k m a b le e =
    let at : k + (m - k) ≡ m = omega arith in
    rw at at (sym (shr-shr a k (m - k)) ∙ ap (λ x. x / 2 ^ (m - k)) e ∙ shr-shr b k (m - k))

-- addresses in one block and in the same half of it are in one block of the next lower level
pub same_half : (level a b : ℕ) → 1 ≤ level → a / 2 ^ level ≡ b / 2 ^ level → bit_below level a ≡ bit_below level b → a / 2 ^ (level - 1) ≡ b / 2 ^ (level - 1)
same_half level a b some e bits =
    let at : (level - 1) + 1 ≡ level = omega arith in
    let ea : a / 2 ^ (level - 1) / 2 ≡ a / 2 ^ level = rw at at (shr-shr a (level - 1) 1) in
    let eb : b / 2 ^ (level - 1) / 2 ≡ b / 2 ^ level = rw at at (shr-shr b (level - 1) 1) in
    halves (a / 2 ^ (level - 1)) (b / 2 ^ (level - 1)) (ea ∙ e ∙ sym eb) bits
  where
    halves : (x y : ℕ) → x / 2 ≡ y / 2 → eqb (x % 2) 1 ≡ eqb (y % 2) 1 → x ≡ y
    halves x y q bits = grind (arith, nat_tests)

-- a prefix that lies within a block covers the addresses of the block where it is the block itself
pub here_covers : (level home a : ℕ) (p : Network) → p.addr.0 / 2 ^ level ≡ home / 2 ^ level → is_here level p ≡ true → a / 2 ^ level ≡ home / 2 ^ level → covers_number p a ≡ true
here_covers level home a p e here ea =
    let h : height p ≡ level = eqb-true (height p) level here in
    rw h (eq-eqb _ _ (e ∙ sym ea))

-- one that is less than the block covers only addresses of its own half
pub half_covers : (level home a : ℕ) (p : Network) → height p < level + 1 → is_here level p ≡ false → covers_number p a ≡ true → bit_below level p.addr.0 ≡ bit_below level a
half_covers level home a p below here cov =
    let ne : height p ≡ level → _ = eqb-false (height p) level here in
    let e : p.addr.0 / 2 ^ (level - 1) ≡ a / 2 ^ (level - 1) = same_above (height p) (level - 1) p.addr.0 a (omega arith) (eqb-true _ _ cov) in
    ap (λ x. eqb (x % 2) 1) e

-- one that lies within a block covers no address outside
pub outside_covers : (level home a : ℕ) (p : Network) → height p < level + 1 → p.addr.0 / 2 ^ level ≡ home / 2 ^ level → eqb (home / 2 ^ level) (a / 2 ^ level) ≡ false → covers_number p a ≡ false
outside_covers level home a p below e out =
    false_from_ne_true (covers_number p a) (λ cov. eqb-false _ _ out (sym e ∙ same_above (height p) level p.addr.0 a (omega arith) (eqb-true _ _ cov)))

-- what lies within a block of a higher number of levels, at the block's own level
pub inside_at : (levels level home : ℕ) (p : Network) → levels ≡ level + 1 → IsWithin levels home p → (height p < level + 1) × (p.addr.0 / 2 ^ level ≡ home / 2 ^ level)
inside_at levels level home p e w =
    let at : levels - 1 ≡ level = omega arith in
    (omega (arith, w.below), rw at at w.inside)

-- one that lies in the same half as the home lies within that half
half_within : (level home : ℕ) (p q : Network) → height p < level + 1 → height q < level + 1 → is_here level p ≡ false → is_here level q ≡ false
    → p.addr.0 / 2 ^ level ≡ home / 2 ^ level → q.addr.0 / 2 ^ level ≡ home / 2 ^ level → bit_below level p.addr.0 ≡ bit_below level q.addr.0 → IsWithin level q.addr.0 p
half_within level home p q bp bq hp hq ep eq bits =
    let np : height p ≡ level → ⊥ = eqb-false (height p) level hp in
    let less : height p < level = omega arith in
    let some : 1 ≤ level = omega arith in
    record { below = less; inside = same_half level p.addr.0 q.addr.0 some (ep ∙ sym eq) bits }

-- the facts of a half's items, with the home of the half
half_items : {T : Type 0} (pre : T → Network) (half : T → Bool) (levels level : ℕ) (items : List T) (b : Bool) → levels ≡ level + 1
    → ((x : T) → half x ≡ true → (is_here level (pre x) ≡ false) × (bit_below level (pre x).addr.0 ≡ b))
    → All (λ x. IsWithin levels (home_of pre items) (pre x)) items
    → All (λ x. IsWithin level (home_of pre (filter half items)) (pre x)) (filter half items)
half_items {T} pre half levels level items b e tells all =
    against (filter half items) (All-filter half (λ x. IsWithin levels (home_of pre items) (pre x)) items all) (filter_passes half items)
  where
    against : (ys : List T) → All (λ x. IsWithin levels (home_of pre items) (pre x)) ys → All (λ x. half x ≡ true) ys → All (λ x. IsWithin level (home_of pre ys) (pre x)) ys
    against [] within pass = All-nil (λ x. IsWithin level 0 (pre x))
    against (y ∷ ys) within pass = λ k d less.
        let x : T = get_or (y ∷ ys) k d in
        let wx = inside_at levels level (home_of pre items) (pre x) e (within k d less) in
        let wy = inside_at levels level (home_of pre items) (pre y) e (within 0 d (omega arith)) in
        let tx = tells x (pass k d less) in
        let ty = tells y (pass 0 d (omega arith)) in
        half_within level (home_of pre items) (pre x) (pre y) wx.0 wy.0 tx.0 ty.0 wx.1 wy.1 (tx.1 ∙ sym ty.1)

pub lows_within : {T : Type 0} (pre : T → Network) (levels level : ℕ) (items : List T) → levels ≡ level + 1
    → All (λ x. IsWithin levels (home_of pre items) (pre x)) items
    → All (λ x. IsWithin level (home_of pre (filter (λ x. is_low level (pre x)) items)) (pre x)) (filter (λ x. is_low level (pre x)) items)
lows_within pre levels level items e all = half_items pre (λ x. is_low level (pre x)) levels level items false e
    (λ x low. (not-true _ (and_parts _ _ low).0, not-true _ (and_parts _ _ low).1)) all

pub highs_within : {T : Type 0} (pre : T → Network) (levels level : ℕ) (items : List T) → levels ≡ level + 1
    → All (λ x. IsWithin levels (home_of pre items) (pre x)) items
    → All (λ x. IsWithin level (home_of pre (filter (λ x. is_high level (pre x)) items)) (pre x)) (filter (λ x. is_high level (pre x)) items)
highs_within pre levels level items e all = half_items pre (λ x. is_high level (pre x)) levels level items true e
    (λ x high. (not-true _ (and_parts _ _ high).0, (and_parts _ _ high).1)) all

-- no more pass a test than there are
filter_most : {T : Type 0} (p : T → Bool) (xs : List T) → length (filter p xs) ≤ length xs
filter_most p [] = omega arith
filter_most p (x ∷ xs) = most (p x) x (filter p xs) xs (filter_most p xs)
  where
    most : {T : Type 0} (b : Bool) (x : T) (ys xs : List T) → length ys ≤ length xs → length (cond b (x ∷ ys) ys) ≤ length (x ∷ xs)
    most true x ys xs h = omega arith
    most false x ys xs h = omega arith

-- a test that each item passes keeps the list, and one that some item fails makes it shorter
pub filter_whole : {T : Type 0} (p : T → Bool) (xs : List T) → list_all p xs ≡ true → filter p xs ≡ xs
filter_whole p [] h = refl
filter_whole p (x ∷ xs) h =
    let parts : (p x ≡ true) × (list_all p xs ≡ true) = and_parts _ _ h in
    rw parts.0 (ap (λ ys. x ∷ ys) (filter_whole p xs parts.1))

pub filter_shorter : {T : Type 0} (p : T → Bool) (xs : List T) → list_all p xs ≡ false → length (filter p xs) < length xs
filter_shorter p [] h = absurd (true≢false h)
filter_shorter p (x ∷ xs) h = shorter (p x) (list_all p xs) x (filter p xs) xs (filter_shorter p xs) (filter_most p xs) h
  where
    shorter : {T : Type 0} (b r : Bool) (x : T) (ys xs : List T) → (r ≡ false → length ys < length xs) → length ys ≤ length xs → (b && r) ≡ false → length (cond b (x ∷ ys) ys) < length (x ∷ xs)
    shorter true r x ys xs more most h = let less : length ys < length xs = more h in omega arith
    shorter false r x ys xs more most h = omega arith

-- the parts of a block have as many items together as the block
pub parts_length : {T : Type 0} (pre : T → Network) (level : ℕ) (xs : List T)
    → length (filter (λ x. is_here level (pre x)) xs) + length (filter (λ x. is_low level (pre x)) xs) + length (filter (λ x. is_high level (pre x)) xs) ≡ length xs
parts_length pre level [] = refl
parts_length pre level (x ∷ xs) = one_more (is_here level (pre x)) (bit_below level (pre x).addr.0) x
    (filter (λ x. is_here level (pre x)) xs) (filter (λ x. is_low level (pre x)) xs) (filter (λ x. is_high level (pre x)) xs) (length xs) (parts_length pre level xs)
  where
    one_more : {T : Type 0} (h b : Bool) (x : T) (heres lows highs : List T) (n : ℕ) → length heres + length lows + length highs ≡ n
        → length (cond h (x ∷ heres) heres) + length (cond (not h && not b) (x ∷ lows) lows) + length (cond (not h && b) (x ∷ highs) highs) ≡ suc n
    one_more true b x heres lows highs n e = omega arith
    one_more false true x heres lows highs n e = omega arith
    one_more false false x heres lows highs n e = omega arith

-- items that all lie in one half of their block lie within that half
pub half_passed : {T : Type 0} (pre : T → Network) (levels level : ℕ) (items : List T) → levels ≡ level + 1 → one_half pre level items ≡ true
    → All (λ x. IsWithin levels (home_of pre items) (pre x)) items → All (λ x. IsWithin level (home_of pre items) (pre x)) items
half_passed {T} pre levels level items e half all = elim (or_cases _ _ half) [
  | inl low ↦ subst (λ ys. All (λ x. IsWithin level (home_of pre ys) (pre x)) ys) (filter_whole (λ x. is_low level (pre x)) items low) (lows_within pre levels level items e all)
  | inr high ↦ subst (λ ys. All (λ x. IsWithin level (home_of pre ys) (pre x)) ys) (filter_whole (λ x. is_high level (pre x)) items high) (highs_within pre levels level items e all)
]

-- all addresses are one block of level 32
pub whole_block : {T : Type 0} (pre : T → Network) (items : List T) → All (λ x. (pre x).addr.0 < 2 ^ 32) items → All (λ x. IsWithin 33 (home_of pre items) (pre x)) items
whole_block pre [] small = All-nil (λ x. IsWithin 33 0 (pre x))
whole_block pre (y ∷ ys) small = λ k d less.
    let sx : (pre (get_or (y ∷ ys) k d)).addr.0 < 2 ^ 32 = small k d less in
    let sy : (pre y).addr.0 < 2 ^ 32 = small 0 d (omega arith) in
    record { below = omega arith; inside = omega arith }

-- a block with an item has a level
pub some_level : {T : Type 0} (pre : T → Network) (levels : ℕ) (items : List T) → 0 < length items → All (λ x. IsWithin levels (home_of pre items) (pre x)) items → levels ≡ (levels - 1) + 1
some_level pre levels [] some all = absurd (omega arith)
some_level pre levels (x ∷ items) some all = omega (arith, (all 0 x (omega arith)).below)

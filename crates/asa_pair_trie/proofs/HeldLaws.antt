-- What slots hold: the entries that were added to them, in some order.
use Rattle.std.proofs.Common.{◌≡◌, ℕ, ◌+◌, Bool, true, false, cond, not, ◌&&◌, List, [], ◌∷◌, ◌++◌, length, sym, ap, subst, ◌∙◌, arith, length-append, append_assoc, append-nil}
use Rattle.std.proofs.lemmas.List.{length-map, map-append}
use Rattle.std.specs.Prelude.{filter}
use Rattle.std.specs.List.Sorted.{IsPermutation}
use Rattle.std.proofs.lemmas.List.Sorted.{length_permutation, IsPermutation-refl, IsPermutation-sym, IsPermutation-trans, IsPermutation-cons, IsPermutation-middle, IsPermutation-to_front, IsPermutation-append_left, IsPermutation-append_right}
use Rattle.asa_base.specs.Networks.{Network}
use Rattle.asa_trie.specs.Bits.{bit_below, is_here, is_low, is_high}
use Rattle.asa_pair_trie.specs.declared.entries.Entry.{Entry}
use Rattle.asa_pair_trie.specs.declared.arenas.Slot.{Slot}
use Rattle.asa_pair_trie.specs.Lookup.{entries_in}
use Rattle.asa_pair_trie.specs.Growth.{Added}

entries_length : (slots : List Slot) → length (entries_in slots) ≡ length slots
entries_length slots = length-map slots (λ s. s.entry)

entries_push : (slots : List Slot) (s : Slot) → entries_in (slots ++ s ∷ []) ≡ entries_in slots ++ s.entry ∷ []
entries_push slots s = map-append (λ x. x.entry) slots (s ∷ [])

-- nothing was added
pub added_none : (slots : List Slot) (es : List Entry) → length es ≡ 0 → Added slots slots es
added_none slots [] none = subst (λ xs. IsPermutation xs (entries_in slots)) (sym (append-nil (entries_in slots))) (IsPermutation-refl (entries_in slots))
added_none slots (e ∷ es) none = absurd (omega arith)

-- there are as many slots more as entries were added
pub added_count : (old new : List Slot) (es : List Entry) → Added old new es → length new ≡ length old + length es
added_count old new es h =
    omega (arith, length_permutation (entries_in old ++ es) (entries_in new) h, length-append (entries_in old) es, entries_length old, entries_length new)

-- the same entries in another order were added
pub added_ordered : (old new : List Slot) (es ordered : List Entry) → IsPermutation es ordered → Added old new ordered → Added old new es
added_ordered old new es ordered same h =
    IsPermutation-trans (entries_in old ++ es) (entries_in old ++ ordered) (entries_in new) (IsPermutation-append_right (entries_in old) es ordered same) h

-- one slot more holds one entry more
pub added_push : (old slots new : List Slot) (s : Slot) (es : List Entry) → new ≡ slots ++ s ∷ [] → Added old slots es → Added old new (s.entry ∷ es)
added_push old slots new s es pushed h =
    subst (λ xs. IsPermutation (entries_in old ++ s.entry ∷ es) xs) (sym (ap entries_in pushed ∙ entries_push slots s))
    (IsPermutation-trans _ _ _ (IsPermutation-middle (entries_in old) s.entry es)
    (IsPermutation-trans _ _ _ (IsPermutation-cons s.entry (entries_in old ++ es) (entries_in slots) h) (IsPermutation-sym _ _ (IsPermutation-to_front (entries_in slots) s.entry))))

-- entries were added after others
pub added_next : (s0 s1 s2 : List Slot) (xs ys : List Entry) → Added s0 s1 xs → Added s1 s2 ys → Added s0 s2 (xs ++ ys)
added_next s0 s1 s2 xs ys f g =
    subst (λ zs. IsPermutation zs (entries_in s2)) (append_assoc (entries_in s0) xs ys)
    (IsPermutation-trans _ _ _ (IsPermutation-append_left ys (entries_in s0 ++ xs) (entries_in s1) f) g)

-- the parts of a block have just the block's items
parts_permutation : {T : Type 0} (pre : T → Network) (level : ℕ) (xs : List T)
    → IsPermutation xs (filter (λ x. is_low level (pre x)) xs ++ (filter (λ x. is_high level (pre x)) xs ++ filter (λ x. is_here level (pre x)) xs))
parts_permutation pre level [] = IsPermutation-refl []
parts_permutation pre level (x ∷ xs) =
    IsPermutation-trans _ _ _ (IsPermutation-cons x _ _ (parts_permutation pre level xs))
    (placed (is_here level (pre x)) (bit_below level (pre x).addr.0) x
    (filter (λ x. is_here level (pre x)) xs) (filter (λ x. is_low level (pre x)) xs) (filter (λ x. is_high level (pre x)) xs))
  where
    placed : {T : Type 0} (h b : Bool) (x : T) (heres lows highs : List T)
        → IsPermutation (x ∷ (lows ++ (highs ++ heres))) (cond (not h && not b) (x ∷ lows) lows ++ (cond (not h && b) (x ∷ highs) highs ++ cond h (x ∷ heres) heres))
    placed true b x heres lows highs =
        IsPermutation-trans _ _ _ (IsPermutation-sym _ _ (IsPermutation-middle lows x (highs ++ heres)))
        (IsPermutation-append_right lows _ _ (IsPermutation-sym _ _ (IsPermutation-middle highs x heres)))
    placed false true x heres lows highs = IsPermutation-sym _ _ (IsPermutation-middle lows x (highs ++ heres))
    placed false false x heres lows highs = IsPermutation-refl (x ∷ (lows ++ (highs ++ heres)))

-- the entries of a block were added, part by part
pub added_parts : (pre : Entry → Network) (level : ℕ) (es : List Entry) (s0 s1 s2 s3 : List Slot)
    → Added s0 s1 (filter (λ e. is_low level (pre e)) es) → Added s1 s2 (filter (λ e. is_high level (pre e)) es) → Added s2 s3 (filter (λ e. is_here level (pre e)) es) → Added s0 s3 es
added_parts pre level es s0 s1 s2 s3 low high here =
    added_ordered s0 s3 es _ (parts_permutation pre level es) (added_next s0 s1 s3 _ _ low (added_next s1 s2 s3 _ _ high here))

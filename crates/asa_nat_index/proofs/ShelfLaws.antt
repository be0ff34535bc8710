-- Entries at places, while cases are added one after another.
use Rattle.std.proofs.Common.{◌≡◌, ℕ, zero, suc, ◌+◌, ◌<◌, ◌≤◌, ◌==◌, Bool, true, false, ◌&&◌, cond, List, [], ◌∷◌, ◌++◌, length, filter, map, drop, set, get_or, slice_get, sum_by, Option, Some, None, unwrap_or, min, refl, sym, subst, ap, ◌∙◌, arith}
use Rattle.std.specs.List.{position_from}
use Rattle.std.proofs.Math.Seq.{drop-cons}
use Rattle.std.proofs.lemmas.Bool.Decides.{Decides-eqb, nat_tests}
use Rattle.std.proofs.lemmas.List.Sums.{sum_by-cons}
use Rattle.std.proofs.lemmas.Option.{slice_get_past, slice_get-get_or}
use Rattle.asa_base.specs.declared.flow.Packet.{Packet}
use Rattle.asa_nat_rules.specs.declared.case.Case.{Case}
use Rattle.asa_nat_rules.specs.Pairs.{case_pairs}
use Rattle.asa_pair_trie.specs.declared.entries.Entry.{Entry}
use Rattle.asa_pair_trie.specs.Pairs.{covers_both, lesser, first_of}
use Rattle.asa_pair_trie.proofs.RankLaws.{lesser_assoc, lesser_none}
use Rattle.asa_nat_index.specs.Entries.{rank_if}
use Rattle.asa_nat_index.specs.Index.{shelf, first_on, covering_on}
use Rattle.asa_nat_index.specs.Matches.{fits, case_covering, count_if}

-- no list has an element
pub shelf_none : (k : ℕ) → shelf [] k ≡ []
shelf_none k = ap (λ (o : Option (List Entry)). unwrap_or o []) (slice_get_past [] k (omega arith))

-- an empty list at the end changes nothing
pub shelf_push : (xs : List (List Entry)) (k : ℕ) → shelf (xs ++ [] ∷ []) k ≡ shelf xs k
shelf_push [] zero = sym (shelf_none zero)
shelf_push [] (suc k) = ap (λ (o : Option (List Entry)). unwrap_or o []) (slice_get_past ([] ∷ []) (suc k) (omega arith)) ∙ sym (shelf_none (suc k))
shelf_push (x ∷ xs) zero = refl
shelf_push (x ∷ xs) (suc k) = shelf_push xs k

pub shelf_at : (xs : List (List Entry)) (k : ℕ) (d : List Entry) → k < length xs → shelf xs k ≡ get_or xs k d
shelf_at xs k d less = ap (λ (o : Option (List Entry)). unwrap_or o []) (slice_get-get_or xs k d less)

shelf_same : (xs : List (List Entry)) (i : ℕ) (y : List Entry) → i < length xs → shelf (set xs i y) i ≡ y
shelf_same [] i y less = absurd (omega (arith, less))
shelf_same (x ∷ xs) zero y less = refl
shelf_same (x ∷ xs) (suc i) y less = shelf_same xs i y (omega (arith, less))

shelf_other : (xs : List (List Entry)) (i k : ℕ) (y : List Entry) → (i == k) ≡ false → shelf (set xs i y) k ≡ shelf xs k
shelf_other [] i k y e = refl
shelf_other (x ∷ xs) zero zero y e = absurd (grind (arith, nat_tests, e))
shelf_other (x ∷ xs) zero (suc k) y e = refl
shelf_other (x ∷ xs) (suc i) zero y e = refl
shelf_other (x ∷ xs) (suc i) (suc k) y e = shelf_other xs i k y (grind (arith, nat_tests, e))

-- a list at one place was replaced, after room was made
pub record Replaced (old wide new : List (List Entry)) (key : ℕ) (es : List Entry) : Type 0 where
  pub there : key < length wide
  pub same : (k : ℕ) → shelf wide k ≡ shelf old k
  pub now : new ≡ set wide key es

replaced_here : (old wide new : List (List Entry)) (key k : ℕ) (es : List Entry) → Replaced old wide new key es → (key == k) ≡ true → shelf new k ≡ es
replaced_here old wide new key k es r e =
    let same : key ≡ k = (Decides-eqb key k).0 e in
    ap (λ xs. shelf xs k) r.now ∙ ap (λ n. shelf (set wide key es) n) (sym same) ∙ shelf_same wide key es r.there

replaced_other : (old wide new : List (List Entry)) (key k : ℕ) (es : List Entry) → Replaced old wide new key es → (key == k) ≡ false → shelf new k ≡ shelf old k
replaced_other old wide new key k es r e = ap (λ xs. shelf xs k) r.now ∙ shelf_other wide key k es e ∙ r.same k

pub added_first : (old wide new : List (List Entry)) (key : ℕ) (es : List Entry) (c : Case) (rank k : ℕ) (p : Packet) → Replaced old wide new key es
    → first_of es p ≡ lesser (first_of (shelf wide key) p) (rank_if (fits p c) rank)
    → first_on new k p ≡ lesser (first_on old k p) (rank_if ((key == k) && fits p c) rank)
added_first old wide new key es c rank k p r e = by (key == k) refl
  where
    by : (h : Bool) → (key == k) ≡ h → first_on new k p ≡ lesser (first_on old k p) (rank_if (h && fits p c) rank)
    by true here =
        let same : key ≡ k = (Decides-eqb key k).0 here in
        ap (λ xs. first_of xs p) (replaced_here old wide new key k es r here) ∙ e
        ∙ ap (λ xs. lesser (first_of xs p) (rank_if (fits p c) rank)) (r.same key ∙ ap (shelf old) same)
    by false other = ap (λ xs. first_of xs p) (replaced_other old wide new key k es r other) ∙ sym (lesser_none (first_on old k p))

pub added_covers : (old wide new : List (List Entry)) (key : ℕ) (es : List Entry) (c : Case) (k : ℕ) (p : Packet) → Replaced old wide new key es
    → length (filter (covers_both p) es) ≡ length (filter (covers_both p) (shelf wide key)) + case_covering p c
    → covering_on new k p ≡ covering_on old k p + count_if (key == k) (case_covering p c)
added_covers old wide new key es c k p r e = by (key == k) refl
  where
    by : (h : Bool) → (key == k) ≡ h → covering_on new k p ≡ covering_on old k p + count_if h (case_covering p c)
    by true here =
        let same : key ≡ k = (Decides-eqb key k).0 here in
        ap (λ xs. length (filter (covers_both p) xs)) (replaced_here old wide new key k es r here) ∙ e
        ∙ ap (λ xs. length (filter (covers_both p) xs) + case_covering p c) (r.same key ∙ ap (shelf old) same)
    by false other = ap (λ xs. length (filter (covers_both p) xs)) (replaced_other old wide new key k es r other) ∙ omega arith

pub added_longer : (old wide new : List (List Entry)) (key : ℕ) (es : List Entry) (c : Case) (k : ℕ) → Replaced old wide new key es
    → length es ≡ length (shelf wide key) + case_pairs c → length (shelf new k) ≤ length (shelf old k) + case_pairs c
added_longer old wide new key es c k r e = by (key == k) refl
  where
    by : (h : Bool) → (key == k) ≡ h → length (shelf new k) ≤ length (shelf old k) + case_pairs c
    by true here =
        let same : key ≡ k = (Decides-eqb key k).0 here in
        let n = ap (λ xs. length xs) (replaced_here old wide new key k es r here) in
        let o = ap (λ xs. length xs) (r.same key ∙ ap (shelf old) same) in
        omega (arith, n, o, e)
    by false other = let n = ap (λ xs. length xs) (replaced_other old wide new key k es r other) in omega (arith, n)

-- no later place is less
pub keeps : {X : Type 0} (t : X → Bool) (v m : ℕ) (xs : List X) → v ≤ m → lesser (Some v) (position_from t m xs) ≡ Some v
keeps t v m [] le = refl
keeps t v m (x ∷ xs) le = by (t x) (keeps t v (m + 1) xs (omega (arith, le)))
  where
    by : (h : Bool) → lesser (Some v) (position_from t (m + 1) xs) ≡ Some v → lesser (Some v) (cond h (Some m) (position_from t (m + 1) xs)) ≡ Some v
    by true later = let e : min v m ≡ v = omega (arith, le) in ap Some e
    by false later = later

-- from a place on, a list begins with the value there
drop_at : {X : Type 0} (xs : List X) (i : ℕ) (x : X) → i < length xs → x ≡ get_or xs i x → drop i xs ≡ x ∷ drop (i + 1) xs
drop_at xs i x within is =
    let more : suc i ≡ i + 1 = omega arith in
    drop-cons xs i x within ∙ ap (λ y. y ∷ drop (suc i) xs) (sym is) ∙ ap (λ k. x ∷ drop k xs) more

-- the first so far and the first of what is left, after one case more
pub ranks_at : {X : Type 0} (t : X → Bool) (xs : List X) (i : ℕ) (x : X) (old new all : Option ℕ) → i < length xs → x ≡ get_or xs i x
    → new ≡ lesser old (rank_if (t x) i) → lesser old (position_from t i (drop i xs)) ≡ all → lesser new (position_from t (i + 1) (drop (i + 1) xs)) ≡ all
ranks_at t xs i x old new all within is step before =
    ap (λ o. lesser o (position_from t (i + 1) (drop (i + 1) xs))) step ∙ by (t x)
    ∙ ap (λ ys. lesser old (position_from t i ys)) (sym (drop_at xs i x within is)) ∙ before
  where
    by : (h : Bool) → lesser (lesser old (rank_if h i)) (position_from t (i + 1) (drop (i + 1) xs)) ≡ lesser old (cond h (Some i) (position_from t (i + 1) (drop (i + 1) xs)))
    by true = lesser_assoc old (Some i) (position_from t (i + 1) (drop (i + 1) xs)) ∙ ap (lesser old) (keeps t i (i + 1) (drop (i + 1) xs) (omega arith))
    by false = ap (λ o. lesser o (position_from t (i + 1) (drop (i + 1) xs))) (lesser_none old)

-- a sum so far and of what is left, after one case more
pub sum_at : {X : Type 0} (f : X → ℕ) (xs : List X) (i : ℕ) (x : X) (old new all : ℕ) → i < length xs → x ≡ get_or xs i x → new ≡ old + f x
    → old + sum_by f (drop i xs) ≡ all → new + sum_by f (drop (i + 1) xs) ≡ all
sum_at f xs i x old new all within is step before =
    let e = ap (sum_by f) (drop_at xs i x within is) ∙ sum_by-cons f x (drop (i + 1) xs) in
    omega (arith, e, step, before)

pub few_at : {X : Type 0} (f : X → ℕ) (xs : List X) (i : ℕ) (x : X) (old new all : ℕ) → i < length xs → x ≡ get_or xs i x → new ≤ old + f x
    → old + sum_by f (drop i xs) ≤ all → new + sum_by f (drop (i + 1) xs) ≤ all
few_at f xs i x old new all within is step before =
    let e = ap (sum_by f) (drop_at xs i x within is) ∙ sum_by-cons f x (drop (i + 1) xs) in
    omega (arith, e, step, before)

pub map_push : {X Y : Type 0} (f : X → Y) (xs : List X) (x : X) → map f (xs ++ x ∷ []) ≡ map f xs ++ f x ∷ []
map_push f [] x = refl
map_push f (y ∷ xs) x = ap (λ ys. f y ∷ ys) (map_push f xs x)

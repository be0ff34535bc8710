-- The least rank of the entries that hold a packet is the place of the first of them, where each rank is a place.
use Rattle.std.proofs.Common.{◌≡◌, ℕ, suc, ◌+◌, ◌≤◌, min, Bool, true, false, if◌then◌else◌, List, [], ◌∷◌, map, filter, length, slice_get, Some, option_and_then, refl, ap, ◌∙◌, arith}
use Rattle.std.specs.List.{find}
use Rattle.std.specs.List.Sorted.{IsPermutation}
use Rattle.std.specs.Option.{option_map}
use Rattle.asa_base.specs.declared.flow.Packet.{Packet}
use Rattle.asa_pair_trie.specs.declared.entries.Entry.{Entry}
use Rattle.asa_pair_trie.specs.Pairs.{holds, lesser, least_rank, first_of, covers_both}
use Rattle.asa_pair_trie.proofs.RankLaws.{first_permutation, covering_permutation}
use Rattle.asa_access_entries.specs.Matches.{Placed, first_match, IsRanked}

abbrev bare : Placed → Entry
bare e = e.0

abbrev line_of : Placed → ℕ × Bool
line_of e = (e.1, e.2)

-- the ranks count from n
abbrev IsRankedFrom : ℕ → List Placed → Type 0
IsRankedFrom n es = (i : ℕ) (e : Placed) → slice_get es i ≡ Some e → e.0.rank ≡ n + i

tail_ranked : (n : ℕ) (e : Placed) (es : List Placed) → IsRankedFrom n (e ∷ es) → IsRankedFrom (suc n) es
tail_ranked n e es ranked i x h = let r = ranked (suc i) x h in omega (arith, r)

lesser_less : (n m : ℕ) → n ≤ m → lesser (Some n) (Some m) ≡ Some n
lesser_less n m le = let same : min n m ≡ n = omega arith in ap Some same

-- no rank is less than the first
keeps_least : (p : Packet) (n m : ℕ) (es : List Placed) → n ≤ m → IsRankedFrom m es → lesser (Some n) (least_rank (filter (holds p) (map bare es))) ≡ Some n
keeps_least p n m [] le ranked = refl
keeps_least p n m (e ∷ es) le ranked =
    by (holds p e.0) (keeps_least p m (suc m) es (omega arith) (tail_ranked m e es ranked)) (keeps_least p n (suc m) es (omega (arith, le)) (tail_ranked m e es ranked))
  where
    rank : e.0.rank ≡ m
    rank = let r = ranked 0 e refl in omega (arith, r)

    by : (h : Bool) → lesser (Some m) (least_rank (filter (holds p) (map bare es))) ≡ Some m → lesser (Some n) (least_rank (filter (holds p) (map bare es))) ≡ Some n
        → lesser (Some n) (least_rank (if h then e.0 ∷ filter (holds p) (map bare es) else filter (holds p) (map bare es))) ≡ Some n
    by true here later = ap (λ r. lesser (Some n) (lesser (Some r) (least_rank (filter (holds p) (map bare es))))) rank ∙ ap (lesser (Some n)) here ∙ lesser_less n m le
    by false here later = later

-- the line at the least rank is that of the first match
least_is_match : (p : Packet) (n : ℕ) (es : List Placed) (lines : List (ℕ × Bool)) → IsRankedFrom n es
    → ((i : ℕ) → slice_get lines (n + i) ≡ slice_get (map line_of es) i)
    → option_and_then (slice_get lines) (least_rank (filter (holds p) (map bare es))) ≡ first_match es p
least_is_match p n [] lines ranked same = refl
least_is_match p n (e ∷ es) lines ranked same = by (holds p e.0) (least_is_match p (suc n) es lines (tail_ranked n e es ranked) later)
  where
    rank : e.0.rank ≡ n
    rank = let r = ranked 0 e refl in omega (arith, r)

    here : slice_get lines n ≡ Some (e.1, e.2)
    here = let k : n ≡ n + 0 = omega arith in ap (slice_get lines) k ∙ same 0

    later : (i : ℕ) → slice_get lines (suc n + i) ≡ slice_get (map line_of es) i
    later i = let k : suc n + i ≡ n + suc i = omega arith in ap (slice_get lines) k ∙ same (suc i)

    by : (h : Bool) → option_and_then (slice_get lines) (least_rank (filter (holds p) (map bare es))) ≡ first_match es p
        → option_and_then (slice_get lines) (least_rank (if h then e.0 ∷ filter (holds p) (map bare es) else filter (holds p) (map bare es)))
        ≡ option_map (λ (x : Placed). (x.1, x.2)) (if h then Some e else find (λ x. holds p x.0) es)
    by true rest = ap (λ r. option_and_then (slice_get lines) (lesser (Some r) (least_rank (filter (holds p) (map bare es))))) rank
        ∙ ap (λ r. option_and_then (slice_get lines) r) (keeps_least p n (suc n) es (omega arith) (tail_ranked n e es ranked)) ∙ here
    by false rest = rest

first_is_match : (es : List Placed) (p : Packet) → IsRanked es
    → option_and_then (slice_get (map (λ e. (e.1, e.2)) es)) (first_of (map (λ e. e.0) es) p) ≡ first_match es p
first_is_match es p ranked =
    least_is_match p 0 es (map line_of es) (λ i e h. let r = ranked i e h in omega (arith, r))
    (λ i. let k : 0 + i ≡ i = omega arith in ap (slice_get (map line_of es)) k)

-- entries without their lines cover a packet as they do with them
covering_bare : (es : List Placed) (p : Packet) → length (filter (covers_both p) (map (λ e. e.0) es)) ≡ length (filter (λ e. covers_both p e.0) es)
covering_bare [] p = refl
covering_bare (e ∷ es) p = by (covers_both p e.0) (covering_bare es p)
  where
    by : (h : Bool) → length (filter (covers_both p) (map bare es)) ≡ length (filter (λ (x : Placed). covers_both p x.0) es)
        → length (if h then e.0 ∷ filter (covers_both p) (map bare es) else filter (covers_both p) (map bare es))
        ≡ length (if h then e ∷ filter (λ (x : Placed). covers_both p x.0) es else filter (λ (x : Placed). covers_both p x.0) es)
    by true rest = ap suc rest
    by false rest = rest

-- the same of the entries in another order
pub match_held : (es : List Placed) (held : List Entry) (p : Packet) → IsRanked es → IsPermutation (map (λ e. e.0) es) held
    → option_and_then (slice_get (map (λ e. (e.1, e.2)) es)) (first_of held p) ≡ first_match es p
match_held es held p ranked same = ap (option_and_then (slice_get (map line_of es))) (first_permutation (map bare es) held same p) ∙ first_is_match es p ranked

pub covering_held : (es : List Placed) (held : List Entry) (p : Packet) → IsPermutation (map (λ e. e.0) es) held
    → length (filter (covers_both p) held) ≡ length (filter (λ e. covers_both p e.0) es)
covering_held es held p same = covering_permutation (map bare es) held same p ∙ covering_bare es p

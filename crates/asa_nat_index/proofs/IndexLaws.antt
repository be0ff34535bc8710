-- What the places of the index hold is what the cases say.
use Rattle.std.proofs.Common.{◌≡◌, ℕ, suc, ◌+◌, ◌*◌, ◌<◌, ◌≤◌, ◌==◌, Bool, true, false, ◌&&◌, ◌||◌, cond, List, [], ◌∷◌, length, filter, map, get_or, slice_get, sum_by, Option, Some, None, unwrap_or, IfSome, min, refl, sym, subst, ap, ◌∙◌, arith}
use Rattle.std.specs.List.{position, position_from, All}
use Rattle.std.proofs.lemmas.Iterator.Adapters.{position_from-zero}
use Rattle.std.proofs.lemmas.Bool.Decides.{nat_tests}
use Rattle.std.proofs.lemmas.List.Sums.{sum_by-cons}
use Rattle.std.specs.Option.{option_map}
use Rattle.std.proofs.lemmas.Option.{slice_get-map}
use Rattle.asa_base.specs.Boxes.{unstated_or}
use Rattle.asa_base.specs.declared.flow.NatPlace.{NatPlace}
use Rattle.asa_base.specs.declared.flow.Packet.{Packet}
use Rattle.asa_nat_rules.specs.declared.case.Case.{Case}
use Rattle.asa_pair_trie.specs.declared.entries.Entry.{Entry}
use Rattle.asa_pair_trie.specs.Pairs.{lesser}
use Rattle.asa_nat_index.specs.declared.part.Part.TheVariants.{Dest, Source}
use Rattle.asa_nat_index.specs.Index.{side, pair_key, shelf, first_in, covering_in, first_on, covering_on, source_from, source_read_from, dest_in, dest_read, source_in, source_read}
use Rattle.asa_nat_index.specs.Matches.{Cases, fits, has_dest_part, has_source_part, decides_dest, decides_source, destination, source, destination_covering, source_covering, case_covering, count_if, IsNarrow}
use Rattle.asa_nat_index.specs.Shelves.{holds_at, covering_at, is_at}
use Rattle.asa_nat_index.proofs.ShelfLaws.{keeps, shelf_none}

-- what is said of the lists at all places is said of each
pub first_same : (xs ys : List (List Entry)) (k : ℕ) (p : Packet) → map (first_in p) xs ≡ map (first_in p) ys → first_on xs k p ≡ first_on ys k p
first_same xs ys k p e = out xs ∙ ap (λ (zs : List (Option ℕ)). unwrap_or (slice_get zs k) None) e ∙ sym (out ys)
  where
    of : (o : Option (List Entry)) → first_in p (unwrap_or o []) ≡ unwrap_or (option_map (first_in p) o) None
    of None = refl
    of (Some es) = refl

    out : (zs : List (List Entry)) → first_on zs k p ≡ unwrap_or (slice_get (map (first_in p) zs) k) None
    out zs = of (slice_get zs k) ∙ ap (λ (o : Option (Option ℕ)). unwrap_or o None) (sym (slice_get-map (first_in p) zs k))

pub covering_same : (xs ys : List (List Entry)) (k : ℕ) (p : Packet) → map (covering_in p) xs ≡ map (covering_in p) ys → covering_on xs k p ≡ covering_on ys k p
covering_same xs ys k p e = out xs ∙ ap (λ (zs : List ℕ). unwrap_or (slice_get zs k) 0) e ∙ sym (out ys)
  where
    of : (o : Option (List Entry)) → covering_in p (unwrap_or o []) ≡ unwrap_or (option_map (covering_in p) o) 0
    of None = refl
    of (Some es) = refl

    out : (zs : List (List Entry)) → covering_on zs k p ≡ unwrap_or (slice_get (map (covering_in p) zs) k) 0
    out zs = of (slice_get zs k) ∙ ap (λ (o : Option ℕ). unwrap_or o 0) (sym (slice_get-map (covering_in p) zs k))

-- the first that passes one of two tests
position_or : {X : Type 0} (t u : X → Bool) (n : ℕ) (xs : List X) → lesser (position_from t n xs) (position_from u n xs) ≡ position_from (λ x. t x || u x) n xs
position_or t u n [] = refl
position_or t u n (x ∷ xs) = by (t x) (u x) (position_or t u (n + 1) xs)
  where
    two : lesser (Some n) (Some n) ≡ Some n
    two = let e : min n n ≡ n = omega arith in ap Some e

    left : lesser (Some n) (position_from u (n + 1) xs) ≡ Some n
    left = keeps u n (n + 1) xs (omega arith)

    turned : (o : Option ℕ) → lesser (Some n) o ≡ Some n → lesser o (Some n) ≡ Some n
    turned None e = refl
    turned (Some m) e = let f : min m n ≡ min n m = omega arith in ap Some f ∙ e

    by : (a b : Bool) → lesser (position_from t (n + 1) xs) (position_from u (n + 1) xs) ≡ position_from (λ y. t y || u y) (n + 1) xs
        → lesser (cond a (Some n) (position_from t (n + 1) xs)) (cond b (Some n) (position_from u (n + 1) xs)) ≡ cond (a || b) (Some n) (position_from (λ y. t y || u y) (n + 1) xs)
    by true true e = two
    by true false e = left
    by false true e = turned (position_from t (n + 1) xs) (keeps t n (n + 1) xs (omega arith))
    by false false e = e

-- tests that agree on each value of a list
abbrev Agree : {X Y : Type 0} → (X → Y) → (X → Y) → List X → Type 0
Agree {X} {Y} t u [] = true ≡ true
Agree {X} {Y} t u (x ∷ xs) = (t x ≡ u x) × Agree t u xs

position_same : {X : Type 0} (t u : X → Bool) (n : ℕ) (xs : List X) → Agree t u xs → position_from t n xs ≡ position_from u n xs
position_same t u n [] same = refl
position_same t u n (x ∷ xs) same =
    ap (λ h. cond h (Some n) (position_from t (n + 1) xs)) same.0 ∙ ap (λ o. cond (u x) (Some n) o) (position_same t u (n + 1) xs same.1)

sum_same : {X : Type 0} (f g : X → ℕ) (xs : List X) → Agree f g xs → sum_by f xs ≡ sum_by g xs
sum_same f g [] same = refl
sum_same f g (x ∷ xs) same =
    let e = sum_by-cons f x xs in let h = sum_by-cons g x xs in let a = same.0 in let r = sum_same f g xs same.1 in omega (arith, e, h, a, r)

sum_both : {X : Type 0} (f g : X → ℕ) (xs : List X) → sum_by f xs + sum_by g xs ≡ sum_by (λ x. f x + g x) xs
sum_both f g [] = refl
sum_both f g (x ∷ xs) =
    let e = sum_by-cons f x xs in let h = sum_by-cons g x xs in let b = sum_by-cons (λ y. f y + g y) x xs in let r = sum_both f g xs in omega (arith, e, h, b, r)

-- the place of `any`, or that of the interface
side_is : (from : Option ℕ) (ifc : ℕ) → ((side from == side None) || (side from == side (Some ifc))) ≡ unstated_or from ifc
side_is None ifc = refl
side_is (Some i) ifc =
    let no : (i + 1 == 0) ≡ false = grind (arith, nat_tests) in
    let same : (i + 1 == ifc + 1) ≡ (i == ifc) = grind (arith, nat_tests) in
    ap (λ h. h || (i + 1 == ifc + 1)) no ∙ same

-- and not both
side_apart : (from : Option ℕ) (ifc : ℕ) → ((side from == side None) && (side from == side (Some ifc))) ≡ false
side_apart None ifc = let no : (0 == ifc + 1) ≡ false = grind (arith, nat_tests) in no
side_apart (Some i) ifc = let no : (i + 1 == 0) ≡ false = grind (arith, nat_tests) in ap (λ h. h && (i + 1 == ifc + 1)) no

side_narrow : (o : Option ℕ) → IfSome o (λ ifc. ifc < 64) → side o < 65
side_narrow None n = omega arith
side_narrow (Some i) n = omega (arith, n)

key_same : (f g t u : ℕ) → t < 65 → u < 65 → (f * 65 + t == g * 65 + u) ≡ ((f == g) && (t == u))
key_same f g t u a b = grind (arith, nat_tests, a, b)

dest_shape : (h a b v : Bool) → (((h && a) && v) || ((h && b) && v)) ≡ (h && (a || b) && v)
dest_shape true true true true = refl
dest_shape true true true false = refl
dest_shape true true false true = refl
dest_shape true true false false = refl
dest_shape true false true true = refl
dest_shape true false true false = refl
dest_shape true false false true = refl
dest_shape true false false false = refl
dest_shape false true true true = refl
dest_shape false true true false = refl
dest_shape false true false true = refl
dest_shape false true false false = refl
dest_shape false false true true = refl
dest_shape false false true false = refl
dest_shape false false false true = refl
dest_shape false false false false = refl

source_shape : (h f g t u v : Bool) → ((((h && (f && t)) && v) || ((h && (f && u)) && v)) || (((h && (g && t)) && v) || ((h && (g && u)) && v))) ≡ (h && ((f || g) && (t || u)) && v)
source_shape true true true true true true = refl
source_shape true true true true true false = refl
source_shape true true true true false true = refl
source_shape true true true true false false = refl
source_shape true true true false true true = refl
source_shape true true true false true false = refl
source_shape true true true false false true = refl
source_shape true true true false false false = refl
source_shape true true false true true true = refl
source_shape true true false true true false = refl
source_shape true true false true false true = refl
source_shape true true false true false false = refl
source_shape true true false false true true = refl
source_shape true true false false true false = refl
source_shape true true false false false true = refl
source_shape true true false false false false = refl
source_shape true false true true true true = refl
source_shape true false true true true false = refl
source_shape true false true true false true = refl
source_shape true false true true false false = refl
source_shape true false true false true true = refl
source_shape true false true false true false = refl
source_shape true false true false false true = refl
source_shape true false true false false false = refl
source_shape true false false true true true = refl
source_shape true false false true true false = refl
source_shape true false false true false true = refl
source_shape true false false true false false = refl
source_shape true false false false true true = refl
source_shape true false false false true false = refl
source_shape true false false false false true = refl
source_shape true false false false false false = refl
source_shape false true true true true true = refl
source_shape false true true true true false = refl
source_shape false true true true false true = refl
source_shape false true true true false false = refl
source_shape false true true false true true = refl
source_shape false true true false true false = refl
source_shape false true true false false true = refl
source_shape false true true false false false = refl
source_shape false true false true true true = refl
source_shape false true false true true false = refl
source_shape false true false true false true = refl
source_shape false true false true false false = refl
source_shape false true false false true true = refl
source_shape false true false false true false = refl
source_shape false true false false false true = refl
source_shape false true false false false false = refl
source_shape false false true true true true = refl
source_shape false false true true true false = refl
source_shape false false true true false true = refl
source_shape false false true true false false = refl
source_shape false false true false true true = refl
source_shape false false true false true false = refl
source_shape false false true false false true = refl
source_shape false false true false false false = refl
source_shape false false false true true true = refl
source_shape false false false true true false = refl
source_shape false false false true false true = refl
source_shape false false false true false false = refl
source_shape false false false false true true = refl
source_shape false false false false true false = refl
source_shape false false false false false true = refl
source_shape false false false false false false = refl

count_shape : (a b : Bool) (n : ℕ) → (a && b) ≡ false → count_if a n + count_if b n ≡ count_if (a || b) n
count_shape true true n e = absurd (cc)
count_shape true false n e = omega arith
count_shape false true n e = omega arith
count_shape false false n e = omega arith

dest_apart : (h a b : Bool) → (a && b) ≡ false → ((h && a) && (h && b)) ≡ false
dest_apart true a b e = e
dest_apart false a b e = refl

dest_or : (h a b : Bool) → ((h && a) || (h && b)) ≡ (h && (a || b))
dest_or true a b = refl
dest_or false a b = refl

dest_count : (h a b : Bool) (n : ℕ) → (a && b) ≡ false → count_if (h && a) n + count_if (h && b) n ≡ count_if (h && (a || b)) n
dest_count h a b n e = count_shape (h && a) (h && b) n (dest_apart h a b e) ∙ ap (λ x. count_if x n) (dest_or h a b)

position_is : {X : Type 0} (t : X → Bool) (xs : List X) → position_from t 0 xs ≡ position t xs
position_is t xs = sym (position_from-zero t xs)

dest_agree : (p : Packet) (ks : Cases) → Agree (λ x. holds_at Dest (side None) p x || holds_at Dest (side (Some p.ifc)) p x) (decides_dest p) ks
dest_agree p [] = refl
dest_agree p (k ∷ ks) = (
  dest_shape (has_dest_part k.1) (side k.1.from == side None) (side k.1.from == side (Some p.ifc)) (fits p k.1)
      ∙ ap (λ h. has_dest_part k.1 && h && fits p k.1) (side_is k.1.from p.ifc),
  dest_agree p ks,
)

-- the lesser of two places is the first destination case
pub dest_is : (cases : Cases) (lists : List (List Entry)) (p : Packet)
    → ((k : ℕ) → first_on lists k p ≡ position_from (holds_at Dest k p) 0 cases) → dest_in lists p ≡ destination cases p
unfolding dest_in destination
dest_is cases lists p e =
    ap (λ o. lesser o (first_on lists (side (Some p.ifc)) p)) (e (side None))
    ∙ ap (lesser (position_from (holds_at Dest (side None) p) 0 cases)) (e (side (Some p.ifc)))
    ∙ position_or (holds_at Dest (side None) p) (holds_at Dest (side (Some p.ifc)) p) 0 cases
    ∙ position_same (λ x. holds_at Dest (side None) p x || holds_at Dest (side (Some p.ifc)) p x) (decides_dest p) 0 cases (dest_agree p cases)
    ∙ position_is (decides_dest p) cases

dest_counts : (p : Packet) (ks : Cases)
    → Agree (λ x. covering_at Dest (side None) p x + covering_at Dest (side (Some p.ifc)) p x) (λ x. count_if (has_dest_part x.1 && unstated_or x.1.from p.ifc) (case_covering p x.1)) ks
dest_counts p [] = refl
dest_counts p (k ∷ ks) = (
  dest_count (has_dest_part k.1) (side k.1.from == side None) (side k.1.from == side (Some p.ifc)) (case_covering p k.1) (side_apart k.1.from p.ifc)
      ∙ ap (λ h. count_if (has_dest_part k.1 && h) (case_covering p k.1)) (side_is k.1.from p.ifc),
  dest_counts p ks,
)

pub dest_reads : (cases : Cases) (lists : List (List Entry)) (p : Packet)
    → ((k : ℕ) → covering_on lists k p ≡ sum_by (covering_at Dest k p) cases) → dest_read lists p ≡ destination_covering cases p
unfolding dest_read destination_covering
dest_reads cases lists p e =
    ap (λ n. n + covering_on lists (side (Some p.ifc)) p) (e (side None))
    ∙ ap (λ n. sum_by (covering_at Dest (side None) p) cases + n) (e (side (Some p.ifc)))
    ∙ sum_both (covering_at Dest (side None) p) (covering_at Dest (side (Some p.ifc)) p) cases
    ∙ sum_same (λ x. covering_at Dest (side None) p x + covering_at Dest (side (Some p.ifc)) p x) (λ x. count_if (has_dest_part x.1 && unstated_or x.1.from p.ifc) (case_covering p x.1)) cases (dest_counts p cases)

-- the four places of an input and an egress
record Keys (c : Case) (ifc egress : ℕ) : Type 0 where
  any_any : (pair_key c.from c.to == pair_key None None) ≡ ((side c.from == side None) && (side c.to == side None))
  any_own : (pair_key c.from c.to == pair_key None (Some egress)) ≡ ((side c.from == side None) && (side c.to == side (Some egress)))
  own_any : (pair_key c.from c.to == pair_key (Some ifc) None) ≡ ((side c.from == side (Some ifc)) && (side c.to == side None))
  own_own : (pair_key c.from c.to == pair_key (Some ifc) (Some egress)) ≡ ((side c.from == side (Some ifc)) && (side c.to == side (Some egress)))

keys : (c : Case) (ifc egress : ℕ) → egress < 64 → side c.to < 65 → Keys c ifc egress
keys c ifc egress low narrow = record {
  any_any = key_same (side c.from) (side None) (side c.to) (side None) narrow (omega arith);
  any_own = key_same (side c.from) (side None) (side c.to) (side (Some egress)) narrow (omega (arith, low));
  own_any = key_same (side c.from) (side (Some ifc)) (side c.to) (side None) narrow (omega arith);
  own_own = key_same (side c.from) (side (Some ifc)) (side c.to) (side (Some egress)) narrow (omega (arith, low));
}

abbrev At : Packet → Option ℕ → ℕ → NatPlace × Case → Bool
At p from egress x = holds_at Source (pair_key from None) p x || holds_at Source (pair_key from (Some egress)) p x

four : (h v f g t u k1 k2 k3 k4 : Bool) → k1 ≡ (f && t) → k2 ≡ (f && u) → k3 ≡ (g && t) → k4 ≡ (g && u)
    → ((((h && k1) && v) || ((h && k2) && v)) || (((h && k3) && v) || ((h && k4) && v))) ≡ (h && ((f || g) && (t || u)) && v)
four h v f g t u k1 k2 k3 k4 e1 e2 e3 e4 =
    ap (λ k. (((h && k) && v) || ((h && k2) && v)) || (((h && k3) && v) || ((h && k4) && v))) e1
    ∙ ap (λ k. (((h && (f && t)) && v) || ((h && k) && v)) || (((h && k3) && v) || ((h && k4) && v))) e2
    ∙ ap (λ k. (((h && (f && t)) && v) || ((h && (f && u)) && v)) || (((h && k) && v) || ((h && k4) && v))) e3
    ∙ ap (λ k. (((h && (f && t)) && v) || ((h && (f && u)) && v)) || (((h && (g && t)) && v) || ((h && k) && v))) e4
    ∙ source_shape h f g t u v

source_at : (p : Packet) (egress : ℕ) (k : NatPlace × Case) → Keys k.1 p.ifc egress → (At p None egress k || At p (Some p.ifc) egress k) ≡ decides_source p egress k
source_at p egress k is =
    four (has_source_part k.1) (fits p k.1) (side k.1.from == side None) (side k.1.from == side (Some p.ifc)) (side k.1.to == side None) (side k.1.to == side (Some egress))
    _ _ _ _ is.any_any is.any_own is.own_any is.own_own
    ∙ ap (λ h. has_source_part k.1 && (h && ((side k.1.to == side None) || (side k.1.to == side (Some egress)))) && fits p k.1) (side_is k.1.from p.ifc)
    ∙ ap (λ h. has_source_part k.1 && (unstated_or k.1.from p.ifc && h) && fits p k.1) (side_is k.1.to egress)

all_tail : (P : NatPlace × Case → Type 0) (k : NatPlace × Case) (ks : Cases) → All P (k ∷ ks) → All P ks
all_tail P k ks all i d less = all (suc i) d (omega (arith, less))

source_agree : (p : Packet) (egress : ℕ) (ks : Cases) → egress < 64 → All IsNarrow ks → Agree (λ x. At p None egress x || At p (Some p.ifc) egress x) (decides_source p egress) ks
source_agree p egress [] low narrow = refl
source_agree p egress (k ∷ ks) low narrow =
    (source_at p egress k (keys k.1 p.ifc egress low (side_narrow k.1.to (narrow 0 k (omega arith)).to)), source_agree p egress ks low (all_tail IsNarrow k ks narrow))

from_is : (cases : Cases) (lists : List (List Entry)) (p : Packet) (from : Option ℕ) (egress : ℕ)
    → ((k : ℕ) → first_on lists k p ≡ position_from (holds_at Source k p) 0 cases) → source_from lists from p egress ≡ position_from (At p from egress) 0 cases
from_is cases lists p from egress e =
    ap (λ o. lesser o (first_on lists (pair_key from (Some egress)) p)) (e (pair_key from None))
    ∙ ap (lesser (position_from (holds_at Source (pair_key from None) p) 0 cases)) (e (pair_key from (Some egress)))
    ∙ position_or (holds_at Source (pair_key from None) p) (holds_at Source (pair_key from (Some egress)) p) 0 cases

-- the least of four places is the first source case
pub source_is : (cases : Cases) (lists : List (List Entry)) (p : Packet) (egress : ℕ) → egress < 64 → All IsNarrow cases
    → ((k : ℕ) → first_on lists k p ≡ position_from (holds_at Source k p) 0 cases) → source_in lists p egress ≡ source cases p egress
unfolding source_in source
source_is cases lists p egress low narrow e =
    ap (λ o. lesser o (source_from lists (Some p.ifc) p egress)) (from_is cases lists p None egress e)
    ∙ ap (lesser (position_from (At p None egress) 0 cases)) (from_is cases lists p (Some p.ifc) egress e)
    ∙ position_or (At p None egress) (At p (Some p.ifc) egress) 0 cases
    ∙ position_same (λ x. At p None egress x || At p (Some p.ifc) egress x) (decides_source p egress) 0 cases (source_agree p egress cases low narrow)
    ∙ position_is (decides_source p egress) cases

and_apart : (f t u : Bool) → (t && u) ≡ false → ((f && t) && (f && u)) ≡ false
and_apart true t u e = e
and_apart false t u e = refl

and_or : (f t u : Bool) → ((f && t) || (f && u)) ≡ (f && (t || u))
and_or true t u = refl
and_or false t u = refl

front_apart : (f g w : Bool) → (f && g) ≡ false → ((f && w) && (g && w)) ≡ false
front_apart true true w e = absurd (cc)
front_apart true false true e = refl
front_apart true false false e = refl
front_apart false g w e = refl

front_or : (f g w : Bool) → ((f && w) || (g && w)) ≡ ((f || g) && w)
front_or true true true = refl
front_or true true false = refl
front_or true false true = refl
front_or true false false = refl
front_or false g w = refl

pair_count : (h f t u : Bool) (n : ℕ) → (t && u) ≡ false → count_if (h && (f && t)) n + count_if (h && (f && u)) n ≡ count_if (h && (f && (t || u))) n
pair_count h f t u n e = dest_count h (f && t) (f && u) n (and_apart f t u e) ∙ ap (λ x. count_if (h && x) n) (and_or f t u)

four_counts : (h f g t u k1 k2 k3 k4 : Bool) (n : ℕ) → k1 ≡ (f && t) → k2 ≡ (f && u) → k3 ≡ (g && t) → k4 ≡ (g && u) → (f && g) ≡ false → (t && u) ≡ false
    → (count_if (h && k1) n + count_if (h && k2) n) + (count_if (h && k3) n + count_if (h && k4) n) ≡ count_if (h && ((f || g) && (t || u))) n
four_counts h f g t u k1 k2 k3 k4 n e1 e2 e3 e4 apart far =
    let c1 = ap (λ k. count_if (h && k) n) e1 in
    let c2 = ap (λ k. count_if (h && k) n) e2 in
    let c3 = ap (λ k. count_if (h && k) n) e3 in
    let c4 = ap (λ k. count_if (h && k) n) e4 in
    let left = pair_count h f t u n far in
    let right = pair_count h g t u n far in
    let all : count_if (h && (f && (t || u))) n + count_if (h && (g && (t || u))) n ≡ count_if (h && ((f || g) && (t || u))) n =
    dest_count h (f && (t || u)) (g && (t || u)) n (front_apart f g (t || u) apart) ∙ ap (λ x. count_if (h && x) n) (front_or f g (t || u)) in
    omega (arith, c1, c2, c3, c4, left, right, all)

abbrev Read : Packet → Option ℕ → ℕ → NatPlace × Case → ℕ
Read p from egress x = covering_at Source (pair_key from None) p x + covering_at Source (pair_key from (Some egress)) p x

counts_at : (p : Packet) (egress : ℕ) (k : NatPlace × Case) → Keys k.1 p.ifc egress
    → Read p None egress k + Read p (Some p.ifc) egress k ≡ count_if (has_source_part k.1 && (unstated_or k.1.from p.ifc && unstated_or k.1.to egress)) (case_covering p k.1)
counts_at p egress k is =
    four_counts (has_source_part k.1) (side k.1.from == side None) (side k.1.from == side (Some p.ifc)) (side k.1.to == side None) (side k.1.to == side (Some egress))
    _ _ _ _ (case_covering p k.1) is.any_any is.any_own is.own_any is.own_own (side_apart k.1.from p.ifc) (side_apart k.1.to egress)
    ∙ ap (λ h. count_if (has_source_part k.1 && (h && ((side k.1.to == side None) || (side k.1.to == side (Some egress))))) (case_covering p k.1)) (side_is k.1.from p.ifc)
    ∙ ap (λ h. count_if (has_source_part k.1 && (unstated_or k.1.from p.ifc && h)) (case_covering p k.1)) (side_is k.1.to egress)

source_counts : (p : Packet) (egress : ℕ) (ks : Cases) → egress < 64 → All IsNarrow ks
    → Agree (λ x. Read p None egress x + Read p (Some p.ifc) egress x) (λ x. count_if (has_source_part x.1 && (unstated_or x.1.from p.ifc && unstated_or x.1.to egress)) (case_covering p x.1)) ks
source_counts p egress [] low narrow = refl
source_counts p egress (k ∷ ks) low narrow =
    (counts_at p egress k (keys k.1 p.ifc egress low (side_narrow k.1.to (narrow 0 k (omega arith)).to)), source_counts p egress ks low (all_tail IsNarrow k ks narrow))

from_reads : (cases : Cases) (lists : List (List Entry)) (p : Packet) (from : Option ℕ) (egress : ℕ)
    → ((k : ℕ) → covering_on lists k p ≡ sum_by (covering_at Source k p) cases) → source_read_from lists from p egress ≡ sum_by (Read p from egress) cases
from_reads cases lists p from egress e =
    ap (λ n. n + covering_on lists (pair_key from (Some egress)) p) (e (pair_key from None))
    ∙ ap (λ n. sum_by (covering_at Source (pair_key from None) p) cases + n) (e (pair_key from (Some egress)))
    ∙ sum_both (covering_at Source (pair_key from None) p) (covering_at Source (pair_key from (Some egress)) p) cases

pub source_reads : (cases : Cases) (lists : List (List Entry)) (p : Packet) (egress : ℕ) → egress < 64 → All IsNarrow cases
    → ((k : ℕ) → covering_on lists k p ≡ sum_by (covering_at Source k p) cases) → source_read lists p egress ≡ source_covering cases p egress
unfolding source_read source_covering
source_reads cases lists p egress low narrow e =
    ap (λ n. n + source_read_from lists (Some p.ifc) p egress) (from_reads cases lists p None egress e)
    ∙ ap (λ n. sum_by (Read p None egress) cases + n) (from_reads cases lists p (Some p.ifc) egress e)
    ∙ sum_both (Read p None egress) (Read p (Some p.ifc) egress) cases
    ∙ sum_same (λ x. Read p None egress x + Read p (Some p.ifc) egress x) (λ x. count_if (has_source_part x.1 && (unstated_or x.1.from p.ifc && unstated_or x.1.to egress)) (case_covering p x.1)) cases (source_counts p egress cases low narrow)

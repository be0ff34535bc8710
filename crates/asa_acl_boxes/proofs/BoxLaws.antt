-- The boxes of lines, and their prefix pairs.
use Rattle.std.proofs.Common.{◌≡◌, ℕ, ◌+◌, ◌*◌, ◌<◌, take, get_or, Bool, true, false, not, ◌||◌, ◌==◌, if◌then◌else◌, List, [], ◌∷◌, ◌++◌, length, map, refl, sym, ap, ◌∙◌, arith, suc}
use native.Mathlib.Nat.{add-mul, mul-add}
use Rattle.std.proofs.lemmas.Bool.{eqb-true}
use Rattle.std.specs.List.{sum_by, flat_map}
use Rattle.std.proofs.Math.Seq.{take-suc}
use Rattle.std.proofs.lemmas.List.{flat_map_more, append-nil}
use Rattle.std.proofs.lemmas.List.Sums.{sum_by-cons, sum_by-append}
use Rattle.asa_base.specs.Ranges.{AddressSpan}
use Rattle.asa_base.specs.Prefixes.{prefixes_of_span}
use Rattle.asa_base.specs.declared.boxes.Service.{Service}
use Rattle.asa_base.specs.declared.boxes.LineBox.{LineBox}
use Rattle.asa_acl_line.specs.declared.ace.Ace.{Ace}
use Rattle.asa_acl_line.specs.declared.ace.AclLine.{AclLine}
use Rattle.asa_acl_line.specs.declared.ace.AclLine.TheVariants as line
use Rattle.asa_acl_boxes.specs.Meanings.{Meanings}
use Rattle.asa_acl_boxes.specs.Boxes.{box_of, all_boxes, ranges_of, services_of, entry_boxes, line_boxes, boxes_from, boxes_of, is_boxless}
use Rattle.asa_acl_boxes.specs.Pairs.{prefix_count, entry_pairs, line_pairs, list_pairs, box_pairs}

-- nothing comes of nothing
flat_none : {X Y : Type 0} (xs : List X) → flat_map {X = X} {A = Y} (λ x. []) xs ≡ []
flat_none [] = refl
flat_none (x ∷ xs) = flat_none xs

none_of : {X : Type 0} (xs : List X) → (length xs == 0) ≡ true → xs ≡ []
none_of [] e = refl
none_of (x ∷ xs) e = absurd (omega (arith, eqb-true (length (x ∷ xs)) 0 e))

no_services : {X Y Z : Type 0} (xs : List X) (ys : List Y) → flat_map {X = X} {A = Z} (λ x. flat_map {X = Y} {A = Z} (λ y. []) ys) xs ≡ []
no_services [] ys = refl
no_services {X} {Y} {Z} (x ∷ xs) ys = ap (λ zs. zs ++ flat_map {X = X} {A = Z} (λ x. flat_map {X = Y} {A = Z} (λ y. []) ys) xs) (flat_none ys) ∙ no_services xs ys

-- an entry that is inactive, or without a source, a destination or a service, has no box
pub boxless_has_none : (m : Meanings) (n : ℕ) (a : Ace) → is_boxless m a ≡ true → entry_boxes m n a ≡ []
unfolding entry_boxes
boxless_has_none m n a boxless = by_active a.active boxless
  where
    no_service : (permit : Bool) (ss ds : List AddressSpan) (vs : List Service) → (length vs == 0) ≡ true → all_boxes n permit ss ds vs ≡ []
    no_service permit ss ds vs e =
        ap (all_boxes n permit ss ds) (none_of vs e) ∙ no_services ss ds

    no_dest : (permit : Bool) (ss ds : List AddressSpan) (vs : List Service) → (length ds == 0) ≡ true → all_boxes n permit ss ds vs ≡ []
    no_dest permit ss ds vs e = ap (λ d. all_boxes n permit ss d vs) (none_of ds e) ∙ flat_none ss

    no_source : (permit : Bool) (ss ds : List AddressSpan) (vs : List Service) → (length ss == 0) ≡ true → all_boxes n permit ss ds vs ≡ []
    no_source permit ss ds vs e = ap (λ s. all_boxes n permit s ds vs) (none_of ss e)

    by_parts : (ss ds : List AddressSpan) (vs : List Service) (p q r : Bool) → (length ss == 0) ≡ p → (length ds == 0) ≡ q → (length vs == 0) ≡ r
        → (p || q || r) ≡ true → all_boxes n a.permit ss ds vs ≡ []
    by_parts ss ds vs true q r e f g h = no_source a.permit ss ds vs e
    by_parts ss ds vs false true r e f g h = no_dest a.permit ss ds vs f
    by_parts ss ds vs false false true e f g h = no_service a.permit ss ds vs g
    by_parts ss ds vs false false false e f g h = absurd (cc)

    by_active : (active : Bool) → (not active || (length (ranges_of m a.source) == 0) || (length (ranges_of m a.dest) == 0) || (length (services_of m a.service) == 0)) ≡ true
        → (if active then all_boxes n a.permit (ranges_of m a.source) (ranges_of m a.dest) (services_of m a.service) else []) ≡ []
    by_active true some = by_parts (ranges_of m a.source) (ranges_of m a.dest) (services_of m a.service) (length (ranges_of m a.source) == 0) (length (ranges_of m a.dest) == 0)
        (length (services_of m a.service) == 0) refl refl refl some
    by_active false some = refl

-- products and sums
more_services : (p d v x y : ℕ) → x ≡ p * d + y → y ≡ p * d * v → x ≡ p * d * suc v
more_services p d v x y e f = grind (arith, e, f)

more_dests : (p d c v x y t : ℕ) → x ≡ p * d * v → y ≡ p * c * v → t ≡ d + c → x + y ≡ p * t * v
more_dests p d c v x y t e f g =
    ap (λ a. a + y) e ∙ ap (λ b. p * d * v + b) f ∙ sym (add-mul (p * d) (p * c) v) ∙ ap (λ k. k * v) (sym (mul-add p d c)) ∙ ap (λ k. p * k * v) (sym g)

more_sources : (p q d v x y t : ℕ) → x ≡ p * d * v → y ≡ q * d * v → t ≡ p + q → x + y ≡ t * d * v
more_sources p q d v x y t e f g =
    ap (λ a. a + y) e ∙ ap (λ b. p * d * v + b) f ∙ sym (add-mul (p * d) (q * d) v) ∙ ap (λ k. k * v) (sym (add-mul p q d)) ∙ ap (λ k. k * d * v) (sym g)

-- the pairs of the boxes of one source and one destination
pairs_of_services : (n : ℕ) (permit : Bool) (s d : AddressSpan) (vs : List Service)
    → sum_by box_pairs (map (λ v. box_of n permit s d v) vs) ≡ length (prefixes_of_span s) * length (prefixes_of_span d) * length vs
pairs_of_services n permit s d [] = omega arith
pairs_of_services n permit s d (v ∷ vs) =
    more_services (length (prefixes_of_span s)) (length (prefixes_of_span d)) (length vs) _ _
    (sum_by-cons box_pairs (box_of n permit s d v) (map (λ v. box_of n permit s d v) vs)) (pairs_of_services n permit s d vs)

pairs_of_dests : (n : ℕ) (permit : Bool) (s : AddressSpan) (ds : List AddressSpan) (vs : List Service)
    → sum_by box_pairs (flat_map (λ d. map (λ v. box_of n permit s d v) vs) ds) ≡ length (prefixes_of_span s) * prefix_count ds * length vs
pairs_of_dests n permit s [] vs = omega arith
pairs_of_dests n permit s (d ∷ ds) vs =
    sum_by-append box_pairs (map (λ v. box_of n permit s d v) vs) (flat_map (λ d. map (λ v. box_of n permit s d v) vs) ds)
    ∙ more_dests (length (prefixes_of_span s)) (length (prefixes_of_span d)) (prefix_count ds) (length vs) _ _ _
    (pairs_of_services n permit s d vs) (pairs_of_dests n permit s ds vs) (sum_by-cons (λ x. length (prefixes_of_span x)) d ds)

pairs_of_sources : (n : ℕ) (permit : Bool) (ss ds : List AddressSpan) (vs : List Service)
    → sum_by box_pairs (all_boxes n permit ss ds vs) ≡ prefix_count ss * prefix_count ds * length vs
pairs_of_sources n permit [] ds vs = omega arith
pairs_of_sources n permit (s ∷ ss) ds vs =
    sum_by-append box_pairs (flat_map (λ d. map (λ v. box_of n permit s d v) vs) ds) (all_boxes n permit ss ds vs)
    ∙ more_sources (length (prefixes_of_span s)) (prefix_count ss) (prefix_count ds) (length vs) _ _ _
    (pairs_of_dests n permit s ds vs) (pairs_of_sources n permit ss ds vs) (sum_by-cons (λ x. length (prefixes_of_span x)) s ss)

pairs_of_entry : (m : Meanings) (n : ℕ) (a : Ace) → sum_by box_pairs (entry_boxes m n a) ≡ entry_pairs m a
unfolding entry_boxes entry_pairs
pairs_of_entry m n a = by a.active
  where
    by : (active : Bool) → sum_by box_pairs (if active then all_boxes n a.permit (ranges_of m a.source) (ranges_of m a.dest) (services_of m a.service) else [])
        ≡ (if active then prefix_count (ranges_of m a.source) * prefix_count (ranges_of m a.dest) * length (services_of m a.service) else 0)
    by true = pairs_of_sources n a.permit (ranges_of m a.source) (ranges_of m a.dest) (services_of m a.service)
    by false = refl

pairs_of_line : (m : Meanings) (n : ℕ) (l : AclLine) → sum_by box_pairs (line_boxes m n l) ≡ line_pairs m l
unfolding line_boxes line_pairs
pairs_of_line m n (line.Ace a) = pairs_of_entry m n a
pairs_of_line m n (line.Remark text) = refl

pairs_from : (m : Meanings) (n : ℕ) (ls : List AclLine) → sum_by box_pairs (boxes_from m n ls) ≡ list_pairs m ls
unfolding boxes_from
pairs_from m n [] = refl
pairs_from m n (l ∷ ls) =
    sum_by-append box_pairs (line_boxes m n l) (boxes_from m (n + 1) ls)
    ∙ ap (λ k. k + sum_by box_pairs (boxes_from m (n + 1) ls)) (pairs_of_line m n l)
    ∙ ap (λ k. line_pairs m l + k) (pairs_from m (n + 1) ls) ∙ sym (sum_by-cons (λ l. line_pairs m l) l ls)

-- the prefix pairs of the boxes of a list are those of its lines
pub pairs_of_boxes : (m : Meanings) (ls : List AclLine) → sum_by box_pairs (boxes_of m ls) ≡ list_pairs m ls
pairs_of_boxes m ls = pairs_from m 1 ls

-- one more element of a list that is gone over, each with a list of its own
pub flat_taken : {X Y : Type 0} (f : X → List Y) (start done new : List Y) (xs : List X) (i : ℕ) (x : X) → done ≡ start ++ flat_map f (take i xs) → i < length xs → x ≡ get_or xs i x
    → new ≡ done ++ f x → new ≡ start ++ flat_map f (take (i + 1) xs)
flat_taken f start done new xs i x before lt here made =
    let one : suc i ≡ i + 1 = omega arith in
    made ∙ ap (λ d. d ++ f x) before ∙ flat_map_more f start (take i xs) x
    ∙ ap (λ y. start ++ flat_map f (take i xs ++ y ∷ [])) here
    ∙ ap (λ ys. start ++ flat_map f ys) (sym (take-suc xs i x lt)) ∙ ap (λ k. start ++ flat_map f (take k xs)) one

-- an entry without boxes adds none
pub none_added : (m : Meanings) (n : ℕ) (a : Ace) (bs : List LineBox) {b : Bool} → b ≡ true → b ≡ is_boxless m a → bs ≡ bs ++ entry_boxes m n a
none_added m n a bs some told = sym (append-nil bs) ∙ ap (λ x. bs ++ x) (sym (boxless_has_none m n a (sym told ∙ some)))

pub pairs_told : (m : Meanings) (ls : List AclLine) (bs : List LineBox) → bs ≡ boxes_from m 1 ls → sum_by box_pairs bs ≡ list_pairs m ls
pairs_told m ls bs told = ap (sum_by box_pairs) told ∙ pairs_of_boxes m ls

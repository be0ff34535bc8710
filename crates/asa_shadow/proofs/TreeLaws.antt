-- The cut tree of a region by its first box, without a bound on its depth, and that boxes which don't meet a region leave its tree.
use Rattle.std.proofs.Common.{◌≡◌, ℕ, zero, suc, ◌+◌, ◌-◌, ◌<◌, ◌≤◌, Bool, true, false, ◌&&◌, if◌then◌else◌, nat_le, nat_lt, List, [], ◌∷◌, ◌++◌, filter, cond, Option, Some, None, refl, sym, ap, subst, ◌∙◌, ◌⊎◌, ⊎_elim, arith, append_assoc}
use Rattle.std.specs.List.{find}
use Rattle.std.proofs.lemmas.Bool.{cases_Bool}
use Rattle.asa_shadow.specs.declared.region.Span.{Span}
use Rattle.asa_shadow.specs.declared.region.Cut.{Cut}
use Rattle.asa_shadow.specs.declared.node.Node.{Node}
use Rattle.asa_shadow.specs.declared.node.Node.TheVariants as node
use Rattle.asa_shadow.specs.Regions.{meets, lower, upper}
use Rattle.asa_shadow.specs.CutTrees.{Numbered, Place, Held, Free, cut_of, extent, first_meeting, least_packet, parted, rooted, tree_within, tree_of}
use Rattle.asa_shadow.proofs.RegionLaws.{Inside}
use Rattle.asa_shadow.proofs.CutLaws.{cut_is_inside, extent_lower, extent_upper, meets_lower, meets_upper}

-- what is found passes the test
pub find_passes : {X : Type 0} (test : X → Bool) (xs : List X) (x : X) → find test xs ≡ Some x → test x ≡ true
find_passes test [] x e = absurd (cc)
find_passes test (y ∷ ys) x e = by_test (test y) refl (find_passes test ys x) e
  where
    by_test : (b : Bool) → test y ≡ b → (find test ys ≡ Some x → test x ≡ true) → cond b (Some y) (find test ys) ≡ Some x → test x ≡ true
    by_test true is later e = let same : y ≡ x = cc in rw (← same) is
    by_test false is later e = later e

-- two ways to make trees that agree on both parts of each cut inside make the same tree
same_rooted : (g h : List Span → List Place) (earlier : List Numbered) (r : List Span)
    → ((c : Cut) → Inside r (c.dim - 1) c.at → (g (lower r c) ≡ h (lower r c)) × (g (upper r c) ≡ h (upper r c)))
    → rooted g r (first_meeting earlier r) ≡ rooted h r (first_meeting earlier r)
same_rooted g h earlier r agree = by_first (first_meeting earlier r) refl
  where
    by_cut : (b : Numbered) (o : Option Cut) → meets b.region r ≡ true → cut_of b.region r ≡ o → parted g r b.number o ≡ parted h r b.number o
    by_cut b None meet is = refl
    by_cut b (Some c) meet is =
        let a = agree c (cut_is_inside b.region r c meet is) in
        ap (λ t. Held (node.Cut c.dim c.at) ∷ (t ++ g (upper r c))) a.0 ∙ ap (λ t. Held (node.Cut c.dim c.at) ∷ (h (lower r c) ++ t)) a.1

    by_first : (o : Option Numbered) → first_meeting earlier r ≡ o → rooted g r o ≡ rooted h r o
    by_first None is = refl
    by_first (Some b) is = by_cut b (cut_of b.region r) (find_passes (λ b. meets b.region r) earlier b is) refl

-- two depths that are enough give the same tree
enough : (m n : ℕ) (earlier : List Numbered) (r : List Span) → extent r < m → extent r < n → tree_within m earlier r ≡ tree_within n earlier r
enough zero n earlier r a b = absurd (omega arith)
enough (suc m) zero earlier r a b = absurd (omega arith)
enough (suc m) (suc n) earlier r a b = same_rooted (tree_within m earlier) (tree_within n earlier) earlier r
    (λ c i.
    let low = extent_lower r (c.dim - 1) c.at i in
    let high = extent_upper r (c.dim - 1) c.at i in
    (enough m n earlier (lower r c) (omega (arith, low)) (omega (arith, low)), enough m n earlier (upper r c) (omega (arith, high)) (omega (arith, high))))

-- the tree of a region by its first box
pub tree_rooted : (earlier : List Numbered) (r : List Span) → tree_of earlier r ≡ rooted (tree_of earlier) r (first_meeting earlier r)
unfolding tree_of
tree_rooted earlier r =
    ap (λ n. tree_within n earlier r) (add_one (extent r))
    ∙ same_rooted (tree_within (extent r) earlier) (λ s. tree_within (extent s + 1) earlier s) earlier r
    (λ c i.
    let low = extent_lower r (c.dim - 1) c.at i in
    let high = extent_upper r (c.dim - 1) c.at i in
    (enough (extent r) (extent (lower r c) + 1) earlier (lower r c) low (omega arith), enough (extent r) (extent (upper r c) + 1) earlier (upper r c) high (omega arith)))
  where
    add_one : (n : ℕ) → n + 1 ≡ suc n
    add_one n = omega arith

pub tree_free : (earlier : List Numbered) (r : List Span) → first_meeting earlier r ≡ None → tree_of earlier r ≡ Free (least_packet r) ∷ []
tree_free earlier r none = tree_rooted earlier r ∙ ap (rooted (tree_of earlier) r) none

pub tree_covered : (earlier : List Numbered) (r : List Span) (b : Numbered) → first_meeting earlier r ≡ Some b → cut_of b.region r ≡ None
    → tree_of earlier r ≡ Held (node.Covered b.number) ∷ []
tree_covered earlier r b found uncut = tree_rooted earlier r ∙ ap (rooted (tree_of earlier) r) found ∙ ap (parted (tree_of earlier) r b.number) uncut

pub tree_cut : (earlier : List Numbered) (r : List Span) (b : Numbered) (c : Cut) → first_meeting earlier r ≡ Some b → cut_of b.region r ≡ Some c
    → tree_of earlier r ≡ Held (node.Cut c.dim c.at) ∷ (tree_of earlier (lower r c) ++ tree_of earlier (upper r c))
tree_cut earlier r b c found cut = tree_rooted earlier r ∙ ap (rooted (tree_of earlier) r) found ∙ ap (parted (tree_of earlier) r b.number) cut

-- dropping what doesn't pass leaves the first of those that pass
find_filter : {X : Type 0} (test keep : X → Bool) (xs : List X) → ((x : X) → test x ≡ true → keep x ≡ true) → find test (filter keep xs) ≡ find test xs
find_filter test keep [] all = refl
find_filter test keep (x ∷ xs) all = by_keep (keep x) (test x) refl refl (find_filter test keep xs all)
  where
    by_keep : (k t : Bool) → keep x ≡ k → test x ≡ t → find test (filter keep xs) ≡ find test xs → find test (if k then x ∷ filter keep xs else filter keep xs) ≡ cond t (Some x) (find test xs)
    by_keep true true kept passes later = rw passes refl
    by_keep true false kept passes later = rw passes later
    by_keep false true kept passes later = absurd (let h = all x passes in cc)
    by_keep false false kept passes later = later

-- boxes that don't meet a region may be dropped
sifted : (n : ℕ) (keep : Numbered → Bool) (earlier : List Numbered) (r : List Span) → ((b : Numbered) → meets b.region r ≡ true → keep b ≡ true)
    → tree_within n (filter keep earlier) r ≡ tree_within n earlier r
sifted zero keep earlier r all = refl
sifted (suc n) keep earlier r all =
    ap (rooted (tree_within n (filter keep earlier)) r) (find_filter (λ b. meets b.region r) keep earlier all)
    ∙ same_rooted (tree_within n (filter keep earlier)) (tree_within n earlier) earlier r
    (λ c i. (
      sifted n keep earlier (lower r c) (λ b meet. all b (meets_lower b.region r (c.dim - 1) c.at i meet).0),
      sifted n keep earlier (upper r c) (λ b meet. all b (meets_upper b.region r (c.dim - 1) c.at i meet).0),
    ))

pub tree_sifted : (keep : Numbered → Bool) (earlier : List Numbered) (r : List Span) → ((b : Numbered) → meets b.region r ≡ true → keep b ≡ true)
    → tree_of (filter keep earlier) r ≡ tree_of earlier r
unfolding tree_of
tree_sifted keep earlier r all = sifted (extent r + 1) keep earlier r all

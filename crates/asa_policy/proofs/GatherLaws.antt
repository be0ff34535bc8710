-- The sides of a list are those where its name is bound.
use Rattle.std.proofs.Common.{◌≡◌, ℕ, Bool, true, false, ◌&&◌, ◌||◌, ◌==◌, List, [], ◌∷◌, ◌++◌, if◌then◌else◌, Some, refl, sym, ap, ◌∙◌, arith}
use Rattle.std.proofs.Math.Bool.{beq}
use Rattle.std.specs.List.{list_any}
use Rattle.std.specs.Map.{lookup}
use Rattle.std.specs.Str.{bytes_eq}
use Rattle.std.proofs.lemmas.Bool.{and_parts}
use Rattle.std.proofs.lemmas.Bool.Decides.{nat_tests}
use Rattle.asa_access.specs.Lists as access
use Rattle.asa_config.specs.Settings.{same_side}
use Rattle.asa_policy.specs.AccessLists.{is_this, is_bound_at, binds, side_if, sides_among, sides_of}

abbrev Bound : Type 0
Bound = (ℕ × Bool) × List ℕ

-- a side is the same in both ways of saying it
same_direction_is : (a b : Bool) → access.same_direction a b ≡ beq a b
same_direction_is true true = refl
same_direction_is true false = refl
same_direction_is false true = refl
same_direction_is false false = refl

same_side_is : (a b : ℕ × Bool) → access.same_side a b ≡ same_side a b
same_side_is a b = ap (λ d. (a.0 == b.0) && d) (same_direction_is a.1 b.1)

beq_same : (a b : Bool) → beq a b ≡ true → a ≡ b
beq_same true true h = refl
beq_same true false h = absurd (cc)
beq_same false true h = absurd (cc)
beq_same false false h = refl

-- the same side is the same value
side_value : (a b : ℕ × Bool) → same_side a b ≡ true → a ≡ b
side_value (n, d) (m, e) h =
    let parts : ((n == m) ≡ true) × (beq d e ≡ true) = and_parts (n == m) (beq d e) h in
    let same : n ≡ m = grind (arith, nat_tests) in
    ap (λ k. (k, d)) same ∙ ap (λ x. (m, x)) (beq_same d e parts.1)

any_if : (q : ℕ × Bool → Bool) (counts : Bool) (side : ℕ × Bool) (more : List (ℕ × Bool)) → list_any q (side_if counts side ++ more) ≡ ((counts && q side) || list_any q more)
any_if q true side more = refl
any_if q false side more = refl

no_and : (x : Bool) → x && false ≡ false
no_and true = refl
no_and false = refl

-- the binding has the side, and names the list
abbrev gives : ℕ × Bool → List ℕ → Bound → Bool
gives side name b = same_side side b.0 && bytes_eq b.1 name

-- among some bindings, the sides where the name is bound have this side exactly where one of them has it with the name, and the name is bound there
among : (bound : List Bound) (name : List ℕ) (side : ℕ × Bool) (bs : List Bound)
    → list_any (access.same_side side) (sides_among bound name bs) ≡ list_any (gives side name) bs && is_bound_at bound name side
among bound name side [] = refl
among bound name side (b ∷ bs) =
    any_if (access.same_side side) (binds bound name b) b.0 (sides_among bound name bs)
    ∙ by (same_side side b.0) (access.same_side side b.0) (bytes_eq b.1 name) (is_bound_at bound name b.0) (same_side_is side b.0) (λ h. ap (is_bound_at bound name) (side_value side b.0 h)) (among bound name side bs)
  where
    more : Bool
    more = list_any (gives side name) bs

    by : (same also named here : Bool) → also ≡ same → (same ≡ true → is_bound_at bound name side ≡ here)
        → list_any (access.same_side side) (sides_among bound name bs) ≡ more && is_bound_at bound name side
        → (((named && here) && also) || list_any (access.same_side side) (sides_among bound name bs)) ≡ ((same && named) || more) && is_bound_at bound name side
    by true true true true is at rest = sym (at refl)
    by true true true false is at rest = rest ∙ ap (λ x. more && x) (at refl) ∙ no_and more ∙ sym (at refl)
    by true true false here is at rest = rest
    by true false named here is at rest = absurd (cc)
    by false true named here is at rest = absurd (cc)
    by false false true true is at rest = rest
    by false false true false is at rest = rest
    by false false false here is at rest = rest

-- where the name is bound at the side, some binding has the side with the name
absorbed : (name : List ℕ) (side : ℕ × Bool) (bs : List Bound)
    → list_any (gives side name) bs && is_this (lookup (same_side side) bs) name ≡ is_this (lookup (same_side side) bs) name
absorbed name side [] = refl
absorbed name side (b ∷ bs) = by (same_side side b.0) (absorbed name side bs)
  where
    own : (named : Bool) → (named || list_any (gives side name) bs) && named ≡ named
    own true = refl
    own false = no_and (list_any (gives side name) bs)

    by : (same : Bool) → list_any (gives side name) bs && is_this (lookup (same_side side) bs) name ≡ is_this (lookup (same_side side) bs) name
        → ((same && bytes_eq b.1 name) || list_any (gives side name) bs) && is_this (if same then Some b.1 else lookup (same_side side) bs) name
        ≡ is_this (if same then Some b.1 else lookup (same_side side) bs) name
    by true rest = own (bytes_eq b.1 name)
    by false rest = rest

-- a list has the sides where its name is bound
pub side_law : (bound : List Bound) (name : List ℕ) (side : ℕ × Bool) → list_any (access.same_side side) (sides_of bound name) ≡ is_bound_at bound name side
side_law bound name side = among bound name side bound ∙ absorbed name side bound

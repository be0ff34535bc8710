-- What holds of the commands of all phases holds of those of one phase.
use Rattle.std.proofs.Common.{◌≡◌, ℕ, ◌+◌, ◌<◌, ◌≤◌, List, length, get_or, take, All, subst, sym, ap, arith}
use Rattle.std.specs.List.{flat_map}
use Rattle.std.proofs.lemmas.List.Concat.{get_or-flat_map}
use Rattle.std.proofs.lemmas.List.Folds.{length-flat_map-take}

-- what holds of each part's elements holds of those of part i
pub part_holds : {X A : Type 0} (P : A → Type 0) (f : X → List A) (xs : List X) (i : ℕ) (x : X) → i < length xs → x ≡ get_or xs i x → All P (flat_map f xs) → All P (f x)
part_holds P f xs i x lt is all k d below =
    let within : length (flat_map f (take i xs)) + length (f (get_or xs i x)) ≤ length (flat_map f xs) = length-flat_map-take f xs i x lt in
    let same : length (f x) ≡ length (f (get_or xs i x)) = ap (λ y. length (f y)) is in
    let here : k < length (f (get_or xs i x)) = omega (arith, below, same) in
    let at : P (get_or (f (get_or xs i x)) k d) = subst P (get_or-flat_map f xs i k x d lt here) (all (length (flat_map f (take i xs)) + k) d (omega (arith, within, here))) in
    subst (λ y. P (get_or (f y) k d)) (sym is) at

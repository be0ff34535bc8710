-- One list has no more prefix pairs than all, and what is said of one list more.
use Rattle.std.proofs.Common.{◌≡◌, ℕ, zero, suc, ◌+◌, ◌≤◌, Bool, true, false, cond, List, [], ◌∷◌, ◌++◌, append_assoc, map, filter, drop, slice_get, get_or, Some, sum_by, refl, sym, ap, ◌∙◌, arith}
use Rattle.std.proofs.Math.Seq.{drop-cons}
use Rattle.std.proofs.lemmas.List.Sums.{sum_by-cons}
use Rattle.std.proofs.lemmas.Option.{slice_get_within, slice_get-get_or}
use Rattle.asa_acl.specs.Acls.{AccessLines}
use Rattle.asa_acl_boxes.specs.Meanings.{Meanings}
use Rattle.asa_acl_boxes.specs.Pairs.{list_pairs}
use Rattle.asa_acl_table.specs.Names.{pairs_of_lists}

one_of : (f : AccessLines → ℕ) (ls : List AccessLines) (n : ℕ) (l : AccessLines) → slice_get ls n ≡ Some l → f l ≤ sum_by f ls
one_of f [] n l e = absurd (cc)
one_of f (x ∷ xs) zero l e = let same : x ≡ l = cc in omega (arith, sum_by-cons f x xs, ap f same)
one_of f (x ∷ xs) (suc n) l e = omega (arith, sum_by-cons f x xs, one_of f xs n l e)

pub pairs_of_one : (m : Meanings) (ls : List AccessLines) (n : ℕ) (l : AccessLines) → slice_get ls n ≡ Some l → list_pairs m l.lines ≤ pairs_of_lists m ls
pairs_of_one m ls n l e = one_of (λ x. list_pairs m x.lines) ls n l e

-- from a place on, a list begins with the value there
drop_at : {X : Type 0} (xs : List X) (n : ℕ) (x : X) → slice_get xs n ≡ Some x → drop n xs ≡ x ∷ drop (n + 1) xs
drop_at xs n x e =
    let within = slice_get_within xs n x e in
    let there : Some (get_or xs n x) ≡ Some x = sym (slice_get-get_or xs n x within) ∙ e in
    let same : get_or xs n x ≡ x = cc in
    let more : suc n ≡ n + 1 = omega arith in
    drop-cons xs n x within ∙ ap (λ y. y ∷ drop (suc n) xs) same ∙ ap (λ k. x ∷ drop k xs) more

-- one value before more of them, of which those count that pass
first_kept : {X Y : Type 0} (q : X → Bool) (g : X → Y) (x : X) (more : List X) → map g (filter q (x ∷ [])) ++ map g (filter q more) ≡ map g (filter q (x ∷ more))
first_kept {X} q g x more = by (q x)
  where
    by : (kept : Bool) → map g (cond kept (x ∷ []) []) ++ map g (filter q more) ≡ map g (cond kept (x ∷ filter q more) (filter q more))
    by true = refl
    by false = refl

-- what is gathered of the values so far that pass, and of one more
pub one_more : {X Y : Type 0} (q : X → Bool) (g : X → Y) (xs : List X) (n : ℕ) (x : X) (old new : List Y) → slice_get xs n ≡ Some x → new ≡ old ++ map g (filter q (x ∷ []))
    → old ++ map g (filter q (drop n xs)) ≡ map g (filter q xs) → new ++ map g (filter q (drop (n + 1) xs)) ≡ map g (filter q xs)
one_more q g xs n x old new at pushed before =
    ap (λ ys. ys ++ map g (filter q (drop (n + 1) xs))) pushed ∙ append_assoc old (map g (filter q (x ∷ []))) (map g (filter q (drop (n + 1) xs)))
    ∙ ap (λ ys. old ++ ys) (first_kept q g x (drop (n + 1) xs))
    ∙ ap (λ ys. old ++ map g (filter q ys)) (sym (drop_at xs n x at)) ∙ before

-- The first list with a line that names an object or a group, as a walk over the table finds it.
use Rattle.std.proofs.Common.{◌≡◌, ℕ, ◌+◌, true, false, cond, List, [], ◌∷◌, drop, zero, Some, slice_get, sym, ap, ◌∙◌, suc, arith}
use Rattle.asa_acl.specs.Acls.{AccessLines, list_uses}
use Rattle.asa_acl_table.specs.Lists.{first_using}

drop_at : (ts : List AccessLines) (i : ℕ) (t : AccessLines) → Some t ≡ slice_get ts i → drop i ts ≡ t ∷ drop (suc i) ts
drop_at [] i t found = absurd (cc)
drop_at (x ∷ xs) zero t found = let same : t ≡ x = cc in ap (λ y. y ∷ xs) (sym same)
drop_at (x ∷ xs) (suc i) t found = drop_at xs i t found

-- the list at a place names it
pub using_here : (ts : List AccessLines) (name : List ℕ) (i : ℕ) (t : AccessLines) → Some t ≡ slice_get ts i → first_using (drop i ts) name ≡ first_using ts name
    → list_uses name t ≡ true → Some t ≡ first_using ts name
using_here ts name i t found before names =
    ap (λ b. cond b (Some t) (first_using (drop (suc i) ts) name)) (sym names) ∙ ap (λ us. first_using us name) (sym (drop_at ts i t found)) ∙ before

-- or it doesn't
pub using_past : (ts : List AccessLines) (name : List ℕ) (i : ℕ) (t : AccessLines) → Some t ≡ slice_get ts i → first_using (drop i ts) name ≡ first_using ts name
    → list_uses name t ≡ false → first_using (drop (i + 1) ts) name ≡ first_using ts name
using_past ts name i t found before names =
    let one : suc i ≡ i + 1 = omega arith in
    ap (λ k. first_using (drop k ts) name) (sym one) ∙ ap (λ b. cond b (Some t) (first_using (drop (suc i) ts) name)) (sym names)
    ∙ ap (λ us. first_using us name) (sym (drop_at ts i t found)) ∙ before

-- What members count in all is what those count that stand and those that are to go.
use Rattle.std.proofs.Common.{◌≡◌, ℕ, ◌+◌, Bool, true, false, cond, not, ◌||◌, ◌&&◌, List, [], ◌∷◌, Some, refl, sym, ap, ◌∙◌, arith}
use Rattle.std.specs.Cmp.{IsEquivalence}
use Rattle.std.specs.Cmp.Lexicographic.{texts_ties}
use Rattle.std.specs.List.{find, AllByRecursion}
use Rattle.asa_objects_lines.specs.declared.statement.Item.{Item}
use Rattle.asa_objects_lines.specs.declared.statement.Item.TheVariants as item
use Rattle.asa_objects_lines.specs.contracts.statement.ItemEq.TheImpl.Laws as item_laws
use Rattle.asa_objects_values.specs.Definition.{same_item, has_item, without_item}
use Rattle.asa_objects_values.specs.Drafts.{AreDistinct, AreFormer, standing}
use Rattle.asa_objects_values.specs.Spreads.{total}
use Rattle.asa_objects_values.specs.Tables.{named}
use Rattle.asa_objects_values.proofs.LabelLaws.{same-is}
use Rattle.asa_objects_values.proofs.DraftLaws.{filter-filter, filter-same, has-alike, standing-all, without-absent}

item-equiv : IsEquivalence same_item
item-equiv = item_laws.laws-law

-- equal members refer to the same name
pub same-named : (i j : Item) → same_item i j ≡ true → named i ≡ named j
same-named (item.Network _) (item.Network _) h = refl
same-named (item.Service _) (item.Service _) h = refl
same-named (item.Port _) (item.Port _) h = refl
same-named (item.Protocol _) (item.Protocol _) h = refl
same-named (item.IcmpType _) (item.IcmpType _) h = refl
same-named (item.Object a) (item.Object b) h = ap Some (same-is a b (sym (texts_ties a b) ∙ h))
same-named (item.Group a) (item.Group b) h = ap Some (same-is a b (sym (texts_ties a b) ∙ h))
same-named _ _ h = absurd (cc)

-- what isn't there isn't among a part either
absent-without : (xs : List Item) (g i : Item) → has_item xs i ≡ false → has_item (without_item xs g) i ≡ false
absent-without [] g i h = refl
absent-without (x ∷ xs) g i h = by (same_item g x) (same_item i x) refl h (λ k. absent-without xs g i k)
  where
    by : (a b : Bool) → same_item i x ≡ b → (b || has_item xs i) ≡ false → (has_item xs i ≡ false → has_item (without_item xs g) i ≡ false)
        → has_item (cond (not a) (x ∷ without_item xs g) (without_item xs g)) i ≡ false
    by a true e h more = absurd (cc)
    by true false e h more = more h
    by false false e h more = ap (λ b. b || has_item (without_item xs g) i) e ∙ more h

distinct-without : (xs : List Item) (g : Item) → AreDistinct xs → AreDistinct (without_item xs g)
distinct-without [] g all = tt
distinct-without (x ∷ xs) g all = by (not (same_item g x)) (distinct-without xs g all.1)
  where
    by : (b : Bool) → AreDistinct (without_item xs g) → AreDistinct (cond b (x ∷ without_item xs g) (without_item xs g))
    by true more = (absent-without xs g x all.0, more)
    by false more = more

-- another member is found all the same
find-without : (xs : List Item) (g i : Item) → same_item i g ≡ false → find (same_item i) (without_item xs g) ≡ find (same_item i) xs
find-without [] g i apart = refl
find-without (x ∷ xs) g i apart = by (same_item g x) (same_item i x) refl refl (find-without xs g i apart)
  where
    by : (a b : Bool) → same_item g x ≡ a → same_item i x ≡ b → find (same_item i) (without_item xs g) ≡ find (same_item i) xs
        → find (same_item i) (cond (not a) (x ∷ without_item xs g) (without_item xs g)) ≡ cond b (Some x) (find (same_item i) xs)
    by true true at here more = let same : same_item i g ≡ true = item-equiv.congr i x g here ∙ item-equiv.symm x g ∙ at in absurd (cc)
    by true false at here more = more
    by false b at here more = ap (λ c. cond c (Some x) (find (same_item i) (without_item xs g))) here ∙ ap (λ o. cond b (Some x) o) more

or-false : (a b : Bool) → (a || b) ≡ false → (a ≡ false) × (b ≡ false)
or-false true b h = absurd (cc)
or-false false b h = (refl, h)

-- further members to go are still former ones without one that they aren't
former-without : (xs gone : List Item) (g : Item) → AllByRecursion (λ i. find (same_item i) xs ≡ Some i) gone → has_item gone g ≡ false
    → AllByRecursion (λ i. find (same_item i) (without_item xs g) ≡ Some i) gone
former-without xs [] g all new = tt
former-without xs (k ∷ ks) g all new = let parts = or-false (same_item g k) (has_item ks g) new in
    (find-without xs g k (item-equiv.symm k g ∙ parts.0) ∙ all.0, former-without xs ks g all.1 parts.1)

-- one after another goes
standing-more : (xs gone : List Item) (g : Item) → standing xs (g ∷ gone) ≡ standing (without_item xs g) gone
standing-more xs gone g =
    filter-same _ _ (λ k. ap (λ b. not (b || has_item gone k)) (item-equiv.symm k g) ∙ by (same_item g k) (has_item gone k)) xs
    ∙ sym (filter-filter (λ k. not (same_item g k)) (λ k. not (has_item gone k)) xs)
  where
    by : (a b : Bool) → not (a || b) ≡ (not a && not b)
    by true b = refl
    by false b = refl

module _ (f : Item → ℕ) where
  -- one of the members, and the others
  total-without : (xs : List Item) (g : Item) → AreDistinct xs → find (same_item g) xs ≡ Some g → total f xs ≡ f g + total f (without_item xs g)
  total-without [] g distinct h = absurd (cc)
  total-without (x ∷ xs) g distinct h = by (same_item g x) refl h (λ k. total-without xs g distinct.1 k)
    where
      by : (b : Bool) → same_item g x ≡ b → cond b (Some x) (find (same_item g) xs) ≡ Some g → (find (same_item g) xs ≡ Some g → total f xs ≡ f g + total f (without_item xs g))
          → f x + total f xs ≡ f g + total f (cond (not b) (x ∷ without_item xs g) (without_item xs g))
      by true e h more =
          let this : x ≡ g = cc in
          let one : f x ≡ f g = ap f this in
          let rest = ap (total f) (without-absent xs g (has-alike xs g x e ∙ distinct.0)) in
          omega arith
      by false e h more = let rest = more h in omega arith

  pub total-standing : (xs gone : List Item) → AreDistinct xs → AreFormer xs gone → total f xs ≡ total f (standing xs gone) + total f gone
  total-standing xs [] distinct former = let same = ap (total f) (standing-all xs [] refl) in omega arith
  total-standing xs (g ∷ gs) distinct former =
      let one = total-without xs g distinct former.0.0 in
      let others = total-standing (without_item xs g) gs (distinct-without xs g distinct) (former-without xs gs g former.0.1 former.1.0, former.1.1) in
      let same = ap (total f) (standing-more xs gs g) in
      omega arith

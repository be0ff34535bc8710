-- The least name that refers to a name is the first of the table that does.
use Rattle.std.proofs.Common.{◌≡◌, ℕ, Bool, true, false, cond, List, [], ◌∷◌, Option, Some, None, IfSome, IfNone, refl, sym, ap, subst, ◌∙◌}
use Rattle.std.specs.List.{AllByRecursion, list_any, find}
use Rattle.std.specs.List.Sorted.{IsStrictlySortedBy}
use Rattle.std.specs.Option.{option_map}
use Rattle.std.specs.Map.{lookup, keys_of}
use Rattle.std.specs.BTreeMap.{is_at}
use Rattle.std.specs.Ordering.{nat_cmp, is_gt, is_eq, ordering_reverse}
use Rattle.std.specs.declared.cmp.Ordering.TheVariants as cmp
use Rattle.std.specs.Cmp.Lexicographic.{slice_cmp}
use Rattle.std.proofs.lemmas.Bool.{false≢true}
use Rattle.std.proofs.lemmas.Cmp.{nat_list_cmp_total}
use Rattle.asa_objects_lines.specs.declared.statement.Item.{Item}
use Rattle.asa_objects_values.specs.Tables.{Entry, Table, entry_of, items_in, refers_to, same_name, user_of}
use Rattle.asa_objects_table.specs.Ranks.{IsSound, Ranks, Uses, has_name, users_of}
use Rattle.asa_objects_values.proofs.LabelLaws.{same-is, same-self}

-- a key that is looked up comes after the first
after-first : (e : List ℕ × Entry) (es : Table) (u : List ℕ) (v : Entry) → AllByRecursion (λ k. slice_cmp nat_cmp e.0 k ≡ cmp.Less) (keys_of es) → lookup (is_at (slice_cmp nat_cmp u)) es ≡ Some v
    → slice_cmp nat_cmp e.0 u ≡ cmp.Less
after-first e [] u v all found = absurd (cc)
after-first e (x ∷ xs) u v all found = by (same_name u x.0) refl found (λ more. after-first e xs u v all.1 more)
  where
    by : (b : Bool) → same_name u x.0 ≡ b → cond b (Some x.1) (lookup (is_at (slice_cmp nat_cmp u)) xs) ≡ Some v → (lookup (is_at (slice_cmp nat_cmp u)) xs ≡ Some v → slice_cmp nat_cmp e.0 u ≡ cmp.Less)
        → slice_cmp nat_cmp e.0 u ≡ cmp.Less
    by true s f more = subst (λ k. slice_cmp nat_cmp e.0 k ≡ cmp.Less) (sym (same-is u x.0 s)) all.0
    by false s f more = more f

module _ (p : List Item → Bool) (u : List ℕ) where
  pub first-is : (es : Table) → IsStrictlySortedBy (slice_cmp nat_cmp) (keys_of es) → (v : Entry) → lookup (is_at (slice_cmp nat_cmp u)) es ≡ Some v → p v.items ≡ true
      → ((k : List ℕ) (x : Entry) → lookup (is_at (slice_cmp nat_cmp k)) es ≡ Some x → p x.items ≡ true → is_gt (slice_cmp nat_cmp u k) ≡ false)
      → option_map (λ (e : List ℕ × Entry). e.0) (find (λ e. p e.1.items) es) ≡ Some u
  unfolding IsStrictlySortedBy
  first-is [] sorted v found passes least = absurd (cc)
  first-is (e ∷ es) sorted v found passes least =
      by (same_name u e.0) refl found (λ more apart. first-is es sorted.1 v more passes (λ k x f h. least k x (later k x f) h))
    where
      later : (k : List ℕ) (x : Entry) → lookup (is_at (slice_cmp nat_cmp k)) es ≡ Some x → cond (same_name k e.0) (Some e.1) (lookup (is_at (slice_cmp nat_cmp k)) es) ≡ Some x
      later k x f = at (same_name k e.0) refl
        where
          at : (b : Bool) → same_name k e.0 ≡ b → cond b (Some e.1) (lookup (is_at (slice_cmp nat_cmp k)) es) ≡ Some x
          at false s = f
          at true s =
              let less : slice_cmp nat_cmp e.0 k ≡ cmp.Less = after-first e es k x sorted.0 f in
              let eq : is_eq (slice_cmp nat_cmp e.0 k) ≡ true = ap (λ n. same_name e.0 n) (same-is k e.0 s) ∙ same-self e.0 in
              absurd (false≢true (ap is_eq (sym less) ∙ eq))

      no-first : lookup (is_at (slice_cmp nat_cmp u)) es ≡ Some v → p e.1.items ≡ true → (b : Bool) → b ≡ false
      no-first f h b =
          let less : slice_cmp nat_cmp e.0 u ≡ cmp.Less = after-first e es u v sorted.0 f in
          let gt : slice_cmp nat_cmp u e.0 ≡ cmp.Greater = nat_list_cmp_total.antisymm u e.0 ∙ ap ordering_reverse less in
          let not : is_gt (slice_cmp nat_cmp u e.0) ≡ false = least e.0 e.1 (ap (λ (c : Bool). cond c (Some e.1) (lookup (is_at (slice_cmp nat_cmp e.0)) es)) (same-self e.0)) h in
          absurd (false≢true (sym not ∙ ap is_gt gt))

      by : (b : Bool) → same_name u e.0 ≡ b → cond b (Some e.1) (lookup (is_at (slice_cmp nat_cmp u)) es) ≡ Some v
          → (lookup (is_at (slice_cmp nat_cmp u)) es ≡ Some v → Unit {0} → option_map (λ (x : List ℕ × Entry). x.0) (find (λ x. p x.1.items) es) ≡ Some u)
          → option_map (λ (x : List ℕ × Entry). x.0) (cond (p e.1.items) (Some e) (find (λ x. p x.1.items) es)) ≡ Some u
      by true s f more =
          let same : e.1 ≡ v = cc in
          ap (λ (c : Bool). option_map (λ (x : List ℕ × Entry). x.0) (cond c (Some e) (find (λ x. p x.1.items) es))) (ap (λ (x : Entry). p x.items) same ∙ passes)
          ∙ ap Some (sym (same-is u e.0 s))
      by false s f more = second (p e.1.items) refl
        where
          second : (c : Bool) → p e.1.items ≡ c → option_map (λ (x : List ℕ × Entry). x.0) (cond c (Some e) (find (λ x. p x.1.items) es)) ≡ Some u
          second false h = more f tt
          second true h = absurd (false≢true (sym (no-first f h true)))

  pub first-none : (es : Table) → ((k : List ℕ) (x : Entry) → lookup (is_at (slice_cmp nat_cmp k)) es ≡ Some x → p x.items ≡ false) → IsStrictlySortedBy (slice_cmp nat_cmp) (keys_of es)
      → option_map (λ (e : List ℕ × Entry). e.0) (find (λ e. p e.1.items) es) ≡ None
  unfolding IsStrictlySortedBy
  first-none [] none sorted = refl
  first-none (e ∷ es) none sorted =
      ap (λ (c : Bool). option_map (λ (x : List ℕ × Entry). x.0) (cond c (Some e) (find (λ x. p x.1.items) es)))
      (none e.0 e.1 (ap (λ (c : Bool). cond c (Some e.1) (lookup (is_at (slice_cmp nat_cmp e.0)) es)) (same-self e.0)))
      ∙ first-none es (λ k x f. none k x (later k x f)) sorted.1
    where
      later : (k : List ℕ) (x : Entry) → lookup (is_at (slice_cmp nat_cmp k)) es ≡ Some x → cond (same_name k e.0) (Some e.1) (lookup (is_at (slice_cmp nat_cmp k)) es) ≡ Some x
      later k x f = at (same_name k e.0) refl
        where
          at : (b : Bool) → same_name k e.0 ≡ b → cond b (Some e.1) (lookup (is_at (slice_cmp nat_cmp k)) es) ≡ Some x
          at false s = f
          at true s =
              let less : slice_cmp nat_cmp e.0 k ≡ cmp.Less = after-first e es k x sorted.0 f in
              let eq : is_eq (slice_cmp nat_cmp e.0 k) ≡ true = ap (λ n. same_name e.0 n) (same-is k e.0 s) ∙ same-self e.0 in
              absurd (false≢true (ap is_eq (sym less) ∙ eq))

-- the least user is the first
pub user-is : (t : Table) (ranks : Ranks) (uses : Uses) (stamp : ℕ) (name : List ℕ) (r : Option (List ℕ)) → IsSound t ranks uses stamp → IsStrictlySortedBy (slice_cmp nat_cmp) (keys_of t)
    → IfNone r ((u : List ℕ) → has_name (users_of uses name) u ≡ false) → IfSome r (λ u. has_name (users_of uses name) u ≡ true)
    → IfSome r (λ u. (v : List ℕ) → has_name (users_of uses name) v ≡ true → is_gt (slice_cmp nat_cmp u v) ≡ false) → r ≡ user_of t name
user-is t ranks uses stamp name None sound sorted none user least =
    sym (first-none (list_any (refers_to name)) [] t (λ k x f. sym (sound.used name k ∙ ap (λ o. list_any (refers_to name) (items_in o)) f) ∙ none k) sorted)
user-is t ranks uses stamp name (Some u) sound sorted none user least = by (entry_of t u) refl (sym (sound.used name u) ∙ user)
  where
    by : (o : Option Entry) → entry_of t u ≡ o → list_any (refers_to name) (items_in (entry_of t u)) ≡ true → Some u ≡ user_of t name
    by None e h = absurd (false≢true (sym (ap (λ o. list_any (refers_to name) (items_in o)) e) ∙ h))
    by (Some v) e h = sym (first-is (list_any (refers_to name)) u t sorted v e (sym (ap (λ o. list_any (refers_to name) (items_in o)) e) ∙ h)
        (λ k x f p. least k (sound.used name k ∙ ap (λ o. list_any (refers_to name) (items_in o)) f ∙ p)))

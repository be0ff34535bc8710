-- Ranks at the places of the table of ranks.
use Rattle.std.proofs.Common.{◌≡◌, ℕ, ◌<◌, ◌≤◌, Bool, true, false, cond, not, nat_lt, List, [], ◌∷◌, ◌++◌, length, get_or, slice_get, position, Option, Some, None, IfSome, is_some, refl, sym, ap, ◌∙◌, arith}
use Rattle.std.specs.List.{position_or_len}
use Rattle.std.specs.Map.{keys_of, values_of, lookup}
use Rattle.std.specs.Option.{option_map}
use Rattle.std.specs.Str.{bytes_eq}
use Rattle.std.proofs.lemmas.Cmp.{nat_list_eq_equiv}
use Rattle.std.proofs.lemmas.Bool.{false≢true, ltb-true, ltb-false}
use Rattle.std.proofs.lemmas.List.Sums.{passes_at_first}
use Rattle.std.proofs.lemmas.Map.Keys.{apart_from_distinct}
use Rattle.std.proofs.lemmas.Map.Entries.{hash_map_get_place}
use Rattle.std.proofs.lemmas.Option.{slice_get-map, slice_get-get_or, slice_get_within, get_or_from_slice_get}
use Rattle.std.proofs.lemmas.Slice.Eq.{bytes_eq-Decides}
use Rattle.indexmap.specs.IndexMap.{IndexMap, IsUnique, insert_entry, with_value_at}
use Rattle.indexmap.proofs.CallerLemmas.{insert_entry-new, updates-with_value_at}
use Rattle.asa_objects_values.specs.Tables.{same_name}
use Rattle.asa_objects_values.proofs.LabelLaws.{changed-at, same-bytes, same-self}

module _ {V : Type 0} where
  -- at the place of a name stands an entry of that name
  pub entry-at : (es : List (List ℕ × V)) (i : ℕ) (name : List ℕ) → slice_get (keys_of es) i ≡ Some name → (v : V) × (slice_get es i ≡ Some (name, v))
  entry-at es i name h = by (slice_get es i) refl
    where
      by : (o : Option (List ℕ × V)) → slice_get es i ≡ o → (v : V) × (slice_get es i ≡ Some (name, v))
      by None here = absurd (none (sym h ∙ slice_get-map (λ e. e.0) es i ∙ ap (option_map (λ e. e.0)) here))
        where
          none : Some name ≡ None → ⊥
          none e = absurd (cc)
      by (Some e) here =
          let same : e.0 ≡ name = one (sym (ap (option_map (λ x. x.0)) here) ∙ sym (slice_get-map (λ x. x.0) es i) ∙ h) in
          (e.1, here ∙ ap (λ k. Some (k, e.1)) same)
        where
          one : Some e.0 ≡ Some name → e.0 ≡ name
          one e = cc

  -- a place has a name where it has a value
  pub both-at : (es : List (List ℕ × V)) (i : ℕ) → is_some (slice_get (keys_of es) i) ≡ is_some (slice_get (values_of es) i)
  both-at es i = ap is_some (slice_get-map (λ e. e.0) es i) ∙ by (slice_get es i) ∙ sym (ap is_some (slice_get-map (λ e. e.1) es i))
    where
      by : (o : Option (List ℕ × V)) → is_some (option_map (λ e. e.0) o) ≡ is_some (option_map (λ e. e.1) o)
      by None = refl
      by (Some e) = refl

  -- so it isn't told the one without the other
  pub not-at : (es : List (List ℕ × V)) (i : ℕ) (P : Type 0) (k : Option (List ℕ)) (v : Option V) → slice_get (keys_of es) i ≡ k → slice_get (values_of es) i ≡ v → not (is_some k) ≡ is_some v → P
  not-at es i P k v key value unlike = absurd (by (is_some k) (unlike ∙ sym (ap is_some value) ∙ sym (both-at es i) ∙ ap is_some key))
    where
      by : (b : Bool) → not b ≡ b → ⊥
      by true e = false≢true e
      by false e = false≢true (sym e)

-- the first place of a name has that name
pub place-found : (name : List ℕ) (ks : List (List ℕ)) (i : ℕ) → position (bytes_eq name) ks ≡ Some i → slice_get ks i ≡ Some name
place-found name ks i h = by (nat_lt at (length ks)) (ltb-true at (length ks)) h
  where
    at : ℕ
    at = position_or_len (bytes_eq name) ks

    by : (b : Bool) → (b ≡ true → at < length ks) → cond b (Some at) None ≡ Some i → slice_get ks i ≡ Some name
    by true lt e =
        let same : at ≡ i = cc in
        let is : name ≡ get_or ks at [] = (bytes_eq-Decides name (get_or ks at [])).0 (passes_at_first (bytes_eq name) ks [] (lt refl)) in
        ap (slice_get ks) (sym same) ∙ slice_get-get_or ks at [] (lt refl) ∙ ap Some (sym is)
    by false lt e = absurd (cc)

-- the same of a look-up that may find none
pub place-is : (name : List ℕ) (ks : List (List ℕ)) (o : Option ℕ) → o ≡ position (bytes_eq name) ks → IfSome o (λ i. slice_get ks i ≡ Some name)
place-is name ks None h = tt
place-is name ks (Some i) h = place-found name ks i (sym h)

-- another value at the place of a name
pub changed-place : {V S : Type 0} (m : IndexMap (List ℕ) V S) (i : ℕ) (w : V) → IsUnique bytes_eq m → (name : List ℕ) → slice_get (keys_of m.entries) i ≡ Some name
    → (q : List ℕ) → lookup (bytes_eq q) (with_value_at m i w).entries ≡ cond (same_name name q) (Some w) (lookup (bytes_eq q) m.entries)
changed-place m i w unique name there =
    let entry = entry-at m.entries i name there in
    changed-at m.entries (with_value_at m i w).entries name name (Some w) refl (updates-with_value_at m i w nat_list_eq_equiv unique name entry.0 entry.1).0

-- the names of entries with one more entry
keys-push : {V : Type 0} (es : List (List ℕ × V)) (e : List ℕ × V) → keys_of (es ++ e ∷ []) ≡ keys_of es ++ e.0 ∷ []
keys-push [] e = refl
keys-push (x ∷ xs) e = ap (λ ks. x.0 ∷ ks) (keys-push xs e)

-- a new name goes last
pub keys-added : {V S : Type 0} (m : IndexMap (List ℕ) V S) (k : List ℕ) (v : V) (new : List (List ℕ × V)) → new ≡ insert_entry bytes_eq m.entries k v → lookup (bytes_eq k) m.entries ≡ None
    → keys_of new ≡ keys_of m.entries ++ k ∷ []
keys-added m k v new is none = ap keys_of (is ∙ insert_entry-new bytes_eq m k v none) ∙ keys-push m.entries (k, v)

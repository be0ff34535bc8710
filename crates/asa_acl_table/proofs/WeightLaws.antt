-- What all lines of all lists add up to, after a line has come or gone.
use Rattle.std.proofs.Common.{◌≡◌, ℕ, ◌+◌, ◌≤◌, ◌<◌, Bool, true, false, cond, List, [], ◌∷◌, ◌++◌, length, take, drop, get_or, remove, slice_get, Option, Some, None, Decides, refl, sym, ap, ◌∙◌, suc, arith}
use Rattle.std.specs.List.{sum_by}
use Rattle.std.specs.Str.{bytes_eq}
use Rattle.std.proofs.Math.Seq.{drop-cons}
use Rattle.std.proofs.lemmas.List.{take-append-drop}
use Rattle.std.proofs.lemmas.List.Sums.{sum_by-cons, sum_by-append, sum_by-insert, sum_by_push}
use Rattle.std.proofs.lemmas.Option.{get_or_from_slice_get, slice_get_within}
use Rattle.std.proofs.lemmas.Slice.Eq.{bytes_eq-Decides}
use Rattle.asa_acl_line.specs.declared.ace.AclLine.{AclLine}
use Rattle.asa_acl.specs.Acls.{AccessLines, with_line, without_at, lines_before}
use Rattle.asa_acl_table.specs.declared.new_line.NewLine.{NewLine}
use Rattle.asa_acl_table.specs.Lists.{has_name, list_among, with_list, without_list, list_of, put_in, without_place, weight}

-- a list that is found by a name has that name
pub found_name : (ts : List AccessLines) (name : List ℕ) (t : AccessLines) → list_among ts name ≡ Some t → name ≡ t.name
found_name [] name t found = absurd (cc)
found_name (u ∷ ts) name t found = by (has_name name u) (bytes_eq-Decides name u.name) found (λ there. found_name ts name t there)
  where
    by : (b : Bool) → Decides b (name ≡ u.name) → cond b (Some u) (list_among ts name) ≡ Some t → (list_among ts name ≡ Some t → name ≡ t.name) → name ≡ t.name
    by true same here more = let this : u ≡ t = cc in same.0 refl ∙ ap (λ x. x.name) this
    by false same there more = more there

-- a list with a further line has its name
pub put_named : (place : Option ℕ) (item : AclLine) (t : AccessLines) → (with_line t place item).name ≡ t.name
unfolding with_line
put_named place item t = refl

module _ (w : AclLine → ℕ) where
  -- a list has taken the place of another
  pub weight_with : (ts : List AccessLines) (new old : AccessLines) → list_among ts new.name ≡ Some old → weight w (with_list ts new) + sum_by w old.lines ≡ weight w ts + sum_by w new.lines
  weight_with [] new old found = absurd (cc)
  weight_with (t ∷ ts) new old found = by (has_name new.name t) found (λ there. weight_with ts new old there)
    where
      by : (b : Bool) → cond b (Some t) (list_among ts new.name) ≡ Some old
          → (list_among ts new.name ≡ Some old → weight w (with_list ts new) + sum_by w old.lines ≡ weight w ts + sum_by w new.lines)
          → weight w (cond b (new ∷ ts) (t ∷ with_list ts new)) + sum_by w old.lines ≡ weight w (t ∷ ts) + sum_by w new.lines
      by true here more =
          let this : t ≡ old = cc in
          omega (arith, ap (λ x. sum_by w x.lines) this, sum_by-cons (λ x. sum_by w x.lines) new ts, sum_by-cons (λ x. sum_by w x.lines) t ts)
      by false there more =
          omega (arith, more there, sum_by-cons (λ x. sum_by w x.lines) t (with_list ts new), sum_by-cons (λ x. sum_by w x.lines) t ts)

  -- a list has gone
  pub weight_without : (ts : List AccessLines) (name : List ℕ) (old : AccessLines) → list_among ts name ≡ Some old → weight w (without_list ts name) + sum_by w old.lines ≡ weight w ts
  weight_without [] name old found = absurd (cc)
  weight_without (t ∷ ts) name old found = by (has_name name t) found (λ there. weight_without ts name old there)
    where
      by : (b : Bool) → cond b (Some t) (list_among ts name) ≡ Some old
          → (list_among ts name ≡ Some old → weight w (without_list ts name) + sum_by w old.lines ≡ weight w ts)
          → weight w (cond b ts (t ∷ without_list ts name)) + sum_by w old.lines ≡ weight w (t ∷ ts)
      by true here more =
          let this : t ≡ old = cc in
          omega (arith, ap (λ x. sum_by w x.lines) this, sum_by-cons (λ x. sum_by w x.lines) t ts)
      by false there more =
          omega (arith, more there, sum_by-cons (λ x. sum_by w x.lines) t (without_list ts name), sum_by-cons (λ x. sum_by w x.lines) t ts)

  -- a list weighs no more than all
  pub weight_at_most : (ts : List AccessLines) (name : List ℕ) (t : AccessLines) → list_among ts name ≡ Some t → sum_by w t.lines ≤ weight w ts
  weight_at_most ts name t found = omega (arith, weight_without ts name t found)

  -- a list of one line weighs what the line does
  pub weight_more : (ts : List AccessLines) (name : List ℕ) (item : AclLine) → weight w (ts ++ list_of name item ∷ []) ≡ weight w ts + w item
  weight_more ts name item = omega (arith, sum_by_push (λ x. sum_by w x.lines) ts (list_of name item), sum_by-cons w item [])

  -- a line in a list
  pub lines_with : (l : AccessLines) (place : Option ℕ) (item : AclLine) → sum_by w (with_line l place item).lines ≡ sum_by w l.lines + w item
  unfolding with_line
  lines_with l place item = sum_by-insert w l.lines (lines_before place (length l.lines)) item

  sum_remove : (xs : List AclLine) (i : ℕ) (d : AclLine) → i < length xs → sum_by w (remove xs i) + w (get_or xs i d) ≡ sum_by w xs
  sum_remove xs i d lt =
      omega (
        arith,
        sum_by-append w (take i xs) (drop (suc i) xs),
        sum_by-append w (take i xs) (drop i xs),
        ap (sum_by w) (take-append-drop i xs),
        ap (sum_by w) (drop-cons xs i d lt),
        sum_by-cons w (get_or xs i d) (drop (suc i) xs),
      )

  -- and a line that leaves it
  pub lines_without : (l : AccessLines) (place : ℕ) (item : AclLine) → slice_get l.lines place ≡ Some item → sum_by w (without_at l place).lines + w item ≡ sum_by w l.lines
  lines_without l place item there =
      ap (λ x. sum_by w (without_at l place).lines + w x) (sym (get_or_from_slice_get l.lines place item item there))
      ∙ sum_remove l.lines place item (slice_get_within l.lines place item there)

  -- a line has gone into one of the lists, or has begun one
  pub weight_put : (ts : List AccessLines) (new : NewLine) → weight w (put_in ts new (list_among ts new.list)) ≡ weight w ts + w new.item
  weight_put ts new = by (list_among ts new.list) refl
    where
      by : (o : Option AccessLines) → list_among ts new.list ≡ o → weight w (put_in ts new o) ≡ weight w ts + w new.item
      by None found = weight_more ts new.list new.item
      by (Some l) found =
          let is : new.list ≡ (with_line l new.place new.item).name = found_name ts new.list l found ∙ sym (put_named new.place new.item l) in
          omega (arith, weight_with ts (with_line l new.place new.item) l (ap (list_among ts) (sym is) ∙ found), lines_with l new.place new.item)

  -- the line at a place has left one of the lists
  pub weight_gone : (ts : List AccessLines) (name : List ℕ) (l : AccessLines) (place : ℕ) (d : AclLine) (n : ℕ) → list_among ts name ≡ Some l → place < length l.lines → n ≡ w (get_or l.lines place d)
      → weight w (without_place ts place (list_among ts name)) + n ≡ weight w ts
  weight_gone ts name l place d n found within told =
      ap (λ o. weight w (without_place ts place o) + n) found
      ∙ omega (arith, told, weight_with ts (without_at l place) l (ap (list_among ts) (sym (found_name ts name l found)) ∙ found), sum_remove l.lines place d within)

  -- the same, where the line is told
  pub weight_taken : (ts : List AccessLines) (name : List ℕ) (place : ℕ) (l : AccessLines) (item : AclLine) → list_among ts name ≡ Some l → slice_get l.lines place ≡ Some item
      → weight w (without_place ts place (list_among ts name)) + w item ≡ weight w ts
  weight_taken ts name place l item found there =
      weight_gone ts name l place item (w item) found (slice_get_within l.lines place item there) (sym (ap w (get_or_from_slice_get l.lines place item item there)))

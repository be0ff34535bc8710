-- A map from names to lists is the list of its values, where each key is the name of its list; and the names in their
-- lines are counted.
use Rattle.std.proofs.Common.{◌≡◌, ℕ, ◌+◌, ◌-◌, ◌≤◌, ◌<◌, Bool, true, false, cond, List, [], ◌∷◌, ◌++◌, length, take, zero, slice_get, Option, Some, None, is_some, IfSome, IsSomeAnd, refl, sym, ap, subst, ◌∙◌, suc, arith}
use Rattle.std.proofs.lemmas.List.{length-append}
use Rattle.std.specs.List.{sum_by}
use Rattle.std.proofs.lemmas.List.Sums.{sum_by_push}
use Rattle.std.specs.Map.{lookup, set_value, remove_entry}
use Rattle.std.specs.Str.{bytes_eq}
use Rattle.indexmap.specs.IndexMap.{insert_entry}
use Rattle.asa_acl_line.specs.declared.ace.AclLine.{AclLine}
use Rattle.asa_acl.specs.Acls.{AccessLines, with_line, without_at}
use Rattle.asa_acl_boxes.specs.Meanings.{Meanings}
use Rattle.asa_acl_boxes.specs.Pairs.{list_pairs}
use Rattle.asa_acl_table.specs.Names.{pairs_of_lists}
use Rattle.asa_acl_table.specs.Uses.{count_of, times_in, times_in_lines, AreDropped}
use Rattle.asa_acl_table.specs.Lists.{has_name, list_among, with_list, without_list, without_place, list_of, weight, Keyed, values, IsTable}
use Rattle.asa_acl_table.proofs.WeightLaws.{found_name, put_named, weight_with, weight_without, weight_at_most, weight_more, lines_with, lines_without}

abbrev Counts : Type 0
Counts = List (List ℕ × ℕ)

abbrev Entries : Type 0
Entries = List (List ℕ × AccessLines)

-- a look-up by key is a search by the list's name
pub lookup_keyed : (es : Entries) (name : List ℕ) → Keyed es → lookup (bytes_eq name) es ≡ list_among (values es) name
lookup_keyed [] name keyed = refl
lookup_keyed (e ∷ es) name keyed =
    ap (λ k. cond (bytes_eq name k) (Some e.1) (lookup (bytes_eq name) es)) keyed.0
    ∙ ap (λ rest. cond (has_name name e.1) (Some e.1) rest) (lookup_keyed es name keyed.1)

-- a list that takes the place of the one that has its name
pub set_values : (es : Entries) (name : List ℕ) (new : AccessLines) → Keyed es → name ≡ new.name
    → values (set_value (bytes_eq name) es new) ≡ with_list (values es) new
set_values [] name new keyed same = refl
set_values (e ∷ es) name new keyed same =
    split (bytes_eq name e.0)
    ∙ ap (λ b. cond b (new ∷ values es) (e.1 ∷ values (set_value (bytes_eq name) es new))) (ap (bytes_eq name) keyed.0 ∙ ap (λ n. bytes_eq n e.1.name) same)
    ∙ ap (λ rest. cond (has_name new.name e.1) (new ∷ values es) (e.1 ∷ rest)) (set_values es name new keyed.1 same)
  where
    split : (b : Bool) → values (cond b ((e.0, new) ∷ es) (e ∷ set_value (bytes_eq name) es new)) ≡ cond b (new ∷ values es) (e.1 ∷ values (set_value (bytes_eq name) es new))
    split true = refl
    split false = refl

pub removed_values : (es : Entries) (name : List ℕ) → Keyed es → values (remove_entry (bytes_eq name) es) ≡ without_list (values es) name
removed_values [] name keyed = refl
removed_values (e ∷ es) name keyed =
    split (bytes_eq name e.0)
    ∙ ap (λ b. cond b (values es) (e.1 ∷ values (remove_entry (bytes_eq name) es))) (ap (bytes_eq name) keyed.0)
    ∙ ap (λ rest. cond (has_name name e.1) (values es) (e.1 ∷ rest)) (removed_values es name keyed.1)
  where
    split : (b : Bool) → values (cond b es (e ∷ remove_entry (bytes_eq name) es)) ≡ cond b (values es) (e.1 ∷ values (remove_entry (bytes_eq name) es))
    split true = refl
    split false = refl

-- what stays keyed
pub keyed_set : (es : Entries) (name : List ℕ) (new : AccessLines) → Keyed es → (old : AccessLines) → lookup (bytes_eq name) es ≡ Some old → old.name ≡ new.name
    → Keyed (set_value (bytes_eq name) es new)
keyed_set [] name new keyed old found same = tt
keyed_set (e ∷ es) name new keyed old found same = by (bytes_eq name e.0) found (λ there. keyed_set es name new keyed.1 old there same)
  where
    by : (b : Bool) → cond b (Some e.1) (lookup (bytes_eq name) es) ≡ Some old → (lookup (bytes_eq name) es ≡ Some old → Keyed (set_value (bytes_eq name) es new))
        → Keyed (cond b ((e.0, new) ∷ es) (e ∷ set_value (bytes_eq name) es new))
    by true here more = let this : e.1 ≡ old = cc in (keyed.0 ∙ ap (λ t. t.name) this ∙ same, keyed.1)
    by false there more = (keyed.0, more there)

pub keyed_removed : (es : Entries) (name : List ℕ) → Keyed es → Keyed (remove_entry (bytes_eq name) es)
keyed_removed [] name keyed = tt
keyed_removed (e ∷ es) name keyed = by (bytes_eq name e.0) (keyed_removed es name keyed.1)
  where
    by : (b : Bool) → Keyed (remove_entry (bytes_eq name) es) → Keyed (cond b es (e ∷ remove_entry (bytes_eq name) es))
    by true more = keyed.1
    by false more = (keyed.0, more)

pub keyed_more : (es : Entries) (name : List ℕ) (new : AccessLines) → Keyed es → name ≡ new.name → Keyed (es ++ (name, new) ∷ [])
keyed_more [] name new keyed same = (same, tt)
keyed_more (e ∷ es) name new keyed same = (keyed.0, keyed_more es name new keyed.1 same)

-- a key that isn't there goes last
pub insert_absent : (es : Entries) (name : List ℕ) (new : AccessLines) → lookup (bytes_eq name) es ≡ None → insert_entry bytes_eq es name new ≡ es ++ (name, new) ∷ []
insert_absent [] name new absent = refl
insert_absent (e ∷ es) name new absent = by (bytes_eq name e.0) absent (λ there. insert_absent es name new there)
  where
    by : (b : Bool) → cond b (Some e.1) (lookup (bytes_eq name) es) ≡ None → (lookup (bytes_eq name) es ≡ None → insert_entry bytes_eq es name new ≡ es ++ (name, new) ∷ [])
        → cond b ((e.0, new) ∷ es) (e ∷ insert_entry bytes_eq es name new) ≡ e ∷ (es ++ (name, new) ∷ [])
    by true here more = absurd (cc)
    by false there more = ap (λ rest. e ∷ rest) (more there)

pub values_more : (es : Entries) (name : List ℕ) (new : AccessLines) → values (es ++ (name, new) ∷ []) ≡ values es ++ new ∷ []
values_more [] name new = refl
values_more (e ∷ es) name new = ap (λ rest. e.1 ∷ rest) (values_more es name new)

pub length_with : (ts : List AccessLines) (new : AccessLines) → length (with_list ts new) ≡ length ts
length_with [] new = refl
length_with (t ∷ ts) new = by (has_name new.name t) (length_with ts new)
  where
    by : (b : Bool) → length (with_list ts new) ≡ length ts → length (cond b (new ∷ ts) (t ∷ with_list ts new)) ≡ suc (length ts)
    by true more = refl
    by false more = ap suc more

pub length_without : (ts : List AccessLines) (name : List ℕ) → length (without_list ts name) ≤ length ts
length_without [] name = omega arith
length_without (t ∷ ts) name = by (has_name name t) (length_without ts name)
  where
    by : (b : Bool) → length (without_list ts name) ≤ length ts → length (cond b ts (t ∷ without_list ts name)) ≤ suc (length ts)
    by true more = omega arith
    by false more = omega (arith, more)

length_more : (ts : List AccessLines) (t : AccessLines) → length (ts ++ t ∷ []) ≡ length ts + 1
length_more ts t = length-append ts (t ∷ [])

-- what holds of the list with a name, as the map tells it
pub there_of : (P : AccessLines → Type 0) (es : Entries) (ts : List AccessLines) (name : List ℕ) → Keyed es → ts ≡ values es → IsSomeAnd (list_among ts name) P
    → IsSomeAnd (lookup (bytes_eq name) es) P
there_of P es ts name keyed same there =
    subst (λ o. IsSomeAnd o P) (sym (lookup_keyed es name keyed)) (subst (λ us. IsSomeAnd (list_among us name) P) same there)

-- a list that is there is in the map
pub not_there : (es : Entries) (ts : List AccessLines) (name : List ℕ) → Keyed es → ts ≡ values es → is_some (list_among ts name) ≡ true → None ≡ lookup (bytes_eq name) es → ⊥
not_there es ts name keyed same there absent =
    let gone : list_among ts name ≡ None = ap (λ us. list_among us name) same ∙ sym (lookup_keyed es name keyed) ∙ sym absent in
    absurd (cc)

-- f changes a list, and leaves its name as it is
module _ (f : AccessLines → AccessLines) (named : (t : AccessLines) → (f t).name ≡ t.name) where
  -- the map in which the list of this name is changed
  changed : (es fs : Entries) (us vs : Counts) (ts : List AccessLines) (name : List ℕ) (t : AccessLines) → IsTable es us → ts ≡ values es → list_among ts name ≡ Some t
      → IfSome (lookup (bytes_eq name) es) (λ u. fs ≡ set_value (bytes_eq name) es (f u))
      → ((q : List ℕ) → count_of vs q + times_in_lines q t.lines ≡ count_of us q + times_in_lines q (f t).lines)
      → IsTable fs vs × (values fs ≡ with_list ts (f t))
  changed es fs us vs ts name t table same found wrote counts =
      let here : list_among (values es) name ≡ Some t = ap (λ us. list_among us name) (sym same) ∙ found in
      let there : lookup (bytes_eq name) es ≡ Some t = lookup_keyed es name table.keyed ∙ here in
      let told : fs ≡ set_value (bytes_eq name) es (f t) = subst (λ o. IfSome o (λ u. fs ≡ set_value (bytes_eq name) es (f u))) there wrote in
      let name_is : name ≡ (f t).name = found_name (values es) name t here ∙ sym (named t) in
      let values_are : values fs ≡ with_list (values es) (f t) = ap values told ∙ set_values es name (f t) table.keyed name_is in
      let at : list_among (values es) (f t).name ≡ Some t = ap (list_among (values es)) (sym name_is) ∙ here in (
        record {
          keyed = subst Keyed (sym told) (keyed_set es name (f t) table.keyed t there (sym (named t)));
          few_lists = omega (arith, ap length values_are, length_with (values es) (f t), table.few_lists);
          used = λ q. omega (arith, counts q, table.used q, weight_with (times_in q) (values es) (f t) t at, ap (weight (times_in q)) values_are);
        },
        values_are ∙ ap (λ us. with_list us (f t)) (sym same),
      )

-- after a line has gone in
pub table_put : (es fs : Entries) (us vs : Counts) (ts : List AccessLines) (name : List ℕ) (place : Option ℕ) (item : AclLine) (P : AccessLines → Type 0) → IsTable es us → ts ≡ values es
    → IsSomeAnd (list_among ts name) P → ((q : List ℕ) → count_of vs q ≡ count_of us q + times_in q item)
    → IfSome (lookup (bytes_eq name) es) (λ t. fs ≡ set_value (bytes_eq name) es (with_line t place item))
    → IsTable fs vs × IfSome (list_among ts name) (λ t. values fs ≡ with_list ts (with_line t place item))
table_put es fs us vs ts name place item P table same there counts wrote = by (list_among ts name) refl there
  where
    by : (o : Option AccessLines) → list_among ts name ≡ o → IsSomeAnd o P → IsTable fs vs × IfSome o (λ t. values fs ≡ with_list ts (with_line t place item))
    by None found there = absurd there
    by (Some t) found there =
        changed (λ u. with_line u place item) (put_named place item) es fs us vs ts name t table same found wrote
        (λ q. omega (arith, counts q, lines_with (times_in q) t place item))

line_there : (ls : List AclLine) (i : ℕ) → i < length ls → (l : AclLine) × (slice_get ls i ≡ Some l)
line_there [] i lt = absurd (omega (arith, lt))
line_there (l ∷ ls) zero lt = (l, refl)
line_there (l ∷ ls) (suc i) lt = line_there ls i (omega (arith, lt))

-- and after one has been removed
pub table_taken : (es fs : Entries) (us vs : Counts) (ts : List AccessLines) (name : List ℕ) (place : ℕ) → IsTable es us → ts ≡ values es
    → IsSomeAnd (list_among ts name) (λ t. place < length t.lines)
    → IfSome (lookup (bytes_eq name) es) (λ t. IfSome (slice_get t.lines place) (λ item. AreDropped us vs item))
    → IfSome (lookup (bytes_eq name) es) (λ t. fs ≡ set_value (bytes_eq name) es (without_at t place))
    → IsTable fs vs × (values fs ≡ without_place ts place (list_among ts name))
table_taken es fs us vs ts name place table same there dropped wrote = by (list_among ts name) refl there
  where
    by : (o : Option AccessLines) → list_among ts name ≡ o → IsSomeAnd o (λ t. place < length t.lines) → IsTable fs vs × (values fs ≡ without_place ts place o)
    by None found there = absurd there
    by (Some t) found there =
        let here : list_among (values es) name ≡ Some t = ap (λ us. list_among us name) (sym same) ∙ found in
        let line = line_there t.lines place there in
        let at : lookup (bytes_eq name) es ≡ Some t = lookup_keyed es name table.keyed ∙ here in
        let less : AreDropped us vs line.0 =
        subst (λ o. IfSome o (λ item. AreDropped us vs item)) line.1 (subst (λ o. IfSome o (λ u. IfSome (slice_get u.lines place) (λ item. AreDropped us vs item))) at dropped) in
        changed (λ u. without_at u place) (λ u. refl) es fs us vs ts name t table same found wrote
        (λ q. omega (arith, less q, lines_without (times_in q) t place line.0 line.1, weight_at_most (times_in q) (values es) name t here, table.used q))

-- a list is begun
pub table_begun : (es fs : Entries) (us vs : Counts) (ts : List AccessLines) (name : List ℕ) (item : AclLine) (new : AccessLines) (key : List ℕ) → IsTable es us → ts ≡ values es → list_among ts name ≡ None
    → length ts < 1024 → ((q : List ℕ) → count_of vs q ≡ count_of us q + times_in q item) → key ≡ name → new ≡ list_of name item → fs ≡ insert_entry bytes_eq es key new
    → IsTable fs vs × (values fs ≡ ts ++ list_of name item ∷ [])
table_begun es fs us vs ts name item new key table same absent room counts named is wrote =
    let gone : lookup (bytes_eq name) es ≡ None = lookup_keyed es name table.keyed ∙ ap (λ us. list_among us name) (sym same) ∙ absent in
    let told : fs ≡ es ++ (name, list_of name item) ∷ [] =
    wrote ∙ ap (λ k. insert_entry bytes_eq es k new) named ∙ ap (insert_entry bytes_eq es name) is ∙ insert_absent es name (list_of name item) gone in
    let values_are : values fs ≡ values es ++ list_of name item ∷ [] = ap values told ∙ values_more es name (list_of name item) in (
      record {
        keyed = subst Keyed (sym told) (keyed_more es name (list_of name item) table.keyed refl);
        few_lists = omega (arith, ap length values_are, length_more (values es) (list_of name item), ap length same, room);
        used = λ q. omega (arith, counts q, table.used q, weight_more (times_in q) (values es) name item, ap (weight (times_in q)) values_are);
      },
      values_are ∙ ap (λ us. us ++ list_of name item ∷ []) (sym same),
    )

-- a list is removed
pub table_removed : (es fs : Entries) (us vs : Counts) (ts : List AccessLines) (name : List ℕ) (t : AccessLines) → IsTable es us → ts ≡ values es
    → Some t ≡ lookup (bytes_eq name) es → fs ≡ remove_entry (bytes_eq name) es → ((q : List ℕ) → count_of vs q ≡ count_of us q - times_in_lines q t.lines)
    → IsTable fs vs × (values fs ≡ without_list ts name)
table_removed es fs us vs ts name t table same there wrote counts =
    let here : list_among (values es) name ≡ Some t = sym (lookup_keyed es name table.keyed) ∙ sym there in
    let values_are : values fs ≡ without_list (values es) name = ap values wrote ∙ removed_values es name table.keyed in (
      record {
        keyed = subst Keyed (sym wrote) (keyed_removed es name table.keyed);
        few_lists = omega (arith, ap length values_are, length_without (values es) name, table.few_lists);
        used = λ q. omega (arith, counts q, table.used q, weight_without (times_in q) (values es) name t here, ap (weight (times_in q)) values_are);
      },
      values_are ∙ ap (λ us. without_list us name) (sym same),
    )

-- one more list is counted
take_more : (ts : List AccessLines) (i : ℕ) (k : AccessLines) → Some k ≡ slice_get ts i → take (i + 1) ts ≡ take i ts ++ k ∷ []
take_more ts i k found = let one : suc i ≡ i + 1 = omega arith in ap (λ j. take j ts) (sym one) ∙ walk ts i found
  where
    walk : (us : List AccessLines) (j : ℕ) → Some k ≡ slice_get us j → take (suc j) us ≡ take j us ++ k ∷ []
    walk [] j e = absurd (cc)
    walk (u ∷ us) zero e = let this : k ≡ u = cc in ap (λ x. x ∷ []) (sym this)
    walk (u ∷ us) (suc j) e = ap (λ ls. u ∷ ls) (walk us j e)

pub total_more : (m : Meanings) (ts : List AccessLines) (i n total : ℕ) (k : AccessLines) → Some k ≡ slice_get ts i → total ≡ pairs_of_lists m (take i ts)
    → n ≡ list_pairs m k.lines → total + n ≡ pairs_of_lists m (take (i + 1) ts)
total_more m ts i n total k found before told =
    ap (λ t. t + n) before ∙ ap (λ x. pairs_of_lists m (take i ts) + x) told
    ∙ sym (sum_by_push (λ x. list_pairs m x.lines) (take i ts) k) ∙ ap (pairs_of_lists m) (sym (take_more ts i k found))

-- Ranks that take the place of others, and values that come back.
use Rattle.std.proofs.Common.{◌≡◌, ℕ, ◌+◌, ◌<◌, Bool, true, false, cond, ◌||◌, List, [], ◌∷◌, length, take, get_or, Option, Some, None, is_some, refl, sym, ap, ◌∙◌, arith}
use Rattle.std.specs.Map.{lookup, set_value, keys_of}
use Rattle.std.specs.List.Sorted.{IsStrictlySortedBy}
use Rattle.std.proofs.lemmas.Map.Keys.{sorted_tail}
use Rattle.std.proofs.lemmas.Map.Entries.{lookup_at_gap}
use Rattle.asa_objects_lines.specs.declared.statement.Item.{Item}
use Rattle.std.specs.BTreeMap.{is_at, insert_entry}
use Rattle.std.specs.Map.{remove_entry}
use Rattle.std.specs.Ordering.{nat_cmp, match_ordering, is_eq}
use Rattle.std.specs.declared.cmp.Ordering.{Ordering}
use Rattle.std.specs.declared.cmp.Ordering.TheVariants as cmp
use Rattle.std.specs.Cmp.Lexicographic.{slice_cmp}
use Rattle.std.proofs.lemmas.Cmp.{nat_list_cmp_total}
use Rattle.asa_objects_table.specs.declared.rank.Rank.{Rank}
use Rattle.asa_objects_values.specs.Tables.{Entry, Table, entry_of, same_name, with_entry}
use Rattle.asa_objects_values.specs.Drafts.{changed_entry}
use Rattle.asa_objects_table.specs.Changes.{changed_at, changed_in}
use Rattle.asa_objects_table.specs.Ranks.{Ranks, rank_of, has_name}
use Rattle.asa_objects_table.specs.Renewals.{newer}
use Rattle.asa_objects_values.proofs.LabelLaws.{same-is, same-self}
use Rattle.asa_objects_table.proofs.UseLaws.{same-sym, has-more}

-- one more of the names has its new rank
pub set-more-ranks : (ranks new now made : Ranks) (names : List (List ℕ)) (i : ℕ) (d : List ℕ) → i < length names → d ≡ get_or names i d
    → ((q : List ℕ) → rank_of now q ≡ cond (has_name (take i names) q) (newer (rank_of new q) (rank_of ranks q)) (rank_of ranks q))
    → ((q : List ℕ) → rank_of made q ≡ cond (same_name d q) (newer (rank_of new d) (rank_of now q)) (rank_of now q))
    → (q : List ℕ) → rank_of made q ≡ cond (has_name (take (i + 1) names) q) (newer (rank_of new q) (rank_of ranks q)) (rank_of ranks q)
set-more-ranks ranks new now made names i d lt is was put q =
    by (same_name d q) refl (put q) ∙ ap (λ (b : Bool). cond b (newer (rank_of new q) (rank_of ranks q)) (rank_of ranks q)) (ap (λ b. has_name (take i names) q || b) (same-sym d q) ∙ sym (has-more names i d q lt is))
  where
    twice : (n r : Option Rank) (b : Bool) → newer n (cond b (newer n r) r) ≡ newer n r
    twice None r true = refl
    twice None r false = refl
    twice (Some x) r true = refl
    twice (Some x) r false = refl

    or-true : (b : Bool) (n r : Option Rank) → newer n r ≡ cond (b || true) (newer n r) r
    or-true true n r = refl
    or-true false n r = refl

    or-false : (b : Bool) (n r : Option Rank) → cond b (newer n r) r ≡ cond (b || false) (newer n r) r
    or-false true n r = refl
    or-false false n r = refl

    by : (b : Bool) → same_name d q ≡ b → rank_of made q ≡ cond b (newer (rank_of new d) (rank_of now q)) (rank_of now q)
        → rank_of made q ≡ cond (has_name (take i names) q || same_name d q) (newer (rank_of new q) (rank_of ranks q)) (rank_of ranks q)
    by true e p =
        p ∙ ap (λ k. newer (rank_of new k) (rank_of now q)) (same-is d q e) ∙ ap (newer (rank_of new q)) (was q)
        ∙ twice (rank_of new q) (rank_of ranks q) (has_name (take i names) q)
        ∙ or-true (has_name (take i names) q) (rank_of new q) (rank_of ranks q)
        ∙ ap (λ b. cond (has_name (take i names) q || b) (newer (rank_of new q) (rank_of ranks q)) (rank_of ranks q)) (sym e)
    by false e p =
        p ∙ was q ∙ or-false (has_name (take i names) q) (rank_of new q) (rank_of ranks q)
        ∙ ap (λ b. cond (has_name (take i names) q || b) (newer (rank_of new q) (rank_of ranks q)) (rank_of ranks q)) (sym e)

-- the ranks are the new ones where there are such
pub set-newer : (ranks new made : Ranks) (names : List (List ℕ)) → ((q : List ℕ) → is_some (rank_of new q) ≡ has_name names q)
    → ((q : List ℕ) → rank_of made q ≡ cond (has_name names q) (newer (rank_of new q) (rank_of ranks q)) (rank_of ranks q))
    → (q : List ℕ) → rank_of made q ≡ newer (rank_of new q) (rank_of ranks q)
set-newer ranks new made names covers set q = set q ∙ by (rank_of new q) (covers q)
  where
    by : (o : Option Rank) → is_some o ≡ has_name names q → cond (has_name names q) (newer o (rank_of ranks q)) (rank_of ranks q) ≡ newer o (rank_of ranks q)
    by None h = ap (λ (b : Bool). cond b (rank_of ranks q) (rank_of ranks q)) (sym h)
    by (Some r) h = ap (λ (b : Bool). cond b (Some r) (rank_of ranks q)) (sym h)

-- a name that goes again
pub name-gone : {V : Type 0} (name : List ℕ) (v : V) (es : List (List ℕ × V)) → lookup (is_at (slice_cmp nat_cmp name)) es ≡ None
    → remove_entry (is_at (slice_cmp nat_cmp name)) (insert_entry (slice_cmp nat_cmp) es name v) ≡ es
name-gone name v [] absent = ap (λ (b : Bool). cond b [] ((name, v) ∷ [])) (same-self name)
name-gone {V} name v (e ∷ es) absent = by (slice_cmp nat_cmp name e.0) refl absent (λ more. name-gone name v es more)
  where
    by : (r : Ordering) → slice_cmp nat_cmp name e.0 ≡ r → cond (is_eq r) (Some e.1) (lookup (is_at (slice_cmp nat_cmp name)) es) ≡ None
        → (lookup (is_at (slice_cmp nat_cmp name)) es ≡ None → remove_entry (is_at (slice_cmp nat_cmp name)) (insert_entry (slice_cmp nat_cmp) es name v) ≡ es)
        → remove_entry (is_at (slice_cmp nat_cmp name)) (match_ordering r ((name, v) ∷ e ∷ es) ((e.0, v) ∷ es) (e ∷ insert_entry (slice_cmp nat_cmp) es name v)) ≡ e ∷ es
    by cmp.Less same none more = ap (λ (b : Bool). cond b (e ∷ es) ((name, v) ∷ remove_entry (is_at (slice_cmp nat_cmp name)) (e ∷ es))) (same-self name)
    by cmp.Equal same none more = absurd (cc)
    by cmp.Greater same none more =
        ap (λ (r : Ordering). cond (is_eq r) (insert_entry (slice_cmp nat_cmp) es name v) (e ∷ remove_entry (is_at (slice_cmp nat_cmp name)) (insert_entry (slice_cmp nat_cmp) es name v))) same
        ∙ ap (λ rest. e ∷ rest) (more none)

-- a look-up after a value is put
pub entry-put : (t : Table) (name : List ℕ) (made : Entry) (q : List ℕ) → entry_of (with_entry t name made) q ≡ cond (same_name name q) (Some made) (entry_of t q)
entry-put [] name made q = ap (λ (b : Bool). cond b (Some made) None) (same-sym q name)
entry-put (e ∷ es) name made q = by (slice_cmp nat_cmp name e.0) refl (entry-put es name made q)
  where
    by : (r : Ordering) → slice_cmp nat_cmp name e.0 ≡ r → entry_of (with_entry es name made) q ≡ cond (same_name name q) (Some made) (entry_of es q)
        → entry_of (match_ordering r ((name, made) ∷ e ∷ es) ((e.0, made) ∷ es) (e ∷ with_entry es name made)) q ≡ cond (same_name name q) (Some made) (entry_of (e ∷ es) q)
    by cmp.Less same more = ap (λ (b : Bool). cond b (Some made) (entry_of (e ∷ es) q)) (same-sym q name)
    by cmp.Equal same more =
        let eq : name ≡ e.0 = same-is name e.0 (ap is_eq same) in
        here (same_name name q) (ap (λ k. same_name q k) (sym eq) ∙ same-sym q name)
      where
        here : (b : Bool) → same_name q e.0 ≡ b → cond (same_name q e.0) (Some made) (entry_of es q) ≡ cond b (Some made) (cond (same_name q e.0) (Some e.1) (entry_of es q))
        here true h = ap (λ (c : Bool). cond c (Some made) (entry_of es q)) h
        here false h = ap (λ (c : Bool). cond c (Some made) (entry_of es q)) h ∙ sym (ap (λ (c : Bool). cond c (Some e.1) (entry_of es q)) h)
    by cmp.Greater same more = there (same_name q e.0) refl
      where
        there : (b : Bool) → same_name q e.0 ≡ b → cond (same_name q e.0) (Some e.1) (entry_of (with_entry es name made) q) ≡ cond (same_name name q) (Some made) (cond (same_name q e.0) (Some e.1) (entry_of es q))
        there false h =
            ap (λ (c : Bool). cond c (Some e.1) (entry_of (with_entry es name made) q)) h ∙ more
            ∙ ap (λ (o : Option Entry). cond (same_name name q) (Some made) o) (sym (ap (λ (c : Bool). cond c (Some e.1) (entry_of es q)) h))
        there true h =
            let eq : q ≡ e.0 = same-is q e.0 h in
            let no : same_name name q ≡ false = ap (same_name name) eq ∙ ap is_eq same in
            ap (λ (c : Bool). cond c (Some e.1) (entry_of (with_entry es name made) q)) h
            ∙ sym (ap (λ (c : Bool). cond c (Some made) (cond (same_name q e.0) (Some e.1) (entry_of es q))) no ∙ ap (λ (c : Bool). cond c (Some e.1) (entry_of es q)) h)

-- a value that is written in its place
pub set-insert : {V : Type 0} (name : List ℕ) (v w : V) (es : List (List ℕ × V)) → IsStrictlySortedBy (slice_cmp nat_cmp) (keys_of es) → lookup (is_at (slice_cmp nat_cmp name)) es ≡ Some w
    → set_value (is_at (slice_cmp nat_cmp name)) es v ≡ insert_entry (slice_cmp nat_cmp) es name v
set-insert name v w [] sorted found = absurd (cc)
set-insert {V} name v w (e ∷ es) sorted found = by (slice_cmp nat_cmp name e.0) refl found (λ h. set-insert name v w es (sorted_tail (slice_cmp nat_cmp) e.0 (keys_of es) sorted) h)
  where
    gone : slice_cmp nat_cmp name e.0 ≡ cmp.Less → lookup (is_at (slice_cmp nat_cmp name)) (e ∷ es) ≡ None
    gone less = lookup_at_gap nat_list_cmp_total name (e ∷ es) 0 sorted (λ j x lt h. absurd (omega arith)) (λ x h. let same : e ≡ x = cc in ap (λ y. slice_cmp nat_cmp name y.0) (sym same) ∙ less)

    by : (r : Ordering) → slice_cmp nat_cmp name e.0 ≡ r → cond (is_eq r) (Some e.1) (lookup (is_at (slice_cmp nat_cmp name)) es) ≡ Some w
        → (lookup (is_at (slice_cmp nat_cmp name)) es ≡ Some w → set_value (is_at (slice_cmp nat_cmp name)) es v ≡ insert_entry (slice_cmp nat_cmp) es name v)
        → cond (is_eq r) ((e.0, v) ∷ es) (e ∷ set_value (is_at (slice_cmp nat_cmp name)) es v) ≡ match_ordering r ((name, v) ∷ e ∷ es) ((e.0, v) ∷ es) (e ∷ insert_entry (slice_cmp nat_cmp) es name v)
    by cmp.Less same f more =
        let none = ap (λ (r : Ordering). cond (is_eq r) (Some e.1) (lookup (is_at (slice_cmp nat_cmp name)) es)) (sym same) ∙ gone same in absurd (cc)
    by cmp.Equal same f more = refl
    by cmp.Greater same f more = ap (λ r. e ∷ r) (more f)

-- the value that was there is written in its place
pub set-same : {V : Type 0} (name : List ℕ) (w : V) (es : List (List ℕ × V)) → lookup (is_at (slice_cmp nat_cmp name)) es ≡ Some w → set_value (is_at (slice_cmp nat_cmp name)) es w ≡ es
set-same name w [] found = absurd (cc)
set-same {V} name w (e ∷ es) found = by (is_at (slice_cmp nat_cmp name) e.0) found (λ h. set-same name w es h)
  where
    by : (b : Bool) → cond b (Some e.1) (lookup (is_at (slice_cmp nat_cmp name)) es) ≡ Some w
        → (lookup (is_at (slice_cmp nat_cmp name)) es ≡ Some w → set_value (is_at (slice_cmp nat_cmp name)) es w ≡ es)
        → cond b ((e.0, w) ∷ es) (e ∷ set_value (is_at (slice_cmp nat_cmp name)) es w) ≡ e ∷ es
    by true f more = let same : w ≡ e.1 = cc in ap (λ x. (e.0, x) ∷ es) same
    by false f more = ap (λ r. e ∷ r) (more f)

-- a value that is changed in its place
pub change-put : (t n : Table) (name : List ℕ) (w e : Entry) (gone added : List Item) → IsStrictlySortedBy (slice_cmp nat_cmp) (keys_of t) → entry_of t name ≡ Some e
    → n ≡ set_value (is_at (slice_cmp nat_cmp name)) t w → w ≡ changed_entry e gone added → n ≡ changed_at t name gone added
change-put t n name w e gone added sorted found put is =
    put ∙ set-insert name w e t sorted found ∙ ap (with_entry t name) is ∙ sym (ap (λ o. changed_in t name gone added o) found)

pub change-kept : (t n : Table) (name : List ℕ) (w e : Entry) → entry_of t name ≡ Some e → n ≡ set_value (is_at (slice_cmp nat_cmp name)) t w → w ≡ e → n ≡ t
change-kept t n name w e found put is = put ∙ ap (set_value (is_at (slice_cmp nat_cmp name)) t) is ∙ set-same name e t found

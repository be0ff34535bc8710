-- Members at rising numbers.
use Rattle.std.proofs.Common.{◌≡◌, ℕ, ◌+◌, ◌<◌, ◌≤◌, Bool, true, false, cond, not, ◌||◌, List, [], ◌∷◌, ◌++◌, length, take, drop, get_or, ◌-◌, suc, Option, Some, None, is_some, refl, sym, ap, subst, ◌∙◌, arith, append_assoc}
use Rattle.std.specs.Cmp.{IsEquivalence, nat_cmp_is}
use Rattle.std.specs.List.{filter, find, AllByRecursion}
use Rattle.std.specs.Map.{lookup, remove_entry, values_of}
use Rattle.std.specs.BTreeMap.{is_at, insert_entry}
use Rattle.std.specs.Ordering.{nat_cmp, match_ordering, is_eq}
use Rattle.std.specs.declared.cmp.Ordering.TheVariants as cmp
use Rattle.std.proofs.lemmas.List.{append-nil, length-append, length-take-le, map-append, take-append-drop, take-append-le}
use Rattle.std.proofs.Math.Seq.{take-append_seam, take-suc}
use Rattle.asa_objects_lines.specs.declared.statement.Item.{Item}
use Rattle.asa_objects_lines.specs.contracts.statement.ItemEq.TheImpl.Laws as item_laws
use Rattle.asa_objects_values.specs.Definition.{same_item, has_item, without_item}
use Rattle.asa_objects_values.specs.Drafts.{AreDistinct, AreNew, standing}
use Rattle.asa_objects_values.specs.ItemOrder.{Numbered, AreRising, AreBelow, AreFrom, IsNumbered, IsSplit, ArePlaced, AreNoted, number_of, numbered, or_number}
use Rattle.asa_objects_values.proofs.ReachLaws.{any-append}
use Rattle.asa_objects_values.proofs.ListLaws.{all-weaker}
use Rattle.asa_objects_values.proofs.DraftLaws.{new-has}

item-equiv : IsEquivalence same_item
item-equiv = item_laws.laws-law

-- a member is there where it has a number
pub number-is : (es : Numbered) (i : Item) → is_some (number_of es i) ≡ has_item (values_of es) i
number-is [] i = refl
number-is (e ∷ es) i = by (same_item i e.1) (number-is es i)
  where
    by : (b : Bool) → is_some (number_of es i) ≡ has_item (values_of es) i → is_some (cond b (Some e.0) (number_of es i)) ≡ (b || has_item (values_of es) i)
    by true h = refl
    by false h = h

-- equal members have one number
number-alike : (es : Numbered) (i j : Item) → same_item i j ≡ true → number_of es i ≡ number_of es j
number-alike [] i j h = refl
number-alike (e ∷ es) i j h = ap (λ b. cond b (Some e.0) (number_of es i)) (item-equiv.congr i j e.1 h) ∙ ap (λ o. cond (same_item j e.1) (Some e.0) o) (number-alike es i j h)

none-of : (o : Option ℕ) → is_some o ≡ false → o ≡ None
none-of None h = refl
none-of (Some n) h = absurd (cc)

number-absent : (es : Numbered) (i : Item) → has_item (values_of es) i ≡ false → number_of es i ≡ None
number-absent es i h = none-of (number_of es i) (number-is es i ∙ h)

number-append : (xs ys : Numbered) (i : Item) → number_of (xs ++ ys) i ≡ or_number (number_of xs i) (number_of ys i)
number-append [] ys i = refl
number-append (e ∷ es) ys i = by (same_item i e.1) (number-append es ys i)
  where
    by : (b : Bool) → number_of (es ++ ys) i ≡ or_number (number_of es i) (number_of ys i) → cond b (Some e.0) (number_of (es ++ ys) i) ≡ or_number (cond b (Some e.0) (number_of es i)) (number_of ys i)
    by true h = refl
    by false h = h

pub values-append : (xs ys : Numbered) → values_of (xs ++ ys) ≡ values_of xs ++ values_of ys
values-append xs ys = map-append (λ e. e.1) xs ys

-- lists of entries, joined and thinned
all-append : {X : Type 0} (P : X → Type 0) (xs ys : List X) → AllByRecursion P xs → AllByRecursion P ys → AllByRecursion P (xs ++ ys)
all-append P [] ys all more = more
all-append P (x ∷ xs) ys all more = (all.0, all-append P xs ys all.1 more)

all-filter : {X : Type 0} (P : X → Type 0) (p : X → Bool) (xs : List X) → AllByRecursion P xs → AllByRecursion P (filter p xs)
all-filter P p [] all = tt
all-filter P p (x ∷ xs) all = by (p x) (all-filter P p xs all.1)
  where
    by : (b : Bool) → AllByRecursion P (filter p xs) → AllByRecursion P (cond b (x ∷ filter p xs) (filter p xs))
    by true more = (all.0, more)
    by false more = more

rising-append : (n : ℕ) (xs ys : Numbered) → AreRising xs → AreBelow n xs → AreRising ys → AreFrom n ys → AreRising (xs ++ ys)
rising-append n [] ys rises below more from = more
rising-append n (x ∷ xs) ys rises below more from =
    (all-append _ xs ys rises.0 (all-weaker (λ e. n ≤ e.0) (λ e. x.0 < e.0) (λ e le. omega (arith, below.0)) ys from), rising-append n xs ys rises.1 below.1 more from)

rising-filter : (p : ℕ × Item → Bool) (xs : Numbered) → AreRising xs → AreRising (filter p xs)
rising-filter p [] rises = tt
rising-filter p (x ∷ xs) rises = by (p x) (rising-filter p xs rises.1)
  where
    by : (b : Bool) → AreRising (filter p xs) → AreRising (cond b (x ∷ filter p xs) (filter p xs))
    by true more = (all-filter _ p xs rises.0, more)
    by false more = more

-- members none of which stands twice
lacks-append : (xs ys : List Item) (x : Item) → has_item xs x ≡ false → has_item ys x ≡ false → has_item (xs ++ ys) x ≡ false
lacks-append xs ys x h k = any-append _ xs ys ∙ ap (λ b. b || has_item ys x) h ∙ k

distinct-append : (xs ys : List Item) → AreDistinct xs → AreDistinct ys → AreNew xs ys → AreDistinct (xs ++ ys)
distinct-append [] ys apart more new = more
distinct-append (x ∷ xs) ys apart more new = (lacks-append xs ys x apart.0 (lacks ys new), distinct-append xs ys apart.1 more (all-weaker _ _ (λ y h. second (same_item y x) _ h) ys new))
  where
    first : (a b : Bool) → (a || b) ≡ false → a ≡ false
    first true b h = absurd (cc)
    first false b h = refl

    second : (a b : Bool) → (a || b) ≡ false → b ≡ false
    second true b h = absurd (cc)
    second false b h = h

    lacks : (zs : List Item) → AreNew (x ∷ xs) zs → has_item zs x ≡ false
    lacks [] all = refl
    lacks (z ∷ zs) all = ap (λ b. b || has_item zs x) (item-equiv.symm x z ∙ first (same_item z x) _ all.0) ∙ lacks zs all.1

lacks-filter : (p : Item → Bool) (xs : List Item) (x : Item) → has_item xs x ≡ false → has_item (filter p xs) x ≡ false
lacks-filter p [] x h = refl
lacks-filter p (y ∷ ys) x h = by (p y) (same_item x y) refl h (λ k. lacks-filter p ys x k)
  where
    by : (b s : Bool) → same_item x y ≡ s → (s || has_item ys x) ≡ false → (has_item ys x ≡ false → has_item (filter p ys) x ≡ false) → has_item (cond b (y ∷ filter p ys) (filter p ys)) x ≡ false
    by b true e h more = absurd (cc)
    by true false e h more = ap (λ c. c || has_item (filter p ys) x) e ∙ more h
    by false false e h more = more h

distinct-filter : (p : Item → Bool) (xs : List Item) → AreDistinct xs → AreDistinct (filter p xs)
distinct-filter p [] apart = tt
distinct-filter p (x ∷ xs) apart = by (p x) (distinct-filter p xs apart.1)
  where
    by : (b : Bool) → AreDistinct (filter p xs) → AreDistinct (cond b (x ∷ filter p xs) (filter p xs))
    by true more = (lacks-filter p xs x apart.0, more)
    by false more = more

-- a number above all others goes last
pub insert-last : (es : Numbered) (n : ℕ) (i : Item) → AreBelow n es → insert_entry nat_cmp es n i ≡ es ++ (n, i) ∷ []
insert-last [] n i below = refl
insert-last (e ∷ es) n i below =
    ap (λ o. match_ordering o ((n, i) ∷ e ∷ es) ((e.0, i) ∷ es) (e ∷ insert_entry nat_cmp es n i)) (sym (nat_cmp_is n e.0 cmp.Greater below.0))
    ∙ ap (λ r. e ∷ r) (insert-last es n i below.1)

-- consecutive numbers
pub numbered-values : (n : ℕ) (is : List Item) → values_of (numbered n is) ≡ is
numbered-values n [] = refl
numbered-values n (i ∷ is) = ap (λ r. i ∷ r) (numbered-values (n + 1) is)

numbered-from : (n m : ℕ) (is : List Item) → m ≤ n → AreFrom m (numbered n is)
numbered-from n m [] le = tt
numbered-from n m (i ∷ is) le = (le, numbered-from (n + 1) m is (omega (arith, le)))

numbered-rising : (n : ℕ) (is : List Item) → AreRising (numbered n is)
numbered-rising n [] = tt
numbered-rising n (i ∷ is) = (all-weaker (λ e. n + 1 ≤ e.0) (λ e. n < e.0) (λ e le. omega (arith, le)) (numbered (n + 1) is) (numbered-from (n + 1) (n + 1) is (omega arith)), numbered-rising (n + 1) is)

numbered-below : (n m : ℕ) (is : List Item) → n + length is ≤ m → AreBelow m (numbered n is)
numbered-below n m [] le = tt
numbered-below n m (i ∷ is) le = (omega (arith, le), numbered-below (n + 1) m is (omega (arith, le)))

-- the entries without those of a member
abbrev pub lost : Numbered → Item → Numbered
lost es i = filter (λ e. not (same_item i e.1)) es

lost-values : (es : Numbered) (i : Item) → values_of (lost es i) ≡ without_item (values_of es) i
lost-values [] i = refl
lost-values (e ∷ es) i = by (not (same_item i e.1)) (lost-values es i)
  where
    by : (b : Bool) → values_of (lost es i) ≡ without_item (values_of es) i → values_of (cond b (e ∷ lost es i) (lost es i)) ≡ cond b (e.1 ∷ without_item (values_of es) i) (without_item (values_of es) i)
    by true h = ap (λ r. e.1 ∷ r) h
    by false h = h

lost-number : (es : Numbered) (i q : Item) → number_of (lost es i) q ≡ cond (same_item i q) None (number_of es q)
lost-number [] i q = by (same_item i q) None refl
  where
    by : (b : Bool) (o : Option ℕ) → o ≡ None → o ≡ cond b None o
    by true o e = e
    by false o e = refl
lost-number (e ∷ es) i q = by (same_item i e.1) (same_item q e.1) (same_item i q) refl refl refl (lost-number es i q)
  where
    by : (a b c : Bool) → same_item i e.1 ≡ a → same_item q e.1 ≡ b → same_item i q ≡ c → number_of (lost es i) q ≡ cond c None (number_of es q)
        → number_of (cond (not a) (e ∷ lost es i) (lost es i)) q ≡ cond c None (cond b (Some e.0) (number_of es q))
    by true b true ea eb ec h = h
    by true true false ea eb ec h = let no : same_item i q ≡ true = item-equiv.symm i q ∙ item-equiv.congr q e.1 i eb ∙ item-equiv.symm e.1 i ∙ ea in absurd (cc)
    by true false false ea eb ec h = h
    by false true true ea eb ec h = let no : same_item i e.1 ≡ true = item-equiv.congr i q e.1 ec ∙ eb in absurd (cc)
    by false true false ea eb ec h = ap (λ b. cond b (Some e.0) (number_of (lost es i) q)) eb
    by false false c ea eb ec h = ap (λ b. cond b (Some e.0) (number_of (lost es i) q)) eb ∙ h

lost-absent : (es : Numbered) (i : Item) → has_item (values_of es) i ≡ false → lost es i ≡ es
lost-absent [] i h = refl
lost-absent (e ∷ es) i h = by (same_item i e.1) h (λ k. lost-absent es i k)
  where
    by : (b : Bool) → (b || has_item (values_of es) i) ≡ false → (has_item (values_of es) i ≡ false → lost es i ≡ es) → cond (not b) (e ∷ lost es i) (lost es i) ≡ e ∷ es
    by true h more = absurd (cc)
    by false h more = ap (λ r. e ∷ r) (more h)

-- a number that is given stands among the numbers
number-among : (P : ℕ × Item → Type 0) (Q : ℕ → Type 0) → ((e : ℕ × Item) → P e → Q e.0) → (es : Numbered) (i : Item) (n : ℕ) → AllByRecursion P es → number_of es i ≡ Some n → Q n
number-among P Q f [] i n all h = absurd (cc)
number-among P Q f (e ∷ es) i n all h = by (same_item i e.1) h (λ is. number-among P Q f es i n all.1 is)
  where
    by : (b : Bool) → cond b (Some e.0) (number_of es i) ≡ Some n → (number_of es i ≡ Some n → Q n) → Q n
    by true is more = let same : e.0 ≡ n = cc in subst Q same (f e all.0)
    by false is more = more is

at-not : (n m : ℕ) → m < n → is_at (nat_cmp n) m ≡ false
at-not n m lt = ap is_eq (sym (nat_cmp_is n m cmp.Greater lt))

at-itself : (n m : ℕ) → m ≡ n → is_at (nat_cmp n) m ≡ true
at-itself n m same = ap is_eq (sym (nat_cmp_is n m cmp.Equal (sym same)))

-- taking out what stands at the number of a member
remove-is : (es back : Numbered) (i : Item) (n : ℕ) → AreRising es → AreDistinct (values_of es) → number_of es i ≡ Some n → remove_entry (is_at (nat_cmp n)) (es ++ back) ≡ lost es i ++ back
remove-is [] back i n rises apart h = absurd (cc)
remove-is (e ∷ es) back i n rises apart h = by (same_item i e.1) refl h (λ k. remove-is es back i n rises.1 apart.1 k)
  where
    by : (b : Bool) → same_item i e.1 ≡ b → cond b (Some e.0) (number_of es i) ≡ Some n → (number_of es i ≡ Some n → remove_entry (is_at (nat_cmp n)) (es ++ back) ≡ lost es i ++ back)
        → cond (is_at (nat_cmp n) e.0) (es ++ back) (e ∷ remove_entry (is_at (nat_cmp n)) (es ++ back)) ≡ cond (not b) (e ∷ lost es i) (lost es i) ++ back
    by true same is more =
        let here : e.0 ≡ n = cc in
        ap (λ b. cond b (es ++ back) (e ∷ remove_entry (is_at (nat_cmp n)) (es ++ back))) (at-itself n e.0 here)
        ∙ ap (λ xs. xs ++ back) (sym (lost-absent es i (number-none same)))
      where
        number-none : same_item i e.1 ≡ true → has_item (values_of es) i ≡ false
        number-none s = sym (number-is es i) ∙ ap is_some (number-alike es i e.1 s) ∙ number-is es e.1 ∙ apart.0
    by false same is more =
        ap (λ b. cond b (es ++ back) (e ∷ remove_entry (is_at (nat_cmp n)) (es ++ back))) (at-not n e.0 (number-among (λ f. e.0 < f.0) (λ m. e.0 < m) (λ f lt. lt) es i n rises.0 is))
        ∙ ap (λ r. e ∷ r) (more is)

-- what is numbered, without a member
numbered-less : (front : Numbered) (numbers made : List (Item × ℕ)) (first : ℕ) (i : Item) → IsNumbered front numbers first
    → ((q : Item) → lookup (same_item q) made ≡ cond (same_item i q) None (lookup (same_item q) numbers)) → IsNumbered (lost front i) made first
numbered-less front numbers made first i sound put = record {
  rising = rising-filter _ front sound.rising;
  early = all-filter _ _ front sound.early;
  distinct = subst AreDistinct (sym (lost-values front i)) (distinct-filter _ (values_of front) sound.distinct);
  known = λ q. put q ∙ ap (λ o. cond (same_item i q) None o) (sound.known q) ∙ sym (lost-number front i q);
}

-- a member goes that has a number
pub split-less : (order : Numbered) (numbers made : List (Item × ℕ)) (first : ℕ) (back : Numbered) (items : List Item) (i : Item) (n : ℕ)
    → lookup (same_item i) numbers ≡ Some n → ((q : Item) → lookup (same_item q) made ≡ cond (same_item i q) None (lookup (same_item q) numbers))
    → IsSplit order numbers first back items → IsSplit (remove_entry (is_at (nat_cmp n)) order) made first back (without_item items i)
split-less order numbers made first back items i n found put split = record {
  front = lost split.front i;
  whole = ap (remove_entry (is_at (nat_cmp n))) split.whole ∙ remove-is split.front back i n split.sound.rising split.sound.distinct (sym (split.sound.known i) ∙ found);
  sound = numbered-less split.front numbers made first i split.sound put;
  values = lost-values split.front i ∙ ap (λ xs. without_item xs i) split.values;
}

-- a member goes that isn't there
pub split-same : (order : Numbered) (numbers made : List (Item × ℕ)) (first : ℕ) (back : Numbered) (items : List Item) (i : Item)
    → lookup (same_item i) numbers ≡ None → ((q : Item) → lookup (same_item q) made ≡ cond (same_item i q) None (lookup (same_item q) numbers))
    → IsSplit order numbers first back items → IsSplit order made first back (without_item items i)
split-same order numbers made first back items i none put split =
    let absent : has_item (values_of split.front) i ≡ false = sym (number-is split.front i) ∙ ap is_some (sym (split.sound.known i) ∙ none) in
    record {
      front = lost split.front i;
      whole = split.whole ∙ ap (λ xs. xs ++ back) (sym (lost-absent split.front i absent));
      sound = numbered-less split.front numbers made first i split.sound put;
      values = lost-values split.front i ∙ ap (λ xs. without_item xs i) split.values;
    }

-- all members, with none behind them
pub split-all : (order : Numbered) (numbers : List (Item × ℕ)) (next : ℕ) → IsNumbered order numbers next → IsSplit order numbers next [] (values_of order)
split-all order numbers next sound = record { front = order; whole = sym (append-nil order); sound = sound; values = refl }

pub all-split : (order : Numbered) (numbers : List (Item × ℕ)) (next : ℕ) (items : List Item) → IsSplit order numbers next [] items → IsNumbered order numbers next × (values_of order ≡ items)
all-split order numbers next items split =
    let same : split.front ≡ order = sym (split.whole ∙ append-nil split.front) in
    (subst (λ es. IsNumbered es numbers next) same split.sound, ap values_of (sym same) ∙ split.values)

-- further members are numbered too
or-new : (a b : Option ℕ) → (is_some b ≡ true → a ≡ None) → or_number b a ≡ or_number a b
or-new None None h = refl
or-new None (Some n) h = refl
or-new (Some m) None h = refl
or-new (Some m) (Some n) h = absurd (some-not (h refl))
  where
    some-not : Some m ≡ None → ⊥
    some-not e = absurd (cc)

pub numbered-more : (front : Numbered) (numbers made : List (Item × ℕ)) (first next : ℕ) (added : List Item) → IsNumbered front numbers first → AreNew (values_of front) added → AreDistinct added → first + length added ≤ next
    → ((q : Item) → lookup (same_item q) made ≡ or_number (number_of (numbered first added) q) (lookup (same_item q) numbers)) → IsNumbered (front ++ numbered first added) made next
numbered-more front numbers made first next added sound new apart le put = record {
  rising = rising-append first front (numbered first added) sound.rising sound.early (numbered-rising first added) (numbered-from first first added (omega arith));
  early = all-append _ front (numbered first added) (all-weaker (λ e. e.0 < first) (λ e. e.0 < next) (λ e lt. omega (arith, lt, le)) front sound.early) (numbered-below first next added le);
  distinct = subst AreDistinct (sym (values-append front (numbered first added) ∙ ap (λ xs. values_of front ++ xs) (numbered-values first added))) (distinct-append (values_of front) added sound.distinct apart new);
  known = λ q. put q ∙ ap (or_number (number_of (numbered first added) q)) (sound.known q) ∙ or-new _ _ (absent q) ∙ sym (number-append front (numbered first added) q);
}
  where
    absent : (q : Item) → is_some (number_of (numbered first added) q) ≡ true → number_of front q ≡ None
    absent q h = number-absent front q (new-has (values_of front) added q new (ap (λ xs. has_item xs q) (sym (numbered-values first added)) ∙ sym (number-is (numbered first added) q) ∙ h))

-- one further member at the end
pub pushed-sound : (order made-order : Numbered) (numbers made : List (Item × ℕ)) (next after : ℕ) (i : Item) → IsNumbered order numbers next → has_item (values_of order) i ≡ false → after ≡ next + 1
    → made-order ≡ insert_entry nat_cmp order next i → ((q : Item) → lookup (same_item q) made ≡ cond (same_item i q) (Some next) (lookup (same_item q) numbers))
    → IsNumbered made-order made after
pushed-sound order made-order numbers made next after i sound lacks step is put =
    subst (λ es. IsNumbered es made after) (sym (is ∙ insert-last order next i sound.early))
    (numbered-more order numbers made next after (i ∷ []) sound (lacks, tt) (refl, tt) (omega (arith, step)) (λ q. put q ∙ each q))
  where
    each : (q : Item) → cond (same_item i q) (Some next) (lookup (same_item q) numbers) ≡ or_number (cond (same_item q i) (Some next) None) (lookup (same_item q) numbers)
    each q = ap (λ b. cond b (Some next) (lookup (same_item q) numbers)) (item-equiv.symm i q) ∙ by (same_item q i)
      where
        by : (b : Bool) → cond b (Some next) (lookup (same_item q) numbers) ≡ or_number (cond b (Some next) None) (lookup (same_item q) numbers)
        by true = refl
        by false = refl

pub pushed-values : (order made-order : Numbered) (next : ℕ) (i : Item) → AreBelow next order → made-order ≡ insert_entry nat_cmp order next i → values_of made-order ≡ values_of order ++ i ∷ []
pushed-values order made-order next i below is = ap values_of (is ∙ insert-last order next i below) ∙ values-append order ((next, i) ∷ [])

-- one more of the members is placed
pub placed-more : (old now made : Numbered) (first number : ℕ) (all rest : List Item) (i : Item) → ArePlaced old now first number all (i ∷ rest) → made ≡ now ++ (number, i) ∷ [] → ArePlaced old made first (number + 1) all rest
placed-more old now made first number all rest i was is = subst (λ es. ArePlaced old es first (number + 1) all rest) (sym is) (record {
  whole = append_assoc now ((number, i) ∷ []) (numbered (number + 1) rest) ∙ was.whole;
  early = all-append _ now ((number, i) ∷ []) (all-weaker (λ e. e.0 < number) (λ e. e.0 < number + 1) (λ e lt. omega (arith, lt)) now was.early) (omega arith, tt);
  many = omega (arith, was.many, length-append now ((number, i) ∷ []));
  after = omega (arith, was.after);
  left = omega (arith, was.left);
})

-- what was placed is taken away again
pub placed-undone : (old now : Numbered) (first number : ℕ) (all rest : List Item) → ArePlaced old now first number all rest → take (length now - (number - first)) now ≡ old
placed-undone old now first number all rest was =
    let many : length now - (number - first) ≡ length old = omega (arith, was.many, was.after) in
    let le : length old ≤ length now = omega (arith, was.many, was.after) in
    ap (λ n. take n now) many ∙ sym (take-append-le (length old) now (numbered number rest) le) ∙ ap (take (length old)) was.whole ∙ take-append_seam old (numbered first all)

-- one more of the last members is taken away
pub popped-more : (old now : Numbered) (n : ℕ) → now ≡ take (length old - n) old → take (length now - 1) now ≡ take (length old - (n + 1)) old
popped-more old now n is =
    let left : length old - n ≤ length old = omega arith in
    let many : length now ≡ length old - n = ap length is ∙ length-take-le (length old - n) old left in
    let few : length now - 1 ≡ length old - (n + 1) = omega (arith, many) in
    let le : length old - (n + 1) ≤ length (take (length old - n) old) = omega (arith, many, ap length is) in
    ap (λ k. take k now) few ∙ ap (take (length old - (n + 1))) is
    ∙ sym (take-append-le (length old - (n + 1)) (take (length old - n) old) (drop (length old - n) old) le)
    ∙ ap (take (length old - (n + 1))) (take-append-drop (length old - n) old)

-- the number of one more member is known
pub noted-more : (old now made : List (Item × ℕ)) (first number : ℕ) (all rest : List Item) (i : Item) → AreNoted old now first number all (i ∷ rest)
    → ((q : Item) → lookup (same_item q) made ≡ cond (same_item i q) (Some number) (lookup (same_item q) now)) → AreNoted old made first (number + 1) all rest
noted-more old now made first number all rest i was put = record {
  known = λ q. ap (or_number (number_of (numbered (number + 1) rest) q)) (put q ∙ ap (λ b. cond b (Some number) (lookup (same_item q) now)) (item-equiv.symm i q)) ∙ by q (same_item q i) refl ∙ was.known q;
  distinct = was.distinct.1;
  left = omega (arith, was.left);
}
  where
    absent : (q : Item) → same_item q i ≡ true → number_of (numbered (number + 1) rest) q ≡ None
    absent q same = number-alike (numbered (number + 1) rest) q i same ∙ number-absent (numbered (number + 1) rest) i (ap (λ xs. has_item xs i) (numbered-values (number + 1) rest) ∙ was.distinct.0)

    by : (q : Item) (b : Bool) → same_item q i ≡ b
        → or_number (number_of (numbered (number + 1) rest) q) (cond b (Some number) (lookup (same_item q) now)) ≡ or_number (cond (same_item q i) (Some number) (number_of (numbered (number + 1) rest) q)) (lookup (same_item q) now)
    by q true same =
        ap (λ o. or_number o (Some number)) (absent q same) ∙ sym (ap (λ b. or_number (cond b (Some number) (number_of (numbered (number + 1) rest) q)) (lookup (same_item q) now)) same)
    by q false apart = sym (ap (λ b. or_number (cond b (Some number) (number_of (numbered (number + 1) rest) q)) (lookup (same_item q) now)) apart)

stands-less : (gone more : List Item) (d : Item) → ((k : Item) → has_item more k ≡ cond (same_item d k) true (has_item gone k)) → (items : List Item) → standing items more ≡ without_item (standing items gone) d
stands-less gone more d put [] = refl
stands-less gone more d put (x ∷ xs) =
    ap (λ b. cond (not b) (x ∷ standing xs more) (standing xs more)) (put x) ∙ by (same_item d x) (has_item gone x) refl (stands-less gone more d put xs)
  where
    by : (a b : Bool) → same_item d x ≡ a → standing xs more ≡ without_item (standing xs gone) d
        → cond (not (cond a true b)) (x ∷ standing xs more) (standing xs more) ≡ without_item (cond (not b) (x ∷ standing xs gone) (standing xs gone)) d
    by true true same h = h
    by true false same h = h ∙ sym (ap (λ b. cond (not b) (x ∷ without_item (standing xs gone) d) (without_item (standing xs gone) d)) same)
    by false true same h = h
    by false false same h = ap (λ r. x ∷ r) h ∙ sym (ap (λ b. cond (not b) (x ∷ without_item (standing xs gone) d) (without_item (standing xs gone) d)) same)

-- one more of the members is gone
pub standing-more : (items gone : List Item) (n : ℕ) (d : Item) → n < length gone → d ≡ get_or gone n d → without_item (standing items (take n gone)) d ≡ standing items (take (n + 1) gone)
standing-more items gone n d lt is = sym (stands-less (take n gone) (take (n + 1) gone) d more items)
  where
    as-cond : (a b : Bool) → (a || (b || false)) ≡ cond b true a
    as-cond true true = refl
    as-cond true false = refl
    as-cond false true = refl
    as-cond false false = refl

    more : (k : Item) → has_item (take (n + 1) gone) k ≡ cond (same_item d k) true (has_item (take n gone) k)
    more k =
        let step : n + 1 ≡ suc n = omega arith in
        ap (λ j. has_item (take j gone) k) step ∙ ap (λ xs. has_item xs k) (take-suc gone n d lt ∙ ap (λ m. take n gone ++ m ∷ []) (sym is))
        ∙ any-append _ (take n gone) (d ∷ []) ∙ as-cond (has_item (take n gone) k) (same_item k d) ∙ ap (λ b. cond b true (has_item (take n gone) k)) (item-equiv.symm k d)

-- members go, and others come behind them
pub placed-split : (order placed : Numbered) (numbers reserved : List (Item × ℕ)) (next : ℕ) (added : List Item) → IsNumbered order numbers next → reserved ≡ numbers → placed ≡ order ++ numbered next added
    → IsSplit placed reserved next (numbered next added) (values_of order)
placed-split order placed numbers reserved next added sound same is = record { front = order; whole = is; sound = subst (λ ns. IsNumbered order ns next) (sym same) sound; values = refl }

pub changed-sound : (order : Numbered) (taken noted : List (Item × ℕ)) (next after : ℕ) (items added : List Item) → IsSplit order taken next (numbered next added) items → AreNew items added → AreDistinct added → after ≡ next + length added
    → ((q : Item) → lookup (same_item q) noted ≡ or_number (number_of (numbered next added) q) (lookup (same_item q) taken)) → IsNumbered order noted after
changed-sound order taken noted next after items added split new apart step put =
    subst (λ es. IsNumbered es noted after) (sym split.whole)
    (numbered-more split.front taken noted next after added split.sound (subst (λ xs. AreNew xs added) (sym split.values) new) apart (omega (arith, step)) put)

pub changed-values : (order : Numbered) (taken : List (Item × ℕ)) (next : ℕ) (items added : List Item) → IsSplit order taken next (numbered next added) items → values_of order ≡ items ++ added
changed-values order taken next items added split =
    ap values_of split.whole ∙ values-append split.front (numbered next added) ∙ ap (λ xs. xs ++ values_of (numbered next added)) split.values ∙ ap (λ xs. items ++ xs) (numbered-values next added)

-- what stands at the number of a member is the member that is equal to it
pub found-at : (es : Numbered) (i : Item) (n : ℕ) → AreRising es → number_of es i ≡ Some n → lookup (is_at (nat_cmp n)) es ≡ find (same_item i) (values_of es)
found-at [] i n rises h = absurd (cc)
found-at (e ∷ es) i n rises h = by (same_item i e.1) h (λ k. found-at es i n rises.1 k)
  where
    by : (b : Bool) → cond b (Some e.0) (number_of es i) ≡ Some n → (number_of es i ≡ Some n → lookup (is_at (nat_cmp n)) es ≡ find (same_item i) (values_of es))
        → cond (is_at (nat_cmp n) e.0) (Some e.1) (lookup (is_at (nat_cmp n)) es) ≡ cond b (Some e.1) (find (same_item i) (values_of es))
    by true is more =
        let here : e.0 ≡ n = cc in
        ap (λ b. cond b (Some e.1) (lookup (is_at (nat_cmp n)) es)) (at-itself n e.0 here)
    by false is more =
        ap (λ b. cond b (Some e.1) (lookup (is_at (nat_cmp n)) es)) (at-not n e.0 (number-among (λ f. e.0 < f.0) (λ m. e.0 < m) (λ f lt. lt) es i n rises.0 is))
        ∙ more is

-- no member is equal to one that has no number
pub found-none : (es : Numbered) (i : Item) → number_of es i ≡ None → find (same_item i) (values_of es) ≡ None
found-none [] i h = refl
found-none (e ∷ es) i h = by (same_item i e.1) h (λ k. found-none es i k)
  where
    by : (b : Bool) → cond b (Some e.0) (number_of es i) ≡ None → (number_of es i ≡ None → find (same_item i) (values_of es) ≡ None) → cond b (Some e.1) (find (same_item i) (values_of es)) ≡ None
    by true is more = absurd (cc)
    by false is more = more is

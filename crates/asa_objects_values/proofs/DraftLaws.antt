-- Members of a draft, and those that are to go.
use Rattle.std.proofs.Common.{◌≡◌, ℕ, Bool, true, false, cond, not, ◌||◌, ◌&&◌, if◌then◌else◌, List, [], ◌∷◌, ◌++◌, Option, Some, None, is_some, refl, sym, ap, subst, ◌∙◌}
use Rattle.std.specs.Cmp.{IsEquivalence}
use Rattle.std.specs.List.{filter, AllByRecursion, find, list_any}
use Rattle.std.specs.Option.{option_to_list}
use Rattle.std.proofs.lemmas.Map.Made.{is_member-filter}
use Rattle.asa_objects_lines.specs.declared.statement.Item.{Item}
use Rattle.asa_objects_lines.specs.contracts.statement.ItemEq.TheImpl.Laws as item_laws
use Rattle.asa_objects_values.specs.Definition.{same_item, has_item, with_item, without_item}
use Rattle.asa_objects_values.specs.Tables.{named, refs_in}
use Rattle.asa_objects_values.specs.Drafts.{AreDistinct, AreFormer, AreNew, standing}
use Rattle.asa_objects_values.proofs.ReachLaws.{any-append}
use Rattle.asa_objects_values.proofs.ListLaws.{all-push}

or-none : (b : Bool) → (b || false) ≡ b
or-none true = refl
or-none false = refl

or-none-left : (a b : Bool) → (a || b) ≡ false → a ≡ false
or-none-left true b h = h
or-none-left false b h = refl

or-none-right : (a b : Bool) → (a || b) ≡ false → b ≡ false
or-none-right true b h = absurd (cc)
or-none-right false b h = h

item-equiv : IsEquivalence same_item
item-equiv = item_laws.laws-law

-- equal members are alike in a list
pub has-alike : (xs : List Item) (i j : Item) → same_item i j ≡ true → has_item xs i ≡ has_item xs j
has-alike [] i j h = refl
has-alike (x ∷ xs) i j h = ap (λ b. b || has_item xs i) (item-equiv.congr i j x h) ∙ ap (λ b. same_item j x || b) (has-alike xs i j h)

-- a member stands where it is there and isn't to go
pub stands-is : (items gone : List Item) (i : Item) → has_item (standing items gone) i ≡ (has_item items i && not (has_item gone i))
stands-is items gone i = is_member-filter item-equiv (λ k. not (has_item gone k)) i (λ x h. ap not (has-alike gone i x h)) items

pub filter-filter : (p q : Item → Bool) (xs : List Item) → filter q (filter p xs) ≡ filter (λ x. p x && q x) xs
filter-filter p q [] = refl
filter-filter p q (x ∷ xs) = by (p x) (filter-filter p q xs)
  where
    by : (b : Bool) → filter q (filter p xs) ≡ filter (λ y. p y && q y) xs
        → filter q (cond b (x ∷ filter p xs) (filter p xs)) ≡ cond (b && q x) (x ∷ filter (λ y. p y && q y) xs) (filter (λ y. p y && q y) xs)
    by true more = ap (λ r. cond (q x) (x ∷ r) r) more
    by false more = more

pub filter-same : (p q : Item → Bool) → ((x : Item) → p x ≡ q x) → (xs : List Item) → filter p xs ≡ filter q xs
filter-same p q h [] = refl
filter-same p q h (x ∷ xs) = ap (λ b. cond b (x ∷ filter p xs) (filter p xs)) (h x) ∙ ap (λ r. cond (q x) (x ∷ r) r) (filter-same p q h xs)

filter-append : (p : Item → Bool) (xs ys : List Item) → filter p (xs ++ ys) ≡ filter p xs ++ filter p ys
filter-append p [] ys = refl
filter-append p (x ∷ xs) ys = by (p x) (filter-append p xs ys)
  where
    by : (b : Bool) → filter p (xs ++ ys) ≡ filter p xs ++ filter p ys → cond b (x ∷ filter p (xs ++ ys)) (filter p (xs ++ ys)) ≡ cond b (x ∷ filter p xs) (filter p xs) ++ filter p ys
    by true h = ap (λ r. x ∷ r) h
    by false h = h

pub standing-all : (items gone : List Item) → gone ≡ [] → standing items gone ≡ items
standing-all items gone empty = ap (standing items) empty ∙ all items
  where
    all : (xs : List Item) → filter (λ k. true) xs ≡ xs
    all [] = refl
    all (x ∷ xs) = ap (λ r. x ∷ r) (all xs)

-- one more member is to go
stands-not : (items gone more : List Item) (i : Item) → ((k : Item) → has_item more k ≡ cond (same_item i k) true (has_item gone k)) → standing items more ≡ without_item (standing items gone) i
stands-not items gone more i put =
    filter-same _ _ (λ k. ap not (put k) ∙ by (same_item i k) (has_item gone k)) items ∙ sym (filter-filter (λ k. not (has_item gone k)) (λ k. not (same_item i k)) items)
  where
    by : (a b : Bool) → not (cond a true b) ≡ (not b && not a)
    by true true = refl
    by true false = refl
    by false true = refl
    by false false = refl

-- a further member isn't there
pub new-has : (items added : List Item) (i : Item) → AreNew items added → has_item added i ≡ true → has_item items i ≡ false
new-has items [] i all h = absurd (cc)
new-has items (x ∷ xs) i all h = by (same_item i x) refl h (λ k. new-has items xs i all.1 k)
  where
    by : (b : Bool) → same_item i x ≡ b → (b || has_item xs i) ≡ true → (has_item xs i ≡ true → has_item items i ≡ false) → has_item items i ≡ false
    by true e h more = has-alike items i x e ∙ all.0
    by false e h more = more h

-- one further member less
pub new-fewer : (items added : List Item) (i : Item) → AreNew items added → AreNew items (without_item added i)
new-fewer items [] i all = tt
new-fewer items (x ∷ xs) i all = by (not (same_item i x)) (new-fewer items xs i all.1)
  where
    by : (b : Bool) → AreNew items (without_item xs i) → AreNew items (cond b (x ∷ without_item xs i) (without_item xs i))
    by true more = (all.0, more)
    by false more = more

-- one more of the former members is to go
pub new-gone : (items gone more added : List Item) (i : Item) → ((k : Item) → has_item more k ≡ cond (same_item i k) true (has_item gone k)) → AreNew (standing items gone) added
    → AreNew (standing items more) added
new-gone items gone more [] i put all = tt
new-gone items gone more (x ∷ xs) i put all = (
  stands-is items more x ∙ ap (λ b. has_item items x && not b) (put x) ∙ by (has_item items x) (same_item i x) (has_item gone x) (sym (stands-is items gone x) ∙ all.0),
  new-gone items gone more xs i put all.1,
)
  where
    by : (a s g : Bool) → (a && not g) ≡ false → (a && not (cond s true g)) ≡ false
    by false s g h = refl
    by true true g h = refl
    by true false g h = h

-- members without one that isn't there
pub without-absent : (xs : List Item) (i : Item) → has_item xs i ≡ false → without_item xs i ≡ xs
without-absent [] i h = refl
without-absent (x ∷ xs) i h = by (same_item i x) h (λ k. without-absent xs i k)
  where
    by : (b : Bool) → (b || has_item xs i) ≡ false → (has_item xs i ≡ false → without_item xs i ≡ xs) → cond (not b) (x ∷ without_item xs i) (without_item xs i) ≡ x ∷ xs
    by true h more = absurd (cc)
    by false h more = ap (λ r. x ∷ r) (more h)

-- one of the further members goes
pub further-goes : (stay added made : List Item) (i : Item) → AreNew stay added → has_item added i ≡ true → made ≡ without_item added i → stay ++ made ≡ without_item (stay ++ added) i
further-goes stay added made i new has is =
    ap (λ xs. stay ++ xs) is
    ∙ sym (filter-append (λ j. not (same_item i j)) stay added ∙ ap (λ xs. xs ++ without_item added i) (without-absent stay i (new-has stay added i new has)))

-- one of the former members goes
pub former-goes : (items gone more added : List Item) (i : Item) → ((k : Item) → has_item more k ≡ cond (same_item i k) true (has_item gone k)) → has_item added i ≡ false
    → standing items more ++ added ≡ without_item (standing items gone ++ added) i
former-goes items gone more added i put lacks =
    ap (λ xs. xs ++ added) (stands-not items gone more i put)
    ∙ ap (λ xs. without_item (standing items gone) i ++ xs) (sym (without-absent added i lacks))
    ∙ sym (filter-append (λ j. not (same_item i j)) (standing items gone) added)

-- one more member that isn't twice
distinct-more : (xs : List Item) (i : Item) → AreDistinct xs → AreDistinct (with_item xs i)
distinct-more xs i apart = by (has_item xs i) refl
  where
    push : (ys : List Item) → AreDistinct ys → has_item ys i ≡ false → AreDistinct (ys ++ i ∷ [])
    push [] d h = (refl, tt)
    push (y ∷ ys) d h = (
      any-append _ ys (i ∷ []) ∙ ap (λ b. b || (same_item y i || false)) d.0 ∙ ap (λ b. b || false) (item-equiv.symm y i ∙ or-none-left _ _ h),
      push ys d.1 (or-none-right _ _ h),
    )

    by : (b : Bool) → has_item xs i ≡ b → AreDistinct (if b then xs else xs ++ i ∷ [])
    by true e = apart
    by false e = push xs apart e

-- what is found is equal
pub found-is : (xs : List Item) (i j : Item) → find (same_item i) xs ≡ Some j → same_item i j ≡ true
found-is [] i j h = absurd (cc)
found-is (x ∷ xs) i j h = by (same_item i x) refl h (λ k. found-is xs i j k)
  where
    by : (b : Bool) → same_item i x ≡ b → cond b (Some x) (find (same_item i) xs) ≡ Some j → (find (same_item i) xs ≡ Some j → same_item i j ≡ true) → same_item i j ≡ true
    by true e h more = let this : x ≡ j = cc in ap (same_item i) (sym this) ∙ e
    by false e h more = more h

-- equal members find the same
find-alike : (xs : List Item) (i j : Item) → same_item i j ≡ true → find (same_item i) xs ≡ find (same_item j) xs
find-alike [] i j h = refl
find-alike (x ∷ xs) i j h =
    ap (λ b. cond b (Some x) (find (same_item i) xs)) (item-equiv.congr i j x h) ∙ ap (λ o. cond (same_item j x) (Some x) o) (find-alike xs i j h)

pub finds-found : (xs : List Item) (i j : Item) → find (same_item i) xs ≡ Some j → find (same_item j) xs ≡ Some j
finds-found xs i j h = sym (find-alike xs i j (found-is xs i j h)) ∙ h

-- what isn't found isn't there
pub found-none : (xs : List Item) (i : Item) → find (same_item i) xs ≡ None → has_item xs i ≡ false
found-none [] i h = refl
found-none (x ∷ xs) i h = by (same_item i x) h (λ k. found-none xs i k)
  where
    by : (b : Bool) → cond b (Some x) (find (same_item i) xs) ≡ None → (find (same_item i) xs ≡ None → has_item xs i ≡ false) → (b || has_item xs i) ≡ false
    by true h more = absurd (cc)
    by false h more = more h

-- each of distinct members finds itself
finds-itself : (xs : List Item) → AreDistinct xs → AllByRecursion (λ i. find (same_item i) xs ≡ Some i) xs
finds-itself [] apart = tt
finds-itself (x ∷ xs) apart = (
  ap (λ b. cond b (Some x) (find (same_item x) xs)) (item-equiv.refl x),
  behind xs (finds-itself xs apart.1) apart.0,
)
  where
    behind : (ys : List Item) → AllByRecursion (λ i. find (same_item i) xs ≡ Some i) ys → has_item ys x ≡ false → AllByRecursion (λ i. find (same_item i) (x ∷ xs) ≡ Some i) ys
    behind [] found out = tt
    behind (y ∷ ys) found out = (
      ap (λ b. cond b (Some x) (find (same_item y) xs)) (item-equiv.symm y x ∙ or-none-left _ _ out) ∙ found.0,
      behind ys found.1 (or-none-right _ _ out),
    )

-- one more of the former members is to go
pub former-more : (items gone more : List Item) (i : Item) → AreFormer items gone → find (same_item i) items ≡ Some i → more ≡ with_item gone i → AreFormer items more
former-more items gone more i all found is = subst (AreFormer items) (sym is) (by (has_item gone i), distinct-more gone i all.1)
  where
    by : (b : Bool) → AllByRecursion (λ j. find (same_item j) items ≡ Some j) (if b then gone else gone ++ i ∷ [])
    by true = all.0
    by false = all-push (λ j. find (same_item j) items ≡ Some j) gone i all.0 found

-- members without one are those without an equal one
pub without-alike : (xs : List Item) (i j : Item) → same_item i j ≡ true → without_item xs i ≡ without_item xs j
without-alike xs i j h = filter-same _ _ (λ k. ap not (item-equiv.congr i j k h)) xs

-- a member that is there, but not among those that are added, is a former one
pub there-former : (items gone added : List Item) (i : Item) → has_item (standing items gone ++ added) i ≡ true → has_item added i ≡ false → has_item items i ≡ true
there-former items gone added i has lacks = by (has_item items i) stays
  where
    stays : (has_item items i && not (has_item gone i)) ≡ true
    stays = sym (stands-is items gone i) ∙ sym (or-none (has_item (standing items gone) i)) ∙ ap (λ b. has_item (standing items gone) i || b) (sym lacks) ∙ sym (any-append _ (standing items gone) added) ∙ has

    by : (a : Bool) → (a && not (has_item gone i)) ≡ true → a ≡ true
    by true h = refl
    by false h = h

-- a former member goes, as it stands there
pub stored-goes : (former gone added more : List Item) (i j : Item) → AreNew (standing former gone) added → AreFormer former gone → find (same_item i) former ≡ Some j → has_item added i ≡ false
    → ((k : Item) → has_item more k ≡ cond (same_item j k) true (has_item gone k)) → more ≡ with_item gone j
    → (AreNew (standing former more) added × AreFormer former more) × (standing former more ++ added ≡ without_item (standing former gone ++ added) i)
stored-goes former gone added more i j new all found lacks put is =
    let same : same_item i j ≡ true = found-is former i j found in (
      (new-gone former gone more added j put new, former-more former gone more j all (finds-found former i j found) is),
      former-goes former gone more added j put (sym (has-alike added i j same) ∙ lacks) ∙ sym (without-alike (standing former gone ++ added) i j same),
    )

-- those that are to go are all former members but for those that are left
pub record AreTaken (items rest gone : List Item) : Type 0 where
  pub left : standing items gone ≡ standing rest gone
  pub found : AllByRecursion (λ i. find (same_item i) items ≡ Some i) rest
  pub former : AreFormer items gone

pub start-taking : (items gone : List Item) → AreDistinct items → gone ≡ [] → AreTaken items items gone
start-taking items gone apart none = record { left = refl; found = finds-itself items apart; former = subst (AreFormer items) (sym none) (tt, tt) }

pub step-taking : (items was rest gone more : List Item) (x i : Item) → AreTaken items was gone → was ≡ x ∷ rest → i ≡ x → ((k : Item) → has_item more k ≡ cond (same_item i k) true (has_item gone k))
    → more ≡ with_item gone i → AreTaken items rest more
step-taking items was rest gone more x i before first same put is = record {
  left =
      stands-not items gone more i put ∙ ap (λ xs. without_item xs i) taken.left ∙ sym (stands-not (x ∷ rest) gone more i put)
      ∙ ap (λ b. cond (not b) (x ∷ standing rest more) (standing rest more)) goes;
  found = taken.found.1;
  former = former-more items gone more i taken.former (ap (λ k. find (same_item k) items) same ∙ taken.found.0 ∙ ap Some (sym same)) is;
}
  where
    taken : AreTaken items (x ∷ rest) gone
    taken = subst (λ xs. AreTaken items xs gone) first before

    goes : has_item more x ≡ true
    goes = put x ∙ ap (λ b. cond b true (has_item gone x)) (ap (λ k. same_item k x) same ∙ item-equiv.refl x)

-- one member alone
pub new-alone : (items gone added : List Item) (i : Item) → standing items gone ≡ [] → added ≡ i ∷ [] → AreNew (standing items gone) added
new-alone items gone added i none is = subst (AreNew (standing items gone)) (sym is) (ap (λ xs. has_item xs i) none, tt)

pub stands-alone : (items gone added : List Item) (i : Item) → standing items gone ≡ [] → added ≡ i ∷ [] → standing items gone ++ added ≡ i ∷ []
stands-alone items gone added i none is = ap (λ xs. xs ++ added) none ∙ is

pub not-true : (b : Bool) → not b ≡ true → b ≡ false
not-true false h = refl
not-true true h = absurd (cc)

-- members of which none refers to a name
pub no-refs : (xs : List Item) → list_any (λ i. is_some (named i)) xs ≡ false → refs_in xs ≡ []
no-refs [] h = refl
no-refs (x ∷ xs) h = by (named x) h (λ more. no-refs xs more)
  where
    by : (o : Option (List ℕ)) → (is_some o || list_any (λ i. is_some (named i)) xs) ≡ false → (list_any (λ i. is_some (named i)) xs ≡ false → refs_in xs ≡ []) → option_to_list o ++ refs_in xs ≡ []
    by None e more = more e
    by (Some c) e more = absurd (cc)

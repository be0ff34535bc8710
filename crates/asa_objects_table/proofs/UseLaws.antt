-- A change of the users of one name.
use Rattle.std.proofs.Common.{◌≡◌, ℕ, ◌+◌, ◌<◌, suc, Bool, true, false, cond, not, ◌||◌, ◌&&◌, List, [], ◌∷◌, ◌++◌, length, take, drop, get_or, Option, Some, None, is_some, Result, Ok, Err, OnOk, OnErr, IfOk, refl, sym, ap, ◌∙◌, arith}
use Rattle.std.specs.Map.{lookup}
use Rattle.std.specs.BTreeMap.{is_at}
use Rattle.std.specs.BTreeSet.{BTreeSet}
use Rattle.std.specs.Ordering.{nat_cmp}
use Rattle.std.specs.Cmp.Lexicographic.{slice_cmp}
use Rattle.std.proofs.lemmas.Bool.{false≢true}
use Rattle.std.proofs.Math.Seq.{take-suc}
use Rattle.std.proofs.lemmas.List.{take-append-drop}
use Rattle.std.specs.Option.{option_to_list}
use Rattle.asa_objects_values.specs.Tables.{same_name}
use Rattle.asa_objects_table.specs.Ranks.{Uses, has_name, users_in, users_of}
use Rattle.asa_objects_table.specs.Users.{AreUsed, IsPartUsed, AreUnused}
use Rattle.asa_objects_values.proofs.LabelLaws.{same-is, same-self}
use Rattle.asa_objects_values.proofs.ReachLaws.{any-append}

-- names are the same both ways
pub same-sym : (a b : List ℕ) → same_name a b ≡ same_name b a
same-sym a b = by (same_name a b) (same_name b a) refl refl
  where
    by : (x y : Bool) → same_name a b ≡ x → same_name b a ≡ y → x ≡ y
    by true true e f = refl
    by false false e f = refl
    by true false e f = absurd (false≢true (sym f ∙ ap (same_name b) (same-is a b e) ∙ same-self b))
    by false true e f = absurd (false≢true (sym e ∙ ap (same_name a) (same-is b a f) ∙ same-self a))

-- the users of a name become others
module _ (m n : Uses) (name user : List ℕ) (old : Option (BTreeSet (List ℕ))) (made : BTreeSet (List ℕ)) (b : Bool)
    (was : lookup (is_at (slice_cmp nat_cmp name)) m ≡ old)
    (put : (q : List ℕ) → lookup (is_at (slice_cmp nat_cmp q)) n ≡ cond (same_name name q) (Some made) (lookup (is_at (slice_cmp nat_cmp q)) m))
    (has : (u : List ℕ) → has_name made.keys u ≡ cond (same_name user u) b (has_name (users_in old) u)) where
  pub users-put : (q u : List ℕ) → has_name (users_of n q) u ≡ cond (same_name name q) (cond (same_name user u) b (has_name (users_of m q) u)) (has_name (users_of m q) u)
  users-put q u = by (same_name name q) refl (put q)
    where
      by : (x : Bool) → same_name name q ≡ x → lookup (is_at (slice_cmp nat_cmp q)) n ≡ cond x (Some made) (lookup (is_at (slice_cmp nat_cmp q)) m)
          → has_name (users_of n q) u ≡ cond x (cond (same_name user u) b (has_name (users_of m q) u)) (has_name (users_of m q) u)
      by true e p =
          let mq : lookup (is_at (slice_cmp nat_cmp q)) m ≡ old = ap (λ k. lookup (is_at (slice_cmp nat_cmp k)) m) (sym (same-is name q e)) ∙ was in
          ap (λ o. has_name (users_in o) u) p ∙ has u ∙ ap (λ o. cond (same_name user u) b (has_name (users_in o) u)) (sym mq)
      by false e p = ap (λ o. has_name (users_in o) u) p

as-added : (x y z : Bool) → cond x (cond y true z) z ≡ (z || (y && x))
as-added true true true = refl
as-added true true false = refl
as-added true false true = refl
as-added true false false = refl
as-added false true true = refl
as-added false true false = refl
as-added false false true = refl
as-added false false false = refl

as-dropped : (x y z : Bool) → cond x (cond y false z) z ≡ (z && not (y && x))
as-dropped true true true = refl
as-dropped true true false = refl
as-dropped true false true = refl
as-dropped true false false = refl
as-dropped false true true = refl
as-dropped false true false = refl
as-dropped false false true = refl
as-dropped false false false = refl

pub users-added : (m n : Uses) (name user : List ℕ) (old : Option (BTreeSet (List ℕ))) (made : BTreeSet (List ℕ)) → lookup (is_at (slice_cmp nat_cmp name)) m ≡ old
    → ((q : List ℕ) → lookup (is_at (slice_cmp nat_cmp q)) n ≡ cond (same_name name q) (Some made) (lookup (is_at (slice_cmp nat_cmp q)) m))
    → ((u : List ℕ) → has_name made.keys u ≡ cond (same_name user u) true (has_name (users_in old) u))
    → (q u : List ℕ) → has_name (users_of n q) u ≡ (has_name (users_of m q) u || (same_name user u && same_name name q))
users-added m n name user old made was put has q u = users-put m n name user old made true was put has q u ∙ as-added (same_name name q) (same_name user u) (has_name (users_of m q) u)

pub users-dropped : (m n : Uses) (name user : List ℕ) (old : Option (BTreeSet (List ℕ))) (made : BTreeSet (List ℕ)) → lookup (is_at (slice_cmp nat_cmp name)) m ≡ old
    → ((q : List ℕ) → lookup (is_at (slice_cmp nat_cmp q)) n ≡ cond (same_name name q) (Some made) (lookup (is_at (slice_cmp nat_cmp q)) m))
    → ((u : List ℕ) → has_name made.keys u ≡ cond (same_name user u) false (has_name (users_in old) u))
    → (q u : List ℕ) → has_name (users_of n q) u ≡ (has_name (users_of m q) u && not (same_name user u && same_name name q))
users-dropped m n name user old made was put has q u = users-put m n name user old made false was put has q u ∙ as-dropped (same_name name q) (same_name user u) (has_name (users_of m q) u)

drop-nothing : (z y : Bool) → z ≡ (z && not (y && false))
drop-nothing true true = refl
drop-nothing true false = refl
drop-nothing false y = refl

-- a name without users has none to lose
pub users-none : (m : Uses) (name user : List ℕ) → lookup (is_at (slice_cmp nat_cmp name)) m ≡ None
    → (q u : List ℕ) → has_name (users_of m q) u ≡ (has_name (users_of m q) u && not (same_name user u && same_name name q))
users-none m name user none q u = by (same_name name q) refl
  where
    by : (x : Bool) → same_name name q ≡ x → has_name (users_of m q) u ≡ (has_name (users_of m q) u && not (same_name user u && x))
    by true e =
        let mq : has_name (users_of m q) u ≡ false = ap (λ k. has_name (users_of m k) u) (sym (same-is name q e)) ∙ ap (λ o. has_name (users_in o) u) none in
        mq ∙ ap (λ (z : Bool). z && not (same_name user u && true)) (sym mq)
    by false e = drop-nothing (has_name (users_of m q) u) (same_name user u)

-- one more name of a list
pub has-more : (names : List (List ℕ)) (i : ℕ) (d q : List ℕ) → i < length names → d ≡ get_or names i d → has_name (take (i + 1) names) q ≡ (has_name (take i names) q || same_name q d)
has-more names i d q lt is =
    ap (λ j. has_name (take j names) q) (add-one i) ∙ ap (λ ns. has_name ns q) (take-suc names i d lt ∙ ap (λ m. take i names ++ m ∷ []) (sym is))
    ∙ any-append _ (take i names) (d ∷ []) ∙ ap (λ b. has_name (take i names) q || b) (or-false (same_name q d))
  where
    add-one : (j : ℕ) → j + 1 ≡ suc j
    add-one j = omega arith

    or-false : (b : Bool) → (b || false) ≡ b
    or-false true = refl
    or-false false = refl

-- a set after one more name
pub set-more : (s n : BTreeSet (List ℕ)) (names : List (List ℕ)) (i : ℕ) (d : List ℕ) → i < length names → d ≡ get_or names i d
    → ((q : List ℕ) → has_name s.keys q ≡ has_name (take i names) q) → ((q : List ℕ) → has_name n.keys q ≡ cond (same_name d q) true (has_name s.keys q))
    → (q : List ℕ) → has_name n.keys q ≡ has_name (take (i + 1) names) q
set-more s n names i d lt is was put q =
    put q ∙ as-or (same_name d q) (has_name s.keys q) ∙ ap (λ b. b || same_name d q) (was q) ∙ ap (λ b. has_name (take i names) q || b) (same-sym d q) ∙ sym (has-more names i d q lt is)
  where
    as-or : (x z : Bool) → cond x true z ≡ (z || x)
    as-or true true = refl
    as-or true false = refl
    as-or false true = refl
    as-or false false = refl

-- users that stay the same
pub users-kept : (m n : Uses) (name : List ℕ) (s made : BTreeSet (List ℕ)) → lookup (is_at (slice_cmp nat_cmp name)) m ≡ Some s
    → ((q : List ℕ) → lookup (is_at (slice_cmp nat_cmp q)) n ≡ cond (same_name name q) (Some made) (lookup (is_at (slice_cmp nat_cmp q)) m)) → made.keys ≡ s.keys
    → (q u : List ℕ) → has_name (users_of n q) u ≡ has_name (users_of m q) u
users-kept m n name s made was put same q u = by (same_name name q) refl (put q)
  where
    by : (x : Bool) → same_name name q ≡ x → lookup (is_at (slice_cmp nat_cmp q)) n ≡ cond x (Some made) (lookup (is_at (slice_cmp nat_cmp q)) m)
        → has_name (users_of n q) u ≡ has_name (users_of m q) u
    by true e p =
        let mq : lookup (is_at (slice_cmp nat_cmp q)) m ≡ Some s = ap (λ k. lookup (is_at (slice_cmp nat_cmp k)) m) (sym (same-is name q e)) ∙ was in
        ap (λ o. has_name (users_in o) u) p ∙ ap (λ ks. has_name ks u) same ∙ ap (λ o. has_name (users_in o) u) (sym mq)
    by false e p = ap (λ o. has_name (users_in o) u) p

-- what holds anyway holds on an error
pub on-err : {A E : Type 0} (P : Type 0) (r : Result A E) → P → OnErr r P
on-err P (Ok x) p = tt
on-err P (Err e) p = p

-- what follows from what holds on an error
pub on-error : {A E : Type 0} (P Q : Type 0) (r : Result A E) → OnErr r P → (P → Q) → OnErr r Q
on-error P Q (Ok x) p f = tt
on-error P Q (Err e) p f = f p

pub as-cond : (b : Bool) → b ≡ cond b true false
as-cond true = refl
as-cond false = refl

bool-more : (o u t d : Bool) → ((o || (u && t)) || (u && d)) ≡ (o || (u && (t || d)))
bool-more true u t d = refl
bool-more false true t d = refl
bool-more false false t d = refl

-- one more of the names is used
pub use-more : (old new made : Uses) (user : List ℕ) (names : List (List ℕ)) (i : ℕ) (d : List ℕ) → i < length names → d ≡ get_or names i d
    → AreUsed old new user (take i names) → ((q u : List ℕ) → has_name (users_of made q) u ≡ (has_name (users_of new q) u || (same_name user u && same_name d q)))
    → AreUsed old made user (take (i + 1) names)
use-more old new made user names i d lt is was put q u =
    put q u ∙ ap (λ b. b || (same_name user u && same_name d q)) (was q u)
    ∙ bool-more (has_name (users_of old q) u) (same_name user u) (has_name (take i names) q) (same_name d q)
    ∙ ap (λ b. has_name (users_of old q) u || (same_name user u && (has_name (take i names) q || b))) (same-sym d q)
    ∙ ap (λ b. has_name (users_of old q) u || (same_name user u && b)) (sym (has-more names i d q lt is))

-- some of the names are used
pub use-part : (old new made : Uses) (user : List ℕ) (names : List (List ℕ)) (i : ℕ) → AreUsed old new user (take i names)
    → ((q u : List ℕ) → has_name (users_of made q) u ≡ has_name (users_of new q) u) → IsPartUsed old made user names
use-part old new made user names i was same = record {
  some = take i names;
  rest = drop i names;
  split = sym (take-append-drop i names);
  used = λ q u. same q u ∙ was q u;
}

bool-drop : (o u t d : Bool) → ((o && not (u && t)) && not (u && d)) ≡ (o && not (u && (t || d)))
bool-drop false u t d = refl
bool-drop true false t d = refl
bool-drop true true true d = refl
bool-drop true true false d = refl

-- one more of the names is no longer used
pub unuse-more : (old new made : Uses) (user : List ℕ) (names : List (List ℕ)) (i : ℕ) (d : List ℕ) → i < length names → d ≡ get_or names i d
    → AreUnused old new user (take i names) → ((q u : List ℕ) → has_name (users_of made q) u ≡ (has_name (users_of new q) u && not (same_name user u && same_name d q)))
    → AreUnused old made user (take (i + 1) names)
unuse-more old new made user names i d lt is was put q u =
    put q u ∙ ap (λ b. b && not (same_name user u && same_name d q)) (was q u)
    ∙ bool-drop (has_name (users_of old q) u) (same_name user u) (has_name (take i names) q) (same_name d q)
    ∙ ap (λ b. has_name (users_of old q) u && not (same_name user u && (has_name (take i names) q || b))) (same-sym d q)
    ∙ ap (λ b. has_name (users_of old q) u && not (same_name user u && b)) (sym (has-more names i d q lt is))

-- the name that a member refers to is no longer used
pub unuse-one : (old made : Uses) (user d : List ℕ) (o : Option (List ℕ)) → Some d ≡ o
    → ((q u : List ℕ) → has_name (users_of made q) u ≡ (has_name (users_of old q) u && not (same_name user u && same_name d q)))
    → AreUnused old made user (option_to_list o)
unuse-one old made user d o is put q u =
    put q u ∙ ap (λ b. has_name (users_of old q) u && not (same_name user u && b)) (same-sym d q ∙ or-false (same_name q d))
    ∙ ap (λ p. has_name (users_of old q) u && not (same_name user u && has_name (option_to_list p) q)) is
  where
    or-false : (b : Bool) → b ≡ (b || false)
    or-false true = refl
    or-false false = refl

-- a member that refers to no name leaves all as it was
pub unuse-none : (old : Uses) (user : List ℕ) (o : Option (List ℕ)) → None ≡ o → AreUnused old old user (option_to_list o)
unuse-none old user o is q u =
    drop-nothing (has_name (users_of old q) u) (same_name user u)
    ∙ ap (λ p. has_name (users_of old q) u && not (same_name user u && has_name (option_to_list p) q)) is

-- what follows from what holds where a call succeeds
pub on-ok : {A E : Type 0} (P Q : Type 0) (r : Result A E) → OnOk r P → (P → Q) → OnOk r Q
on-ok P Q (Ok x) p f = f p
on-ok P Q (Err e) p f = tt

-- what follows from what holds of what a call gives
pub if-ok : {A E : Type 0} (P Q : A → Type 0) (r : Result A E) → IfOk r P → ((x : A) → P x → Q x) → IfOk r Q
if-ok P Q (Ok x) p f = f x p
if-ok P Q (Err e) p f = tt

-- what holds anyway
pub always-ok : {A E : Type 0} (P : Type 0) (r : Result A E) → P → OnOk r P
always-ok P (Ok x) p = p
always-ok P (Err e) p = tt

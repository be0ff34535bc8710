-- Totals that are told hold after a change; what a change of its references makes of the users of names.
use Rattle.std.proofs.Common.{◌≡◌, ℕ, ◌+◌, Bool, true, false, cond, not, ◌||◌, ◌&&◌, List, [], ◌∷◌, ◌++◌, Option, Some, None, Err, refl, sym, ap, ◌∙◌}
use Rattle.std.specs.List.{AllByRecursion, filter, list_any}
use Rattle.std.proofs.lemmas.Bool.{false≢true}
use Rattle.asa_objects_lines.specs.declared.statement.Item.{Item}
use Rattle.asa_objects_table.specs.Amounts.{Amounts}
use Rattle.asa_objects_values.specs.declared.faults.ObjectFault.{ObjectFault}
use Rattle.asa_objects_values.specs.declared.faults.ObjectFault.TheVariants as fault
use Rattle.asa_objects_values.specs.Spreads.{total, weight_of}
use Rattle.asa_objects_values.specs.Tables.{Entry, Table, entry_of, group_at, items_in, items_of, named, refers_to, same_name}
use Rattle.asa_objects_table.specs.Ranks.{Part, amount, amount_in, Ranks, Uses, rank_of, users_of, has_name, weigh, own_totals}
use Rattle.asa_objects_table.specs.Renewals.{newer, amount_now, AreSums, IsOutside, IsTold, Overfills}
use Rattle.asa_objects_table.specs.Users.{AreUsed, AreUnused, IsPartUsed, unused_in}
use Rattle.asa_objects_table.specs.Changes.{SameUsers, Replaces}
use Rattle.asa_objects_values.proofs.LabelLaws.{same-is, same-self}
use Rattle.asa_objects_values.proofs.ReachLaws.{any-append}
use Rattle.asa_objects_table.proofs.ChangeLaws.{IsChange, each-ref, laid, new-refers}
use Rattle.asa_objects_table.proofs.OverLaws.{over-false}

-- totals that are told hold where the names that members refer to aren't renewed
module _ (t after : Table) (ranks : Ranks) (name : List ℕ) (told : Amounts) (names : List (List ℕ)) (is : IsTold t after ranks name told names) where
  module _ (new : Ranks) (old : (c : List ℕ) → has_name names c ≡ false → rank_of new c ≡ None) (k : Part) where
    weight-told : (o : Option (List ℕ)) → IsOutside names o → weight_of (amount_now k [] ranks) o ≡ weight_of (amount_now k new ranks) o
    weight-told None apart = refl
    weight-told (Some c) apart = ap (λ r. amount_in k (newer r (rank_of ranks c))) (sym (old c apart))

    pub sum-told : (xs : List Item) → AllByRecursion (λ i. IsOutside names (named i)) xs → total (weigh k after (amount_now k [] ranks) name) xs ≡ total (weigh k after (amount_now k new ranks) name) xs
    sum-told [] apart = refl
    sum-told (x ∷ xs) apart =
        ap (λ w. amount k (own_totals (group_at (entry_of after name)) x) + w + total (weigh k after (amount_now k [] ranks) name) xs) (weight-told (named x) apart.0)
        ∙ ap (λ r. weigh k after (amount_now k new ranks) name x + r) (sum-told xs apart.1)

-- the name of a change, whose totals are told
pub change-told : (t after : Table) (ranks : Ranks) (uses : Uses) (stamp : ℕ) (name : List ℕ) (made : Entry) (names : List (List ℕ)) (told : Amounts)
    → IsChange t after ranks uses stamp name made names → AreSums after [] ranks name told → IsTold t after ranks name told names
change-told t after ranks uses stamp name made names told change sums = record {
  order = change.above.order;
  laid = laid t after ranks uses stamp name made names change;
  others = λ q apart. change.entry q ∙ ap (λ b. cond b (Some made) (entry_of t q)) apart;
  sums = sums;
  apart = each-ref (IsOutside names) tt (items_of after name)
      (λ c r. (new-refers t after ranks uses stamp name made names change c (ap (λ o. list_any (refers_to c) (items_in o)) (sym here) ∙ r)).1);
}
  where
    here : entry_of after name ≡ Some made
    here = change.entry name ∙ ap (λ b. cond b (Some made) (entry_of t name)) (same-self name)

-- a refusal of the renewal
pub change-refused : (t after : Table) (ranks : Ranks) (uses : Uses) (stamp : ℕ) (name : List ℕ) (made : Entry) (names : List (List ℕ)) (f : ObjectFault)
    → IsChange t after ranks uses stamp name made names → Overfills after ranks stamp names f → Replaces t t after (Err f)
change-refused t after ranks uses stamp name made names fault.TooMany change over = (over-false t after ranks uses stamp name made names change over, refl)
change-refused t after ranks uses stamp name made names fault.NoMemory change over = refl
change-refused t after ranks uses stamp name made names fault.NameTaken change over = over
change-refused t after ranks uses stamp name made names (fault.Unknown l c) change over = over
change-refused t after ranks uses stamp name made names (fault.Bad l c) change over = over
change-refused t after ranks uses stamp name made names (fault.Unsupported l c) change over = over
change-refused t after ranks uses stamp name made names (fault.Cycle l) change over = over
change-refused t after ranks uses stamp name made names (fault.NoSuchMember l) change over = over
change-refused t after ranks uses stamp name made names (fault.NoValue n) change over = over

-- names that pass a test
pub has-filter : (p : List ℕ → Bool) (names : List (List ℕ)) (q : List ℕ) → has_name (filter p names) q ≡ (has_name names q && p q)
has-filter p [] q = refl
has-filter p (n ∷ ns) q = by (p n) refl (same_name q n) refl (has-filter p ns q)
  where
    and-false : (b : Bool) → (b && false) ≡ false
    and-false true = refl
    and-false false = refl

    by : (b : Bool) → p n ≡ b → (s : Bool) → same_name q n ≡ s → has_name (filter p ns) q ≡ (has_name ns q && p q)
        → has_name (cond b (n ∷ filter p ns) (filter p ns)) q ≡ ((s || has_name ns q) && p q)
    by true e true f more = ap (λ x. x || has_name (filter p ns) q) f ∙ sym (ap p (same-is q n f) ∙ e)
    by true e false f more = ap (λ x. x || has_name (filter p ns) q) f ∙ more
    by false e true f more =
        let no : p q ≡ false = ap p (same-is q n f) ∙ e in
        more ∙ ap (λ x. has_name ns q && x) no ∙ and-false (has_name ns q) ∙ sym no
    by false e false f more = more

-- names that are used beside those that were used already
pub used-all : (old new : Uses) (user : List ℕ) (names : List (List ℕ)) → AreUsed old new user (unused_in old names user) → AreUsed old new user names
used-all old new user names used q u = used q u ∙ by (same_name user u) refl
  where
    both : (o n : Bool) → (o || (n && not o)) ≡ (o || n)
    both true n = refl
    both false true = refl
    both false false = refl

    by : (b : Bool) → same_name user u ≡ b → (has_name (users_of old q) u || (same_name user u && has_name (unused_in old names user) q)) ≡ (has_name (users_of old q) u || (same_name user u && has_name names q))
    by false e = ap (λ (b : Bool). has_name (users_of old q) u || (b && has_name (unused_in old names user) q)) e ∙ sym (ap (λ (b : Bool). has_name (users_of old q) u || (b && has_name names q)) e)
    by true e =
        ap (λ (b : Bool). has_name (users_of old q) u || (b && has_name (unused_in old names user) q)) e
        ∙ ap (λ b. has_name (users_of old q) u || b) (has-filter (λ c. not (has_name (users_of old c) user)) names q ∙ ap (λ v. has_name names q && not (has_name (users_of old q) v)) (same-is user u e))
        ∙ both (has_name (users_of old q) u) (has_name names q)
        ∙ sym (ap (λ (b : Bool). has_name (users_of old q) u || (b && has_name names q)) e)

-- names that were noted, or some of them, are taken back
pub unused-again : (old mid new : Uses) (user : List ℕ) (names fresh : List (List ℕ)) → fresh ≡ unused_in old names user → IsPartUsed old mid user fresh → AreUnused mid new user fresh
    → SameUsers old new
unused-again old mid new user names fresh is part unused q u =
    unused q u ∙ ap (λ b. b && not (same_name user u && has_name fresh q)) (part.used q u) ∙ by (same_name user u) refl
  where
    inside : has_name part.some q ≡ true → has_name fresh q ≡ true
    inside h = ap (λ ns. has_name ns q) part.split ∙ any-append _ part.some part.rest ∙ ap (λ b. b || has_name part.rest q) h

    right : (a b : Bool) → (a && not b) ≡ true → b ≡ false
    right true false h = refl
    right true true h = absurd (cc)
    right false b h = absurd (cc)

    before : same_name user u ≡ true → has_name fresh q ≡ true → has_name (users_of old q) u ≡ false
    before e h = ap (has_name (users_of old q)) (sym (same-is user u e))
        ∙ right (has_name names q) (has_name (users_of old q) user) (sym (has-filter (λ c. not (has_name (users_of old c) user)) names q) ∙ ap (λ ns. has_name ns q) (sym is) ∙ h)

    other : (o : Bool) → ((o || false) && true) ≡ o
    other true = refl
    other false = refl

    back : (o s f : Bool) → (s ≡ true → f ≡ true) → (f ≡ true → o ≡ false) → ((o || s) && not f) ≡ o
    back o s true h g = at (o || s) ∙ sym (g refl)
      where
        at : (b : Bool) → (b && false) ≡ false
        at true = refl
        at false = refl
    back o false false h g = other o
    back o true false h g = absurd (false≢true (h refl))

    by : (b : Bool) → same_name user u ≡ b
        → ((has_name (users_of old q) u || (same_name user u && has_name part.some q)) && not (same_name user u && has_name fresh q)) ≡ has_name (users_of old q) u
    by true e =
        ap (λ (b : Bool). (has_name (users_of old q) u || (b && has_name part.some q)) && not (b && has_name fresh q)) e
        ∙ back (has_name (users_of old q) u) (has_name part.some q) (has_name fresh q) inside (before e)
    by false e =
        ap (λ (b : Bool). (has_name (users_of old q) u || (b && has_name part.some q)) && not (b && has_name fresh q)) e
        ∙ other (has_name (users_of old q) u)

pub used-part : (old new : Uses) (user : List ℕ) (names : List (List ℕ)) → AreUsed old new user names → IsPartUsed old new user names
used-part old new user names used = record { some = names; rest = []; split = nothing names; used = used }
  where
    nothing : (xs : List (List ℕ)) → xs ≡ xs ++ []
    nothing [] = refl
    nothing (x ∷ xs) = ap (λ r. x ∷ r) (nothing xs)

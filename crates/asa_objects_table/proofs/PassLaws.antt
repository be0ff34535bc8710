-- How often names refer to another, and how often its old totals in theirs became new ones.
use Rattle.std.proofs.Common.{◌≡◌, ℕ, ◌+◌, ◌*◌, Bool, true, false, cond, ◌||◌, List, [], ◌∷◌, Option, Some, None, IfSome, refl, sym, ap, ◌∙◌, arith}
use Rattle.std.specs.List.{AllByRecursion, list_any}
use Rattle.std.specs.List.Sorted.{IsStrictlySortedBy}
use Rattle.std.specs.Ordering.{nat_cmp, is_eq}
use Rattle.std.specs.declared.cmp.Ordering.{Ordering}
use Rattle.std.specs.declared.cmp.Ordering.TheVariants as cmp
use Rattle.std.specs.Cmp.Lexicographic.{slice_cmp, texts_ties}
use Rattle.asa_objects_lines.specs.declared.statement.Item.{Item}
use Rattle.asa_objects_lines.specs.declared.statement.Item.TheVariants as item
use Rattle.asa_objects_table.specs.Amounts.{Amounts}
use Rattle.asa_objects_values.specs.Tables.{Table, items_of, refers_to, same_name}
use Rattle.asa_objects_values.specs.Definition.{has_item, same_item}
use Rattle.asa_objects_values.specs.Drafts.{AreDistinct}
use Rattle.asa_objects_table.specs.Ranks.{IsSound, Part, members, prefixes, addresses, subnets, services, amount, Ranks, Uses, users_of, has_name}
use Rattle.asa_objects_table.specs.Renewals.{times, times_among, AreMoved}
use Rattle.asa_objects_values.proofs.LabelLaws.{same-is}
use Rattle.asa_objects_table.proofs.UseLaws.{same-sym}

-- equal names are the same
pub equal-names : (a b : List ℕ) → same_item (item.Object a) (item.Object b) ≡ same_name a b
equal-names a b = texts_ties a b

add-zero : (n : ℕ) → 0 + n ≡ n
add-zero n = omega arith

-- a member counts once, as an object or as a group
pub times-is : (n : List ℕ) (xs : List Item) → AreDistinct xs → times n xs ≡ cond (has_item xs (item.Object n)) 1 0 + cond (has_item xs (item.Group n)) 1 0
times-is n [] h = refl
times-is n (x ∷ xs) h = by x (h.0) (times-is n xs h.1)
  where
    fact : (a b c : Bool) (t : ℕ) → (a ≡ true → b ≡ false) → t ≡ cond b 1 0 + cond c 1 0 → cond a 1 0 + t ≡ cond (a || b) 1 0 + cond c 1 0
    fact true b c t apart is = let none : cond {A = ℕ} b 1 0 ≡ 0 = ap (λ (x : Bool). cond {A = ℕ} x 1 0) (apart refl) in omega arith
    fact false b c t apart is = omega arith

    facts : (a b c : Bool) (t : ℕ) → (a ≡ true → c ≡ false) → t ≡ cond b 1 0 + cond c 1 0 → cond a 1 0 + t ≡ cond b 1 0 + cond (a || c) 1 0
    facts true b c t apart is = let none : cond {A = ℕ} c 1 0 ≡ 0 = ap (λ (x : Bool). cond {A = ℕ} x 1 0) (apart refl) in omega arith
    facts false b c t apart is = omega arith

    by : (y : Item) → has_item xs y ≡ false → times n xs ≡ cond (has_item xs (item.Object n)) 1 0 + cond (has_item xs (item.Group n)) 1 0
        → times n (y ∷ xs) ≡ cond (has_item (y ∷ xs) (item.Object n)) 1 0 + cond (has_item (y ∷ xs) (item.Group n)) 1 0
    by (item.Object m) out more = fact (same_name n m) (has_item xs (item.Object n)) (has_item xs (item.Group n)) (times n xs)
        (λ e. ap (λ k. has_item xs (item.Object k)) (same-is n m e) ∙ out) more
        ∙ ap (λ b. cond (b || has_item xs (item.Object n)) 1 0 + cond (has_item xs (item.Group n)) 1 0) (sym (equal-names n m))
    by (item.Group m) out more = facts (same_name n m) (has_item xs (item.Object n)) (has_item xs (item.Group n)) (times n xs)
        (λ e. ap (λ k. has_item xs (item.Group k)) (same-is n m e) ∙ out) more
        ∙ ap (λ b. cond (has_item xs (item.Object n)) 1 0 + cond (b || has_item xs (item.Group n)) 1 0) (sym (equal-names n m))
    by (item.Network _) out more = add-zero (times n xs) ∙ more
    by (item.Service _) out more = add-zero (times n xs) ∙ more
    by (item.Port _) out more = add-zero (times n xs) ∙ more
    by (item.Protocol _) out more = add-zero (times n xs) ∙ more
    by (item.IcmpType _) out more = add-zero (times n xs) ∙ more

-- the same as the code counts
pub times-code : (n m o : List ℕ) (xs : List Item) (a b : Bool) (c d : ℕ) → AreDistinct xs → m ≡ n → o ≡ n → a ≡ has_item xs (item.Object m) → b ≡ has_item xs (item.Group o)
    → c ≡ cond a 1 0 → d ≡ cond b 1 0 → c + d ≡ times n xs
times-code n m o xs a b c d apart same alike first second one other =
    let left : c ≡ cond {A = ℕ} (has_item xs (item.Object n)) 1 0 = one ∙ ap (λ (x : Bool). cond {A = ℕ} x 1 0) (first ∙ ap (λ k. has_item xs (item.Object k)) same) in
    let right : d ≡ cond {A = ℕ} (has_item xs (item.Group n)) 1 0 = other ∙ ap (λ (x : Bool). cond {A = ℕ} x 1 0) (second ∙ ap (λ k. has_item xs (item.Group k)) alike) in
    ap (λ x. x + d) left ∙ ap (λ x. cond {A = ℕ} (has_item xs (item.Object n)) 1 0 + x) right ∙ sym (times-is n xs apart)

-- a name that no member refers to stands in none
pub times-none : (n : List ℕ) (xs : List Item) → list_any (refers_to n) xs ≡ false → times n xs ≡ 0
times-none n [] h = refl
times-none n (x ∷ xs) h = by (refers_to n x) h (times-none n xs)
  where
    by : (b : Bool) → (b || list_any (refers_to n) xs) ≡ false → (list_any (refers_to n) xs ≡ false → times n xs ≡ 0) → cond b 1 0 + times n xs ≡ 0
    by true h more = absurd (cc)
    by false h more = let m = more h in omega arith

-- the users of a name, each once
apart-all : (u : List ℕ) (us : List (List ℕ)) → AllByRecursion (λ k. slice_cmp nat_cmp u k ≡ cmp.Less) us → has_name us u ≡ false
apart-all u [] all = refl
apart-all u (v ∷ vs) all = ap (λ (c : Ordering). is_eq c || has_name vs u) all.0 ∙ apart-all u vs all.1

among-times : (t : Table) (n : List ℕ) (us : List (List ℕ)) (q : List ℕ) → IsStrictlySortedBy (slice_cmp nat_cmp) us
    → times_among t n us q ≡ cond (has_name us q) (times n (items_of t q)) 0
unfolding IsStrictlySortedBy
among-times t n [] q sorted = refl
among-times t n (u ∷ us) q sorted = by (same_name u q) refl (same-sym q u) (among-times t n us q sorted.1)
  where
    by : (b : Bool) → same_name u q ≡ b → same_name q u ≡ same_name u q → times_among t n us q ≡ cond (has_name us q) (times n (items_of t q)) 0
        → cond b (times n (items_of t q)) 0 + times_among t n us q ≡ cond (same_name q u || has_name us q) (times n (items_of t q)) 0
    by true e f more =
        let none : has_name us q ≡ false = ap (has_name us) (sym (same-is u q e)) ∙ apart-all u us sorted.0 in
        let zero : times_among t n us q ≡ 0 = more ∙ ap (λ (b : Bool). cond {A = ℕ} b (times n (items_of t q)) 0) none in
        let left : cond {A = ℕ} (same_name q u || has_name us q) (times n (items_of t q)) 0 ≡ times n (items_of t q) =
        ap (λ (b : Bool). cond {A = ℕ} (b || has_name us q) (times n (items_of t q)) 0) (f ∙ e) in
        omega arith
    by false e f more =
        let left : cond {A = ℕ} (same_name q u || has_name us q) (times n (items_of t q)) 0 ≡ cond {A = ℕ} (has_name us q) (times n (items_of t q)) 0 =
        ap (λ (b : Bool). cond {A = ℕ} (b || has_name us q) (times n (items_of t q)) 0) (f ∙ e) in
        omega arith

-- a name refers to another as often as the users of that tell
pub among-users : (t : Table) (ranks : Ranks) (uses : Uses) (stamp : ℕ) → IsSound t ranks uses stamp → (n : List ℕ) (us : List (List ℕ)) → users_of uses n ≡ us
    → IsStrictlySortedBy (slice_cmp nat_cmp) us → (q : List ℕ) → times_among t n us q ≡ times n (items_of t q)
among-users t ranks uses stamp sound n us are sorted q =
    among-times t n us q sorted ∙ ap (λ b. cond b (times n (items_of t q)) 0) (ap (λ ns. has_name ns q) (sym are) ∙ sound.used n q) ∙ by (list_any (refers_to n) (items_of t q)) refl
  where
    by : (b : Bool) → list_any (refers_to n) (items_of t q) ≡ b → cond b (times n (items_of t q)) 0 ≡ times n (items_of t q)
    by true e = refl
    by false e = sym (times-none n (items_of t q) e)

-- each part of totals has moved
pub moved-all : (count : ℕ) (old new before : Amounts) (m p a s v : ℕ) (r : Option Amounts)
    → IfSome r (λ t. t ≡ record { members = m; prefixes = p; addresses = a; subnets = s; services = v })
    → m + count * old.members ≡ before.members + count * new.members → p + count * old.prefixes ≡ before.prefixes + count * new.prefixes
    → a + count * old.addresses ≡ before.addresses + count * new.addresses → s + count * old.subnets ≡ before.subnets + count * new.subnets
    → v + count * old.services ≡ before.services + count * new.services → IfSome r (λ t. AreMoved count old new before t)
moved-all count old new before m p a s v None is em ep ea es ev = tt
moved-all count old new before m p a s v (Some t) is em ep ea es ev = by
  where
    by : (k : Part) → amount k t + count * amount k old ≡ amount k before + count * amount k new
    by members = ap (λ (x : Amounts). x.members + count * old.members) is ∙ em
    by prefixes = ap (λ (x : Amounts). x.prefixes + count * old.prefixes) is ∙ ep
    by addresses = ap (λ (x : Amounts). x.addresses + count * old.addresses) is ∙ ea
    by subnets = ap (λ (x : Amounts). x.subnets + count * old.subnets) is ∙ es
    by services = ap (λ (x : Amounts). x.services + count * old.services) is ∙ ev

-- Lists of members that are still to be listed.
use Rattle.std.proofs.Common.{◌≡◌, ℕ, ◌+◌, ◌<◌, ◌≤◌, suc, List, [], ◌∷◌, ◌++◌, length, Option, Some, None, Result, Ok, Err, OnOk, refl, sym, ap, ◌∙◌, arith, length-append}
use Rattle.asa_objects_lines.specs.declared.kinds.GroupKind.{GroupKind}
use Rattle.asa_objects_lines.specs.declared.statement.Item.{Item}
use Rattle.asa_objects_lines.specs.declared.statement.Item.TheVariants as item
use Rattle.asa_objects_lines.specs.Items.{item_services}
use Rattle.asa_objects.specs.declared.expansion.Rest.{Rest}
use Rattle.asa_objects_values.specs.Spreads.{of_name}
use Rattle.asa_objects_values.specs.Tables.{Entry, Table, entry_of, items_in, items_of, named, own_members, members_of, services_of_name, group_at, group_of}
use Rattle.asa_objects_table.specs.Ranks.{IsSound, Ranks, Uses, members, services, amount_of, label_of}
use Rattle.asa_objects.specs.Stacks.{IsWaiting, given_by, unwound, marks, visits, cost_of, cost}
use Rattle.asa_objects_values.proofs.SpreadLaws.{spread-items, total-append}
use Rattle.asa_objects_table.proofs.RankLaws.{labelled, number, number-falls, number-few, kept-members, kept-services}

append-nil : {X : Type 0} (xs : List X) → xs ++ [] ≡ xs
append-nil [] = refl
append-nil (x ∷ xs) = ap (λ r. x ∷ r) (append-nil xs)

join : {X : Type 0} (xs ys zs : List X) → (xs ++ ys) ++ zs ≡ xs ++ (ys ++ zs)
join [] ys zs = refl
join (x ∷ xs) ys zs = ap (λ r. x ∷ r) (join xs ys zs)

-- the last list comes first
pub unwound-push : {X : Type 0} (own : GroupKind → Item → List X) (names : List ℕ → List X) (rs : List Rest) (r : Rest) → unwound own names (rs ++ r ∷ []) ≡ given_by (own r.group) names r.items ++ unwound own names rs
unwound-push own names [] r = sym (append-nil (given_by (own r.group) names r.items))
unwound-push own names (s ∷ rs) r = ap (λ u. u ++ given_by (own s.group) names s.items) (unwound-push own names rs r)
    ∙ join (given_by (own r.group) names r.items) (unwound own names rs) (given_by (own s.group) names s.items)

pub cost-push : (t : Table) (rs : List Rest) (r : Rest) → cost t (rs ++ r ∷ []) ≡ cost t rs + cost_of t r.items
cost-push t rs r = let e = total-append (λ (x : Rest). cost_of t x.items) rs (r ∷ []) in omega arith

module _ (t : Table) (ranks : Ranks) (uses : Uses) (stamp : ℕ) (sound : IsSound t ranks uses stamp) where
  -- what a name gives is what its members give
  pub members-given : (q : List ℕ) → members_of t q ≡ given_by own_members (members_of t) (items_of t q)
  members-given q = let ok = labelled t ranks uses stamp sound in
      spread-items named (items_of t) (λ _ i. own_members i) (number t (label_of ranks) ok) (number-falls t (label_of ranks) ok) (suc (length t)) q (number-few t (label_of ranks) ok q)

  pub services-given : (q : List ℕ) → services_of_name t q ≡ given_by (item_services (group_at (entry_of t q))) (services_of_name t) (items_of t q)
  services-given q = let ok = labelled t ranks uses stamp sound in
      spread-items named (items_of t) (λ p i. item_services (group_at (entry_of t p)) i) (number t (label_of ranks) ok) (number-falls t (label_of ranks) ok) (suc (length t)) q (number-few t (label_of ranks) ok q)

  pub visits-given : (q : List ℕ) → visits t q ≡ given_by marks (visits t) (items_of t q)
  visits-given q = let ok = labelled t ranks uses stamp sound in
      spread-items named (items_of t) (λ _ i. marks i) (number t (label_of ranks) ok) (number-falls t (label_of ranks) ok) (suc (length t)) q (number-few t (label_of ranks) ok q)

  -- the members of a name are waited for
  pub wait-listed : {X : Type 0} (own : GroupKind → Item → List X) (names : List ℕ → List X) (old new : List Rest) (q : List ℕ) (entry : Entry) → names q ≡ given_by (own (group_at (entry_of t q))) names (items_of t q)
      → Some entry ≡ entry_of t q → IsWaiting old new entry → unwound own names new ≡ names q ++ unwound own names old
  wait-listed own names old new q entry given found w =
      ap (unwound own names) w.1 ∙ unwound-push own names old w.0
      ∙ ap (λ g. given_by (own g) names w.0.items ++ unwound own names old) w.3
      ∙ ap (λ xs. given_by (own (group_of entry.block)) names xs ++ unwound own names old) w.2
      ∙ ap (λ o. given_by (own (group_at o)) names (items_in o) ++ unwound own names old) found
      ∙ ap (λ g. g ++ unwound own names old) (sym given)

  pub wait-cost : (old new : List Rest) (q : List ℕ) (entry : Entry) → Some entry ≡ entry_of t q → IsWaiting old new entry → cost t new ≤ suc (length (visits t q)) + cost t old
  wait-cost old new q entry found w =
      let put : cost t new ≡ cost t old + cost_of t w.0.items = ap (cost t) w.1 ∙ cost-push t old w.0 in
      let is : cost_of t w.0.items ≡ suc (length (visits t q)) =
      ap (cost_of t) w.2 ∙ ap (λ o. cost_of t (items_in o)) found ∙ ap (λ (xs : List ℕ). suc (length xs)) (sym (visits-given q)) in
      omega (arith, put, is)

-- a member that refers to a name states nothing by itself
pub own-ref : (x : Item) (c : List ℕ) → named x ≡ Some c → own_members x ≡ []
own-ref (item.Network m) c e = absurd (cc)
own-ref (item.Service v) c e = refl
own-ref (item.Port p) c e = refl
own-ref (item.Protocol p) c e = refl
own-ref (item.IcmpType i) c e = refl
own-ref (item.Object n) c e = refl
own-ref (item.Group n) c e = refl

pub services-ref : (g : GroupKind) (x : Item) (c : List ℕ) → named x ≡ Some c → item_services g x ≡ []
unfolding item_services
services-ref g (item.Network m) c e = refl
services-ref g (item.Service v) c e = absurd (cc)
services-ref g (item.Port p) c e = absurd (cc)
services-ref g (item.Protocol p) c e = absurd (cc)
services-ref g (item.IcmpType i) c e = absurd (cc)
services-ref g (item.Object n) c e = refl
services-ref g (item.Group n) c e = refl

module _ {X : Type 0} (own : Item → List X) (names : List ℕ → List X) (x : Item) (xs items : List Item) (cut : items ≡ x ∷ xs) (out before after : List X) where
  -- a member that refers to a name
  pub step-named : (c : List ℕ) → named x ≡ Some c → own x ≡ [] → after ≡ names c ++ (given_by own names xs ++ before) → out ++ after ≡ out ++ (given_by own names items ++ before)
  step-named c e nothing waits =
      ap (λ u. out ++ u) (waits ∙ sym (join (names c) (given_by own names xs) before)
      ∙ ap (λ o. (o ++ given_by own names xs) ++ before) (sym (ap (λ o. o ++ of_name names (named x)) nothing ∙ ap (of_name names) e))
      ∙ ap (λ is. given_by own names is ++ before) (sym cut))

  -- a member that states something by itself
  pub step-own : named x ≡ None → (made : List X) → made ≡ out ++ own x → after ≡ given_by own names xs ++ before → made ++ after ≡ out ++ (given_by own names items ++ before)
  step-own e made pushed waits =
      ap (λ m. m ++ after) pushed ∙ join out (own x) after ∙ ap (λ u. out ++ (own x ++ u)) waits
      ∙ ap (λ u. out ++ u) (sym (join (own x) (given_by own names xs) before)
      ∙ ap (λ o. (o ++ given_by own names xs) ++ before) (sym (append-nil (own x)) ∙ ap (λ o. own x ++ of_name names o) (sym e))
      ∙ ap (λ is. given_by own names is ++ before) (sym cut))

module _ (t : Table) (x : Item) (xs items : List Item) (cut : items ≡ x ∷ xs) where
  cost-cut : cost_of t items ≡ suc (length (marks x) + length (of_name (visits t) (named x)) + length (given_by marks (visits t) xs))
  cost-cut = ap (cost_of t) cut
      ∙ ap suc (length-append (marks x ++ of_name (visits t) (named x)) (given_by marks (visits t) xs) ∙ ap (λ n. n + length (given_by marks (visits t) xs)) (length-append (marks x) (of_name (visits t) (named x))))

  marks-named : (o : Option (List ℕ)) (c : List ℕ) → o ≡ Some c → length (of_name (visits t) o) ≡ length (visits t c)
  marks-named o c e = ap (λ p. length (of_name (visits t) p)) e

  two-marks : (y : Item) (c : List ℕ) → named y ≡ Some c → length (marks y) ≡ 2
  two-marks (item.Network m) c e = absurd (cc)
  two-marks (item.Service v) c e = absurd (cc)
  two-marks (item.Port p) c e = absurd (cc)
  two-marks (item.Protocol p) c e = absurd (cc)
  two-marks (item.IcmpType i) c e = absurd (cc)
  two-marks (item.Object n) c e = refl
  two-marks (item.Group n) c e = refl

  some-marks : (y : Item) → 1 ≤ length (marks y)
  some-marks y = omega arith

  pub cost-named : (c : List ℕ) (before after middle : ℕ) → named x ≡ Some c → middle ≡ before + cost_of t xs → after ≤ suc (length (visits t c)) + middle → after < cost_of t items + before
  cost-named c before after middle e mid le =
      let whole = cost-cut in let two = two-marks x c e in let v = marks-named (named x) c e in omega arith

  pub cost-own : (before after : ℕ) → after ≡ before + cost_of t xs → after < cost_of t items + before
  cost-own before after mid = let whole = cost-cut in let some = some-marks x in omega arith

-- a list without length
pub none-left : {X : Type 0} (xs : List X) → length xs ≡ 0 → xs ≡ []
none-left [] h = refl
none-left (x ∷ xs) h = absurd (omega arith)

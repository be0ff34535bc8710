-- What is kept of names is what their expansions are.
use Rattle.std.proofs.Common.{◌≡◌, ℕ, ◌+◌, ◌<◌, suc, true, ◌||◌, List, [], ◌∷◌, length, Option, Some, None, is_some, refl, sym, ap, ◌∙◌, arith}
use Rattle.std.specs.List.{AllByRecursion, list_any}
use Rattle.asa_base.specs.declared.range.Member.{Member}
use Rattle.asa_objects_lines.specs.declared.kinds.GroupKind.{GroupKind}
use Rattle.asa_objects_lines.specs.declared.statement.Item.{Item}
use Rattle.asa_objects_lines.specs.Items.{item_services}
use Rattle.asa_objects_values.specs.Spreads.{total, weight_of}
use Rattle.asa_objects_values.specs.Tables.{Entry, Table, entry_of, items_of, named, own_members, group_at, members_of, services_of_name, reaches, same_name}
use Rattle.asa_objects_table.specs.Ranks.{Part, members, services, amount, own_totals, weigh, IsThere, IsBelow, IsSound, Ranks, Uses, label_of, amount_of}
use Rattle.asa_objects_values.proofs.SpreadLaws.{Below, Falls, Among, spread-total}
use Rattle.asa_objects_values.proofs.LabelLaws.{place, place-le, Stands, falls-place}
use Rattle.asa_objects_values.proofs.ReachLaws.{reach-items, test_of}

pub total-ones : {X : Type 0} (xs : List X) → total (λ _. 1) xs ≡ length xs
total-ones [] = refl
total-ones (x ∷ xs) = let more = total-ones xs in omega arith

total-each : {X : Type 0} (f g : X → ℕ) → ((x : X) → f x ≡ g x) → (xs : List X) → total f xs ≡ total g xs
total-each f g h [] = refl
total-each f g h (x ∷ xs) = let here = h x in let more = total-each f g h xs in omega arith

stands : (t : Table) (o : Option (List ℕ)) → IsThere t o → Among (Stands t) o
stands t None h = tt
stands t (Some name) h = by (entry_of t name) refl h
  where
    by : (e : Option Entry) → entry_of t name ≡ e → is_some e ≡ true → Stands t name
    by None here h = absurd (cc)
    by (Some e) here h = (e, here)

all-stand : (t : Table) (xs : List Item) → AllByRecursion (λ i. IsThere t (named i)) xs → AllByRecursion (λ i. Among (Stands t) (named i)) xs
all-stand t [] h = tt
all-stand t (x ∷ xs) h = (stands t (named x) h.0, all-stand t xs h.1)

below : (label : List ℕ → ℕ) (n : ℕ) (o : Option (List ℕ)) → IsBelow label n o → Below label n o
below label n None h = tt
below label n (Some name) h = h

all-below : (label : List ℕ → ℕ) (n : ℕ) (xs : List Item) → AllByRecursion (λ i. IsBelow label n (named i)) xs → AllByRecursion (λ i. Below label n (named i)) xs
all-below label n [] h = tt
all-below label n (x ∷ xs) h = (below label n (named x) h.0, all-below label n xs h.1)

-- a table whose names are there and whose labels fall
pub record IsLabelled (t : Table) (label : List ℕ → ℕ) : Type 0 where
  pub there : (q : List ℕ) → AllByRecursion (λ i. IsThere t (named i)) (items_of t q)
  pub falls : (q : List ℕ) → AllByRecursion (λ i. IsBelow label (label q) (named i)) (items_of t q)

module _ (t : Table) (label : List ℕ → ℕ) (ok : IsLabelled t label) where
  -- the number of a name, below the length of ways
  pub number : List ℕ → ℕ
  number q = place label t q

  pub number-falls : Falls named (items_of t) number
  unfolding number
  number-falls = falls-place named (items_of t) label t (λ q. all-below label (label q) (items_of t q) (ok.falls q)) (λ q. all-stand t (items_of t q) (ok.there q))

  pub number-few : (q : List ℕ) → number q < suc (length t)
  unfolding number
  number-few q = let few = place-le label t q in omega arith

  -- reaching, by the items
  pub reaches-items : (q g : List ℕ) → reaches t q g ≡ (same_name g q || list_any (λ i. test_of (λ c. reaches t c g) (named i)) (items_of t q))
  reaches-items q g = reach-items named (items_of t) number number-falls (suc (length t)) q g (number-few q)

  -- the members of names of S refer to names of S
  abbrev pub IsSettled : (List ℕ → Type 0) → Type 0
  IsSettled S = (q : List ℕ) → S q → AllByRecursion (λ i. Among S (named i)) (items_of t q)

  -- what is kept for names of S is the sum over their members
  abbrev pub IsSummed : Part → (List ℕ → ℕ) → (List ℕ → Type 0) → Type 0
  IsSummed k kept S = (q : List ℕ) → S q → kept q ≡ total (weigh k t kept q) (items_of t q)

  module _ (kept : List ℕ → ℕ) (S : List ℕ → Type 0) (settled : IsSettled S) where
    pub members-kept : IsSummed members kept S → (q : List ℕ) → S q → length (members_of t q) ≡ kept q
    members-kept summed q s = sym (total-ones (members_of t q))
        ∙ spread-total named (items_of t) (λ _ i. own_members i) number (λ _. 1) kept S number-falls settled
        (λ p sp. summed p sp ∙ total-each _ _ (λ i. ap (λ n. n + weight_of kept (named i)) (sym (total-ones (own_members i)))) (items_of t p)) (suc (length t)) q s (number-few q)

    pub services-kept : IsSummed services kept S → (q : List ℕ) → S q → length (services_of_name t q) ≡ kept q
    services-kept summed q s = sym (total-ones (services_of_name t q))
        ∙ spread-total named (items_of t) (λ p i. item_services (group_at (entry_of t p)) i) number (λ _. 1) kept S number-falls settled
        (λ p sp. summed p sp ∙ total-each _ _ (λ i. ap (λ n. n + weight_of kept (named i)) (sym (total-ones (item_services (group_at (entry_of t p)) i)))) (items_of t p)) (suc (length t)) q s (number-few q)

    -- a part that is a sum over the addresses
    pub weighed-kept : (k : Part) (w : Member → ℕ) → ((g : GroupKind) (i : Item) → amount k (own_totals g i) ≡ total w (own_members i))
        → IsSummed k kept S → (q : List ℕ) → S q → total w (members_of t q) ≡ kept q
    weighed-kept k w own summed q s =
        spread-total named (items_of t) (λ _ i. own_members i) number w kept S number-falls settled
        (λ p sp. summed p sp ∙ total-each _ _ (λ i. ap (λ n. n + weight_of kept (named i)) (own (group_at (entry_of t p)) i)) (items_of t p)) (suc (length t)) q s (number-few q)

pub labelled : (t : Table) (ranks : Ranks) (uses : Uses) (stamp : ℕ) → IsSound t ranks uses stamp → IsLabelled t (label_of ranks)
labelled t ranks uses stamp sound = record { there = sound.there; falls = sound.falls }

all-among : (o : Option (List ℕ)) → Among (λ _. Unit {0}) o
all-among None = tt
all-among (Some name) = tt

each-among : (xs : List Item) → AllByRecursion (λ i. Among (λ _. Unit {0}) (named i)) xs
each-among [] = tt
each-among (x ∷ xs) = (all-among (named x), each-among xs)

-- what is kept of the members and the services of a name is their number
pub kept-members : (t : Table) (ranks : Ranks) (uses : Uses) (stamp : ℕ) → IsSound t ranks uses stamp → (q : List ℕ) → amount_of members ranks q ≡ length (members_of t q)
kept-members t ranks uses stamp sound q = sym (members-kept t (label_of ranks) (labelled t ranks uses stamp sound) (amount_of members ranks) (λ _. Unit {0})
    (λ p _. each-among (items_of t p)) (λ p _. sound.sums members p) q tt)

pub kept-services : (t : Table) (ranks : Ranks) (uses : Uses) (stamp : ℕ) → IsSound t ranks uses stamp → (q : List ℕ) → amount_of services ranks q ≡ length (services_of_name t q)
kept-services t ranks uses stamp sound q = sym (services-kept t (label_of ranks) (labelled t ranks uses stamp sound) (amount_of services ranks) (λ _. Unit {0})
    (λ p _. each-among (items_of t p)) (λ p _. sound.sums services p) q tt)

-- and a part that is a sum over the addresses is that sum
pub kept-weighed : (k : Part) (w : Member → ℕ) → ((g : GroupKind) (i : Item) → amount k (own_totals g i) ≡ total w (own_members i))
    → (t : Table) (ranks : Ranks) (uses : Uses) (stamp : ℕ) → IsSound t ranks uses stamp → (q : List ℕ) → amount_of k ranks q ≡ total w (members_of t q)
kept-weighed k w own t ranks uses stamp sound q = sym (weighed-kept t (label_of ranks) (labelled t ranks uses stamp sound) (amount_of k ranks) (λ _. Unit {0})
    (λ p _. each-among (items_of t p)) k w own (λ p _. sound.sums k p) q tt)

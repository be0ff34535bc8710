-- What a change of a name's members does: which names it no longer refers to, and how much members count.
use Rattle.std.proofs.Common.{◌≡◌, ℕ, ◌+◌, Bool, true, false, ◌||◌, List, [], ◌∷◌, Option, Some, None, refl, sym, ap, ◌∙◌, arith}
use Rattle.std.specs.List.{list_any}
use Rattle.std.specs.Cmp.Lexicographic.{texts_ties}
use Rattle.asa_objects_lines.specs.declared.kinds.GroupKind.{GroupKind}
use Rattle.asa_objects_lines.specs.declared.statement.Item.{Item}
use Rattle.asa_objects_lines.specs.declared.statement.Item.TheVariants as item
use Rattle.asa_objects_values.specs.Definition.{has_item, same_item}
use Rattle.asa_objects_table.specs.Ranks.{Part, members, prefixes, addresses, subnets, services, amount, amount_of, own_totals, Ranks, rank_of}
use Rattle.asa_objects_values.specs.Spreads.{total, weight_of}
use Rattle.asa_objects_values.specs.Tables.{named, refers_to}
use Rattle.asa_objects_table.specs.Weights.{ref_totals, weights}
use Rattle.asa_objects_table.proofs.TotalLaws.{amount-rank}

or-false : (b : Bool) → b ≡ (b || false)
or-false true = refl
or-false false = refl

-- a member that refers to a name is that object or that group
one-ref : (c : List ℕ) (x : Item) → refers_to c x ≡ (same_item (item.Object c) x || same_item (item.Group c) x)
one-ref c (item.Network _) = refl
one-ref c (item.Service _) = refl
one-ref c (item.Port _) = refl
one-ref c (item.Protocol _) = refl
one-ref c (item.IcmpType _) = refl
one-ref c (item.Object n) = sym (texts_ties c n) ∙ or-false (same_item (item.Object c) (item.Object n))
one-ref c (item.Group n) = sym (texts_ties c n)

pub refs-has : (c : List ℕ) (xs : List Item) → list_any (refers_to c) xs ≡ (has_item xs (item.Object c) || has_item xs (item.Group c))
refs-has c [] = refl
refs-has c (x ∷ xs) =
    ap (λ b. b || list_any (refers_to c) xs) (one-ref c x) ∙ ap (λ b. (same_item (item.Object c) x || same_item (item.Group c) x) || b) (refs-has c xs)
    ∙ mixed (same_item (item.Object c) x) (same_item (item.Group c) x) (has_item xs (item.Object c)) (has_item xs (item.Group c))
  where
    mixed : (a b x y : Bool) → ((a || b) || (x || y)) ≡ ((a || x) || (b || y))
    mixed true b x y = refl
    mixed false true true y = refl
    mixed false true false y = refl
    mixed false false x y = refl

-- what is kept of the name that a member refers to
kept-amount : (k : Part) (ranks : Ranks) (o : Option (List ℕ)) → amount k (ref_totals ranks o) ≡ weight_of (amount_of k ranks) o
kept-amount members ranks None = refl
kept-amount prefixes ranks None = refl
kept-amount addresses ranks None = refl
kept-amount subnets ranks None = refl
kept-amount services ranks None = refl
kept-amount k ranks (Some q) = sym (amount-rank k (rank_of ranks q))

total-alike : {X : Type 0} (f g : X → ℕ) → ((x : X) → f x ≡ g x) → (xs : List X) → total f xs ≡ total g xs
total-alike f g h [] = refl
total-alike f g h (x ∷ xs) = let here = h x in let more = total-alike f g h xs in omega arith

-- what members count, part by part
pub weights-amount : (k : Part) (ranks : Ranks) (g : GroupKind) (items : List Item)
    → amount k (weights ranks g items) ≡ total (λ i. amount k (own_totals g i) + weight_of (amount_of k ranks) (named i)) items
weights-amount members ranks g items = total-alike _ _ (λ i. ap (λ n. (own_totals g i).members + n) (kept-amount members ranks (named i))) items
weights-amount prefixes ranks g items = total-alike _ _ (λ i. ap (λ n. (own_totals g i).prefixes + n) (kept-amount prefixes ranks (named i))) items
weights-amount addresses ranks g items = total-alike _ _ (λ i. ap (λ n. (own_totals g i).addresses + n) (kept-amount addresses ranks (named i))) items
weights-amount subnets ranks g items = total-alike _ _ (λ i. ap (λ n. (own_totals g i).subnets + n) (kept-amount subnets ranks (named i))) items
weights-amount services ranks g items = total-alike _ _ (λ i. ap (λ n. (own_totals g i).services + n) (kept-amount services ranks (named i))) items

-- Members that are still to be listed, of which the last list comes first.
use Rattle.std.specs.Prelude.{◌≡◌, ℕ, suc, List, [], ◌∷◌, ◌++◌, length, Option, Some, None}
use Rattle.std.specs.List.{flat_map}
use Rattle.asa_base.specs.declared.range.Member.{Member}
use Rattle.asa_base.specs.declared.boxes.Service.{Service}
use Rattle.asa_objects_lines.specs.declared.kinds.GroupKind.{GroupKind}
use Rattle.asa_objects_lines.specs.Items.{item_services}
use Rattle.asa_objects_lines.specs.declared.statement.Item.{Item}
use Rattle.asa_objects.specs.declared.expansion.Rest.{Rest}
use Rattle.asa_objects_values.specs.Spreads.{of_name, spread, total}
use Rattle.asa_objects_values.specs.Tables.{Entry, Table, group_of, items_of, named, own_members, members_of, services_of_name}

-- what members give, each name in its place
abbrev pub given_by : {X : Type 0} → (Item → List X) → (List ℕ → List X) → List Item → List X
given_by own names items = flat_map (λ i. own i ++ of_name names (named i)) items

-- what lists of members give, the last list first
abbrev pub unwound : {X : Type 0} → (GroupKind → Item → List X) → (List ℕ → List X) → List Rest → List X
unwound own names [] = []
unwound own names (r ∷ rs) = unwound own names rs ++ given_by (own r.group) names r.items

-- one mark for a member, and one more where it refers to a name
abbrev pub marks : Item → List ℕ
marks i = 0 ∷ of_ref (named i)
  where
    of_ref : Option (List ℕ) → List ℕ
    of_ref None = []
    of_ref (Some name) = 0 ∷ []

-- a mark for each step of listing a name
abbrev pub visits : Table → List ℕ → List ℕ
visits t name = spread named (items_of t) (λ _ i. marks i) (suc (length t)) name

-- how many steps a list of members takes
abbrev pub cost_of : Table → List Item → ℕ
cost_of t items = suc (length (given_by marks (visits t) items))

-- how many steps lists of members take
abbrev pub cost : Table → List Rest → ℕ
cost t rs = total (λ r. cost_of t r.items) rs

-- the addresses that lists of members give
abbrev pub unwound_members : Table → List Rest → List Member
unwound_members t rs = unwound (λ _ i. own_members i) (members_of t) rs

-- the services that lists of members give
abbrev pub unwound_services : Table → List Rest → List Service
unwound_services t rs = unwound item_services (services_of_name t) rs

-- the members of a value are waiting last
abbrev pub IsWaiting : List Rest → List Rest → Entry → Type 0
IsWaiting old new entry = (r : Rest) × (new ≡ old ++ r ∷ []) × (r.items ≡ entry.items) × (r.group ≡ group_of entry.block)

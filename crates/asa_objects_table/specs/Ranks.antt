-- What is kept of the names beside the table: a label that is above those of the names that a name refers to, the totals of
-- its expansion, and which names refer to it. It is sound where it is what the table says.
use Rattle.std.specs.Prelude.{◌≡◌, ℕ, ◌+◌, ◌<◌, ◌≤◌, Bool, true, List, [], length, Option, Some, None, is_some}
use Rattle.std.specs.List.{list_any, AllByRecursion}
use Rattle.std.specs.Map.{lookup}
use Rattle.std.specs.Str.{bytes_eq}
use Rattle.std.specs.BTreeMap.{is_at}
use Rattle.std.specs.BTreeSet.{BTreeSet}
use Rattle.std.specs.Ordering.{nat_cmp}
use Rattle.std.specs.Cmp.Lexicographic.{slice_cmp}
use Rattle.asa_base.specs.Prefixes.{member_prefix_count}
use Rattle.asa_objects_lines.specs.declared.statement.Item.{Item}
use Rattle.asa_objects_lines.specs.declared.kinds.GroupKind.{GroupKind}
use Rattle.asa_objects_lines.specs.Items.{item_services}
use Rattle.asa_objects_table.specs.Amounts.{Amounts}
use Rattle.asa_objects_table.specs.declared.rank.Rank.{Rank}
use Rattle.asa_objects_values.specs.Sizes.{member_address_count, subnet_count}
use Rattle.asa_objects_values.specs.Spreads.{total, weight_of}
use Rattle.asa_objects_values.specs.Tables.{Table, entry_of, items_of, named, own_members, group_at, refers_to}

-- what totals count
pub data Part : Type 0 where
  members : Part
  prefixes : Part
  addresses : Part
  subnets : Part
  services : Part

abbrev pub amount : Part → Amounts → ℕ
amount members t = t.members
amount prefixes t = t.prefixes
amount addresses t = t.addresses
amount subnets t = t.subnets
amount services t = t.services

abbrev pub no_totals : Amounts
no_totals = record { members = 0; prefixes = 0; addresses = 0; subnets = 0; services = 0 }

abbrev pub both_totals : Amounts → Amounts → Amounts
both_totals s t = record {
  members = s.members + t.members;
  prefixes = s.prefixes + t.prefixes;
  addresses = s.addresses + t.addresses;
  subnets = s.subnets + t.subnets;
  services = s.services + t.services;
}

-- how much a member states by itself, at a name of that form
abbrev pub own_totals : GroupKind → Item → Amounts
own_totals g i = record {
  members = length (own_members i);
  prefixes = total member_prefix_count (own_members i);
  addresses = total member_address_count (own_members i);
  subnets = total subnet_count (own_members i);
  services = length (item_services g i);
}

abbrev pub Ranks : Type 0
Ranks = List (List ℕ × Rank)

abbrev pub Uses : Type 0
Uses = List (List ℕ × BTreeSet (List ℕ))

abbrev pub rank_of : Ranks → List ℕ → Option Rank
rank_of ranks name = lookup (bytes_eq name) ranks

abbrev pub label_in : Option Rank → ℕ
label_in None = 0
label_in (Some r) = r.label

abbrev pub amount_in : Part → Option Rank → ℕ
amount_in k None = 0
amount_in k (Some r) = amount k r.totals

-- a name's label
abbrev pub label_of : Ranks → List ℕ → ℕ
label_of ranks name = label_in (rank_of ranks name)

-- a name's total of one part
abbrev pub amount_of : Part → Ranks → List ℕ → ℕ
amount_of k ranks name = amount_in k (rank_of ranks name)

-- how much a member counts at the name that has it: what it states, or what is kept of the name that it refers to
abbrev pub weigh : Part → Table → (List ℕ → ℕ) → List ℕ → Item → ℕ
weigh k t kept name i = amount k (own_totals (group_at (entry_of t name)) i) + weight_of kept (named i)

abbrev pub users_in : Option (BTreeSet (List ℕ)) → List (List ℕ)
users_in None = []
users_in (Some users) = users.keys

-- the names that refer to a name, in the order of their bytes
abbrev pub users_of : Uses → List ℕ → List (List ℕ)
users_of uses name = users_in (lookup (is_at (slice_cmp nat_cmp name)) uses)

abbrev pub has_name : List (List ℕ) → List ℕ → Bool
has_name names name = list_any (is_at (slice_cmp nat_cmp name)) names

-- the name that a member refers to is there
abbrev pub IsThere : Table → Option (List ℕ) → Type 0
IsThere t None = Unit {0}
IsThere t (Some name) = is_some (entry_of t name) ≡ true

-- the name that a member refers to has a label below this
abbrev pub IsBelow : (List ℕ → ℕ) → ℕ → Option (List ℕ) → Type 0
IsBelow label n None = Unit {0}
IsBelow label n (Some name) = label name < n

-- what is kept is what the table says
pub record IsSound (t : Table) (ranks : Ranks) (uses : Uses) (stamp : ℕ) : Type 0 where
  -- each name of the table has a rank, and no other
  pub ranked : (q : List ℕ) → is_some (rank_of ranks q) ≡ is_some (entry_of t q)
  -- each name that is referred to is there
  pub there : (q : List ℕ) → AllByRecursion (λ i. IsThere t (named i)) (items_of t q)
  -- and has a lesser label
  pub falls : (q : List ℕ) → AllByRecursion (λ i. IsBelow (label_of ranks) (label_of ranks q) (named i)) (items_of t q)
  -- labels to come are greater than those that are given
  pub early : (q : List ℕ) → is_some (rank_of ranks q) ≡ true → label_of ranks q < stamp
  -- no two names have one label
  pub unlike : (p q : List ℕ) → is_some (rank_of ranks p) ≡ true → is_some (rank_of ranks q) ≡ true → label_of ranks p ≡ label_of ranks q → p ≡ q
  -- totals are the sums over the members
  pub sums : (k : Part) (q : List ℕ) → amount_of k ranks q ≡ total (weigh k t (amount_of k ranks) q) (items_of t q)
  -- and within the limit
  pub small : (q : List ℕ) → (amount_of members ranks q ≤ 65536) × (amount_of services ranks q ≤ 65536)
  -- the users of a name are those that refer to it
  pub used : (c u : List ℕ) → has_name (users_of uses c) u ≡ list_any (refers_to c) (items_of t u)

-- The table of objects and groups: each name with its value, in the order of the names' bytes. What is said of a name here
-- is said by looking it up, so two tables mean the same where each look-up gives the same.
use Rattle.std.specs.Prelude.{ℕ, suc, Bool, false, ◌||◌, List, [], ◌∷◌, length, Option, Some, None}
use Rattle.std.specs.List.{list_any, find, flat_map}
use Rattle.std.specs.Option.{option_map, option_to_list}
use Rattle.std.specs.Map.{lookup, remove_entry}
use Rattle.std.specs.BTreeMap.{is_at, insert_entry}
use Rattle.std.specs.Ordering.{nat_cmp}
use Rattle.std.specs.Cmp.Lexicographic.{slice_cmp}
use Rattle.asa_base.specs.declared.kinds.Kind.{Kind}
use Rattle.asa_base.specs.declared.kinds.PortProto.{PortProto}
use Rattle.asa_base.specs.declared.range.Member.{Member}
use Rattle.asa_base.specs.declared.boxes.Service.{Service}
use Rattle.asa_base.specs.Kinds.{Known}
use Rattle.asa_objects_lines.specs.declared.kinds.BlockKind.{BlockKind}
use Rattle.asa_objects_lines.specs.declared.kinds.BlockKind.TheVariants as block
use Rattle.asa_objects_lines.specs.declared.kinds.GroupKind.{GroupKind}
use Rattle.asa_objects_lines.specs.declared.kinds.GroupKind.TheVariants as group
use Rattle.asa_objects_lines.specs.declared.statement.Item.{Item}
use Rattle.asa_objects_lines.specs.declared.statement.Item.TheVariants as item
use Rattle.asa_objects_lines.specs.Blocks.{kind_of_block}
use Rattle.asa_objects_lines.specs.Items.{item_services}
use Rattle.asa_objects_lines.specs.Services.{single_service}
use Rattle.asa_objects_values.specs.Spreads.{spread}

-- what a name stands for: what its block defines, and its members in order; an object's value is its one member
pub record Entry : Type 0 where
  pub block : BlockKind
  pub items : List Item

abbrev pub Table : Type 0
Table = List (List ℕ × Entry)

-- the two names are the same
abbrev pub same_name : List ℕ → List ℕ → Bool
same_name a b = is_at (slice_cmp nat_cmp a) b

-- what the name stands for
abbrev pub entry_of : Table → List ℕ → Option Entry
entry_of t name = lookup (is_at (slice_cmp nat_cmp name)) t

-- the table with this at the name
abbrev pub with_entry : Table → List ℕ → Entry → Table
with_entry t name entry = insert_entry (slice_cmp nat_cmp) t name entry

-- the table without the name
abbrev pub without_name : Table → List ℕ → Table
without_name t name = remove_entry (is_at (slice_cmp nat_cmp name)) t

abbrev pub items_in : Option Entry → List Item
items_in None = []
items_in (Some entry) = entry.items

-- the members of a name as they are stated
abbrev pub items_of : Table → List ℕ → List Item
items_of t name = items_in (entry_of t name)

-- the name that a member refers to
abbrev pub named : Item → Option (List ℕ)
named (item.Object name) = Some name
named (item.Group name) = Some name
named _ = None

-- the names that members refer to, in their order
abbrev pub refs_in : List Item → List (List ℕ)
refs_in items = flat_map (λ i. option_to_list (named i)) items

-- the group whose members have the form of an object's value
abbrev pub group_of : BlockKind → GroupKind
group_of block.NetObject = group.Network
group_of block.ServiceObject = group.Service
group_of (block.Group g) = g

-- the addresses that a member states by itself
abbrev pub own_members : Item → List Member
own_members (item.Network member) = member ∷ []
own_members _ = []

-- the group whose members have the form of a name's members
abbrev pub group_at : Option Entry → GroupKind
group_at None = group.Network
group_at (Some entry) = group_of entry.block

-- the addresses that a name stands for: its members in order, each name in them replaced in its place by its own members
abbrev pub members_of : Table → List ℕ → List Member
members_of t name = spread named (items_of t) (λ _ i. own_members i) (suc (length t)) name

-- the services that a name stands for, in the same way
abbrev pub services_of_name : Table → List ℕ → List Service
services_of_name t name = spread named (items_of t) (λ q i. item_services (group_at (entry_of t q)) i) (suc (length t)) name

-- the names that a name refers to, those that these refer to, and so on
abbrev pub names_under : Table → List ℕ → List (List ℕ)
names_under t name = spread named (items_of t) (λ _ i. option_to_list (named i)) (suc (length t)) name

-- the name is the other one, or refers to it by however many others
abbrev pub reaches : Table → List ℕ → List ℕ → Bool
reaches t name other = same_name other name || list_any (same_name other) (names_under t name)

-- the member refers to the name
abbrev pub refers_to : List ℕ → Item → Bool
refers_to name i = of_ref (named i)
  where
    of_ref : Option (List ℕ) → Bool
    of_ref None = false
    of_ref (Some other) = same_name name other

-- the least group, by bytes, that names this name directly
abbrev pub user_of : Table → List ℕ → Option (List ℕ)
user_of t name = option_map (λ e. e.0) (find (λ e. list_any (refers_to name) e.1.items) t)

-- what the name is
abbrev pub kind_in : Table → List ℕ → Option Kind
kind_in t name = option_map (λ e. kind_of_block e.block) (entry_of t name)

-- the word of ports of a kind of block
abbrev pub ports_of : BlockKind → Option PortProto
ports_of (block.Group (group.Port proto)) = Some proto
ports_of _ = None

-- the word of ports of a group of ports
abbrev pub port_proto_in : Table → List ℕ → Option PortProto
port_proto_in t name = of_entry (entry_of t name)
  where
    of_entry : Option Entry → Option PortProto
    of_entry None = None
    of_entry (Some e) = ports_of e.block

-- the only one of some members
abbrev pub only : List Item → Option Item
only (i ∷ []) = Some i
only _ = None

-- the service of a service object's value
abbrev pub service_of_value : BlockKind → List Item → Option Service
service_of_value block.ServiceObject items = of_only (only items)
  where
    of_only : Option Item → Option Service
    of_only (Some (item.Service value)) = single_service value
    of_only _ = None
service_of_value _ _ = None

-- the service of a service object of tcp or udp that has one
abbrev pub service_range_in : Table → List ℕ → Option Service
service_range_in t name = of_entry (entry_of t name)
  where
    of_entry : Option Entry → Option Service
    of_entry None = None
    of_entry (Some e) = service_of_value e.block e.items

-- what the readers of lines know of names from the table alone
abbrev pub known_of : Table → Known
known_of t = record {
  kind_of = kind_in t;
  interface_of = λ _. None;
  port_proto = port_proto_in t;
  service_range = service_range_in t;
  address_of = λ _. None;
}

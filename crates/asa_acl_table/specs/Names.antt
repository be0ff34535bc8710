-- What the names of list lines stand for, and the prefix pairs that lists have by that.
use Rattle.std.specs.Prelude.{ℕ, List, Option, Some, None, slice_get, sum_by}
use Rattle.asa_text.specs.declared.numbers.Addr.{Addr}
use Rattle.asa_ifaces.specs.declared.iface.Iface.{Iface}
use Rattle.asa_ifaces.specs.Interfaces.{named_address}
use Rattle.asa_acl.specs.Acls.{AccessLines}
use Rattle.asa_objects_values.specs.Tables.{Table, members_of, services_of_name}
use Rattle.asa_acl_boxes.specs.Meanings.{Meanings}
use Rattle.asa_acl_boxes.specs.Pairs.{list_pairs}

-- the own address of an interface that has a name, where there is such an interface
abbrev pub address_if_any : Option Iface → Option Addr
address_if_any None = None
address_if_any (Some i) = named_address i

-- the address of the interface with this number
abbrev pub address_in : List Iface → ℕ → Option Addr
address_in ifaces ifc = address_if_any (slice_get ifaces ifc)

-- what the names of list lines stand for where these are the objects and groups, and these the interfaces
abbrev pub meanings_in : Table → List Iface → Meanings
meanings_in objects ifaces = record { members = members_of objects; services = services_of_name objects; address_of = address_in ifaces }

-- the prefix pairs of lists
abbrev pub pairs_of_lists : Meanings → List AccessLines → ℕ
pairs_of_lists m lists = sum_by (λ l. list_pairs m l.lines) lists

-- What is configured of interfaces and routes, as plain lists.
use Rattle.std.specs.Prelude.{◌≡◌, ℕ, ◌≤◌, Bool, true, false, nat_lt, nat_le, List, [], length, slice_get, Option, Some, None, is_some}
use Rattle.std.specs.List.{position, list_all}
use Rattle.std.specs.Str.{bytes_eq}
use Rattle.asa_text.specs.declared.numbers.Addr.{Addr}
use Rattle.asa_base.specs.Kinds.{Known}
use Rattle.asa_ifaces.specs.declared.iface.Iface.{Iface}
use Rattle.asa_ifaces.specs.declared.iface.RouteLine.{RouteLine}
use Rattle.asa_ifaces.specs.declared.iface.Timeouts.{Timeouts}

-- interfaces, routes, times, and what is permitted between interfaces of one level
pub record Interfaces : Type 0 where
  -- the interfaces in the order of their blocks; an interface's number is its place, from 0
  pub ifaces : List Iface
  -- the route lines in order
  pub routes : List RouteLine
  -- how long a connection may stand still
  pub timeouts : Timeouts
  -- a packet may go between two interfaces of one level
  pub inter : Bool
  -- a packet may leave by the interface that it came in on
  pub intra : Bool

-- the times where no line states one: an hour, ten minutes, two minutes and two seconds
abbrev pub usual_times : Timeouts
usual_times = record { conn = 3600; half_closed = 600; udp = 120; icmp = 2 }

-- nothing is configured
abbrev pub nothing : Interfaces
nothing = record { ifaces = []; routes = []; timeouts = usual_times; inter = false; intra = false }

-- the interface has this name
abbrev pub has_name : List ℕ → Iface → Bool
has_name name i = of_name i.name
  where
    of_name : Option (List ℕ) → Bool
    of_name None = false
    of_name (Some given) = bytes_eq given name

-- the number of the interface among these that has this name
abbrev pub number_among : List Iface → List ℕ → Option ℕ
number_among ifaces name = position (has_name name) ifaces

-- the number of the interface that has this name
abbrev pub interface_of : Interfaces → List ℕ → Option ℕ
interface_of i name = number_among i.ifaces name

-- the interface with this number is there and has a name
abbrev pub is_named : Interfaces → ℕ → Bool
is_named i ifc = of_iface (slice_get i.ifaces ifc)
  where
    of_iface : Option Iface → Bool
    of_iface None = false
    of_iface (Some iface) = is_some iface.name

-- the own address of an interface that has a name
abbrev pub named_address : Iface → Option Addr
named_address iface = of_parts iface.name iface.addr
  where
    of_parts : Option (List ℕ) → Option (Addr × ℕ) → Option Addr
    of_parts None _ = None
    of_parts (Some _) None = None
    of_parts (Some _) (Some placed) = Some placed.0

-- the own address of the interface with this number, where it is a named one that has an address
abbrev pub address_of : Interfaces → ℕ → Option Addr
address_of i ifc = of_iface (slice_get i.ifaces ifc)
  where
    of_iface : Option Iface → Option Addr
    of_iface None = None
    of_iface (Some iface) = named_address iface

-- what the readers of lines know of names by these alone: neither objects nor groups
abbrev pub known_in : Interfaces → Known
known_in i = record {
  kind_of = λ _. None;
  interface_of = interface_of i;
  port_proto = λ _. None;
  service_range = λ _. None;
  address_of = address_of i;
}

-- an own address, where there is one, has a mask of at most 32 ones
abbrev pub has_mask : Option (Addr × ℕ) → Bool
has_mask None = true
has_mask (Some placed) = nat_le placed.1 32

-- so has each interface's
abbrev pub all_have_masks : List Iface → Bool
all_have_masks ifaces = list_all (λ i. has_mask i.addr) ifaces

-- each route leaves by one of n interfaces
abbrev pub all_leave : ℕ → List RouteLine → Bool
all_leave n routes = list_all (λ r. nat_lt r.ifc n) routes

-- what holds of all that can be configured: the limits, that masks are masks, and that each route leaves by one of the
-- interfaces
pub record IsSound (i : Interfaces) : Type 0 where
  pub few_ifaces : length i.ifaces ≤ 64
  pub few_routes : length i.routes ≤ 4096
  pub masks : all_have_masks i.ifaces ≡ true
  pub leave : all_leave (length i.ifaces) i.routes ≡ true

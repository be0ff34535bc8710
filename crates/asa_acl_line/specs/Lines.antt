-- When two lines of an access list are equal, and which objects and groups a line names.
use Rattle.std.specs.Prelude.{ℕ, Bool, true, false, ◌&&◌, ◌||◌, ◌==◌, List, Option, Some, None}
use Rattle.std.specs.Str.{bytes_eq}
use Rattle.std.proofs.Math.Bool.{beq}
use Rattle.std.specs.Cmp.Lexicographic.{pointwise}
use Rattle.std.specs.Option.{option_eq}
use Rattle.asa_base.specs.Networks.{Network}
use Rattle.asa_base.specs.Ranges.{PortSpan}
use Rattle.asa_base.specs.declared.boxes.Service.{Service}
use Rattle.asa_acl_line.specs.declared.ace.AddrRef.{AddrRef}
use Rattle.asa_acl_line.specs.declared.ace.AddrRef.TheVariants as address
use Rattle.asa_acl_line.specs.declared.ace.PortRef.{PortRef}
use Rattle.asa_acl_line.specs.declared.ace.PortRef.TheVariants as port
use Rattle.asa_acl_line.specs.declared.ace.ServiceRef.{ServiceRef}
use Rattle.asa_acl_line.specs.declared.ace.ServiceRef.TheVariants as service
use Rattle.asa_acl_line.specs.declared.ace.Ace.{Ace}
use Rattle.asa_acl_line.specs.declared.ace.AclLine.{AclLine}
use Rattle.asa_acl_line.specs.declared.ace.AclLine.TheVariants as line

abbrev pub number_eq : ℕ → ℕ → Bool
number_eq a b = a == b

abbrev pub network_eq : Network → Network → Bool
network_eq a b = (a.addr.0 == b.addr.0) && (a.len == b.len)

abbrev pub span_eq : PortSpan → PortSpan → Bool
span_eq a b = (a.first == b.first) && (a.last == b.last)

abbrev pub spans_eq : List PortSpan → List PortSpan → Bool
spans_eq = pointwise span_eq

-- two services state the same
unfoldable pub service_eq : Service → Service → Bool
service_eq a b = option_eq number_eq a.proto b.proto && span_eq a.sport b.sport && span_eq a.dport b.dport
    && option_eq number_eq a.itype b.itype && option_eq number_eq a.icode b.icode

-- sources and destinations are equal by kind and value
unfoldable pub address_eq : AddrRef → AddrRef → Bool
address_eq address.Any address.Any = true
address_eq address.Nothing address.Nothing = true
address_eq (address.Host a) (address.Host b) = a.0 == b.0
address_eq (address.Net a) (address.Net b) = network_eq a b
address_eq (address.Named a) (address.Named b) = bytes_eq a b
address_eq (address.Interface a) (address.Interface b) = a == b
address_eq _ _ = false

-- stated ports are equal where their ranges are; a range of all ports isn't equal to none stated
unfoldable pub ports_eq : PortRef → PortRef → Bool
ports_eq port.All port.All = true
ports_eq (port.Ranges a) (port.Ranges b) = spans_eq a b
ports_eq (port.Named a) (port.Named b) = bytes_eq a b
ports_eq _ _ = false

unfoldable pub service_ref_eq : ServiceRef → ServiceRef → Bool
service_ref_eq (service.Plain a) (service.Plain b) = service_eq a b
service_ref_eq (service.Named a) (service.Named b) = bytes_eq a b
service_ref_eq (service.Ported group proto source dest) (service.Ported group' proto' source' dest') =
    option_eq bytes_eq group group' && option_eq number_eq proto proto' && ports_eq source source' && ports_eq dest dest'
service_ref_eq (service.Icmp a) (service.Icmp b) = bytes_eq a b
service_ref_eq _ _ = false

-- entries are equal where each part is
unfoldable pub ace_eq : Ace → Ace → Bool
ace_eq a b = beq a.permit b.permit && beq a.active b.active && service_ref_eq a.service b.service
    && address_eq a.source b.source && address_eq a.dest b.dest

-- two lines are equal: both entries or both remarks, with equal values
unfoldable pub line_eq : AclLine → AclLine → Bool
line_eq (line.Ace a) (line.Ace b) = ace_eq a b
line_eq (line.Remark a) (line.Remark b) = bytes_eq a b
line_eq _ _ = false

-- the name of a network object or group that stands there
abbrev pub address_name : AddrRef → Option (List ℕ)
address_name (address.Named name) = Some name
address_name _ = None

-- the name of a group of ports that stands there
abbrev pub ports_name : PortRef → Option (List ℕ)
ports_name (port.Named name) = Some name
ports_name _ = None

-- the name of an object or a group that states the services, the protocols or the ICMP types
abbrev pub service_name : ServiceRef → Option (List ℕ)
service_name (service.Plain _) = None
service_name (service.Named name) = Some name
service_name (service.Ported group _ _ _) = group
service_name (service.Icmp name) = Some name

-- the names of the groups that state the source and the destination ports
abbrev pub source_ports_name : ServiceRef → Option (List ℕ)
source_ports_name (service.Ported _ _ source _) = ports_name source
source_ports_name _ = None

abbrev pub dest_ports_name : ServiceRef → Option (List ℕ)
dest_ports_name (service.Ported _ _ _ dest) = ports_name dest
dest_ports_name _ = None

-- this name stands there
abbrev pub is_named : List ℕ → Option (List ℕ) → Bool
is_named name None = false
is_named name (Some other) = bytes_eq name other

-- an entry uses the object or group of this name
unfoldable pub ace_uses : List ℕ → Ace → Bool
ace_uses name a = is_named name (service_name a.service) || is_named name (source_ports_name a.service) || is_named name (dest_ports_name a.service)
    || is_named name (address_name a.source) || is_named name (address_name a.dest)

-- a line uses the object or group of this name; a remark uses none
unfoldable pub line_uses : List ℕ → AclLine → Bool
line_uses name (line.Ace a) = ace_uses name a
line_uses name (line.Remark _) = false

-- The protocol and the ports of a rule.
use Rattle.std.specs.Prelude.{ℕ, ◌+◌, ◌-◌, List, Option, Some, None}
use Rattle.asa_base.specs.Boxes.{any_service}
use Rattle.asa_base.specs.Ranges.{PortSpan, only_port, all_ports}
use Rattle.asa_base.specs.declared.boxes.Service.{Service}
use Rattle.asa_nat_lines.specs.declared.rule.ServicePart.{ServicePart}
use Rattle.asa_nat_lines.specs.declared.rule.ServicePart.TheVariants as service
use Rattle.asa_nat_rules.specs.Meanings.{Meanings}
use Rattle.asa_nat_rules.specs.declared.ports.RulePorts.{RulePorts}

-- how many ports a range has
abbrev pub port_size : PortSpan → ℕ
port_size p = p.last + 1 - p.first

-- all protocols and ports
abbrev pub no_ports : RulePorts
no_ports = record { proto = None; real = all_ports; mapped = all_ports; dest_mapped = all_ports; dest_real = all_ports }

-- one real and one mapped source port
abbrev pub source_ports : ℕ → ℕ → ℕ → RulePorts
source_ports proto from to = record { proto = Some proto; real = only_port from; mapped = only_port to; dest_mapped = all_ports; dest_real = all_ports }

-- the first service has the real source and the mapped destination ports, the second the mapped source and the real
-- destination ports
abbrev pub named_ports : Service → Service → RulePorts
named_ports a b = record { proto = a.proto; real = a.sport; mapped = b.sport; dest_mapped = a.dport; dest_real = b.dport }

-- the service of an object; a name that is no such object states nothing
abbrev pub service_or_any : Option Service → Service
service_or_any None = any_service
service_or_any (Some s) = s

-- the protocol and the ports of a rule
abbrev pub ports_of : Meanings → ServicePart → RulePorts
ports_of m service.None = no_ports
ports_of m (service.Ports proto from to) = source_ports proto from to
ports_of m (service.Named first second) = named_ports (service_or_any (m.service_range first)) (service_or_any (m.service_range second))

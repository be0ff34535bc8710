-- Which packets a service and a box hold.
use Rattle.std.specs.Prelude.{ℕ, Bool, true, ◌&&◌, ◌==◌, Option, Some, None}
use Rattle.asa_base.specs.Ranges.{span_holds, port_span_holds, all_ports}
use Rattle.asa_base.specs.declared.flow.Packet.{Packet}
use Rattle.asa_base.specs.declared.boxes.Service.{Service}
use Rattle.asa_base.specs.declared.boxes.LineBox.{LineBox}

-- nothing is stated, or this number
abbrev pub unstated_or : Option ℕ → ℕ → Bool
unstated_or None n = true
unstated_or (Some stated) n = stated == n

-- every service: nothing is stated, and all ports
abbrev pub any_service : Service
any_service = record { proto = None; sport = all_ports; dport = all_ports; itype = None; icode = None }

-- the protocol is unstated or equal, both ports lie in their ranges, the ICMP type and code are unstated or equal
abbrev pub service_holds : Service → Packet → Bool
service_holds s p = unstated_or s.proto p.proto && port_span_holds s.sport p.sport && port_span_holds s.dport p.dport
    && unstated_or s.itype p.itype && unstated_or s.icode p.icode

-- both addresses lie in their ranges, and the service holds the packet
abbrev pub box_holds : LineBox → Packet → Bool
box_holds b p = span_holds b.source p.src && span_holds b.dest p.dst && service_holds b.service p

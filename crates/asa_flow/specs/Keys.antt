-- The keys and the header of a packet.
use Rattle.std.specs.Prelude.{ℕ, Bool, not, ◌&&◌, ◌==◌, if◌then◌else◌}
use Rattle.asa_base.specs.declared.flow.Packet.{Packet}
use Rattle.asa_base.specs.declared.flow.Key.{Key}
use Rattle.asa_base.specs.declared.flow.Header.{Header}

-- what kind of ICMP packet it is: 1 for an echo, 2 for its reply, 3 for another; 0 for every other protocol
abbrev pub kind_of : Packet → ℕ
kind_of p = if p.proto == 1 then (if p.itype == 8 then 1 else (if p.itype == 0 then 2 else 3)) else 0

-- the kind of the packets that answer packets of a kind: an echo is answered by an echo reply
abbrev pub reply_kind : ℕ → ℕ
reply_kind kind = if kind == 1 then 2 else kind

-- the packet's own fields
abbrev pub key_of : Packet → Key
key_of p = record { ifc = p.ifc; proto = p.proto; kind = kind_of p; src = p.src; sport = p.sport; dst = p.dst; dport = p.dport }

-- the key of the packets that answer it: they come in on its egress, from where it goes to
abbrev pub reply_key : Packet → Header → ℕ → Key
reply_key p out egress = record { ifc = egress; proto = p.proto; kind = reply_kind (kind_of p); src = out.dst; sport = out.dport; dst = out.src; dport = out.sport }

-- all packets have a connection but ICMP packets that aren't echoes
abbrev pub tracked : Packet → Bool
tracked p = not ((p.proto == 1) && not (p.itype == 8))

-- the packet's addresses and ports as they are
abbrev pub header_of : Packet → Header
header_of p = record { src = p.src; sport = p.sport; dst = p.dst; dport = p.dport }

-- the packet with the addresses and ports of a header
abbrev pub rewrite : Header → Packet → Packet
rewrite out p = record p { src = out.src; sport = out.sport; dst = out.dst; dport = out.dport }

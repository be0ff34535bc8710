-- The two ends of a packet in its direction, and the look-up of those of earlier packets.
use Rattle.std.specs.Prelude.{◌≡◌, Bool, ◌&&◌, List}
use Rattle.std.specs.List.{list_any}
use Rattle.asa_base.specs.declared.flow.Packet.{Packet}
use Rattle.asa_session.specs.declared.flows.Ends.{Ends}
use Rattle.asa_session.specs.Scripts.{same_end}

-- the two go between the same ends in the same direction
abbrev pub same_direction : Ends → Ends → Bool
same_direction a b = same_end a.from.addr a.from.port b.from.addr b.from.port && same_end a.to.addr a.to.port b.to.addr b.to.port

abbrev pub ends_of : Packet → Ends
ends_of p = record { from = record { addr = p.src; port = p.sport }; to = record { addr = p.dst; port = p.dport } }

-- the other direction
abbrev pub turned : Ends → Ends
turned e = record { from = e.to; to = e.from }

-- some of the packets goes between these ends in this direction
abbrev pub has_direction : List Packet → Ends → Bool
has_direction packets e = list_any (λ p. same_direction e (ends_of p)) packets

-- a look-up among the keys answers what the packets say
abbrev pub Finds : List Ends → List Packet → Type 0
Finds keys packets = (e : Ends) → list_any (same_direction e) keys ≡ has_direction packets e

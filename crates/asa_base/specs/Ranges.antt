-- Ranges of addresses and of ports, from a first to a last that both count, and what an object or a group names with them.
use Rattle.std.specs.Prelude.{ℕ, ◌+◌, ◌-◌, ◌^◌, Bool, ◌&&◌, nat_le, List, [], ◌∷◌, Option, Some, None}
use Rattle.asa_text.specs.declared.numbers.Addr.{Addr}
use Rattle.asa_base.specs.Networks.{Network, block_size}

-- a range of addresses
pub record AddressSpan : Type 0 where
  pub first : Addr
  pub last : Addr

-- a range of ports
pub record PortSpan : Type 0 where
  pub first : ℕ
  pub last : ℕ

-- the address lies in the range
abbrev pub span_holds : AddressSpan → Addr → Bool
span_holds s a = nat_le s.first.0 a.0 && nat_le a.0 s.last.0

-- the port lies in the range
abbrev pub port_span_holds : PortSpan → ℕ → Bool
port_span_holds s p = nat_le s.first p && nat_le p s.last

-- one address
abbrev pub only_address : Addr → AddressSpan
only_address a = record { first = a; last = a }

-- every address
abbrev pub all_addresses : AddressSpan
all_addresses = record { first = record { 0 = 0 }; last = record { 0 = 2 ^ 32 - 1 } }

-- the addresses that share the leading bits of a network's address
abbrev pub network_span : Network → AddressSpan
network_span n = record { first = n.addr; last = record { 0 = n.addr.0 + (block_size n.len - 1) } }

-- one port
abbrev pub only_port : ℕ → PortSpan
only_port p = record { first = p; last = p }

-- every port
abbrev pub all_ports : PortSpan
all_ports = record { first = 0; last = 65535 }

-- one range, or two
abbrev pub one_or_two : PortSpan → Option PortSpan → List PortSpan
one_or_two first None = first ∷ []
one_or_two first (Some second) = first ∷ second ∷ []

-- the first range of a list
abbrev pub first_of : List PortSpan → PortSpan
first_of [] = all_ports
first_of (first ∷ _) = first

-- the second range of a list, where there is one
abbrev pub second_of : List PortSpan → Option PortSpan
second_of [] = None
second_of (_ ∷ []) = None
second_of (_ ∷ second ∷ _) = Some second

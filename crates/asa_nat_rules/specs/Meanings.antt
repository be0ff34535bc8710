-- What the names and the interfaces of NAT rules stand for.
use Rattle.std.specs.Prelude.{ℕ, Bool, List, Option}
use Rattle.asa_text.specs.declared.numbers.Addr.{Addr}
use Rattle.asa_base.specs.declared.range.Member.{Member}
use Rattle.asa_base.specs.declared.range.Member.TheVariants.{Host, Span, Subnet}
use Rattle.asa_base.specs.declared.boxes.Service.{Service}

pub record Meanings : Type 0 where
  -- the members of a network object or group in order, each group replaced in place by its own members
  pub members : List ℕ → List Member
  -- the service of a service object of tcp or udp that has one
  pub service_range : List ℕ → Option Service
  -- the address of an interface, by its number, where it is named and has one
  pub address_of : ℕ → Option Addr

-- the member is a network
abbrev pub is_subnet : Member → Bool
is_subnet (Host _) = Bool.false
is_subnet (Span _) = Bool.false
is_subnet (Subnet _) = Bool.true

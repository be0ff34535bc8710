-- What the names of list lines and NAT rules stand for.
use Rattle.std.specs.Prelude.{ℕ, List, Option}
use Rattle.asa_text.specs.declared.numbers.Addr.{Addr}
use Rattle.asa_base.specs.declared.range.Member.{Member}
use Rattle.asa_base.specs.declared.boxes.Service.{Service}

pub record Meanings : Type 0 where
  -- the members of a network object or group in order, each group replaced in place by its own members
  pub members : List ℕ → List Member
  -- the services of a service object or of a group with services, in order and replaced in the same way
  pub services : List ℕ → List Service
  -- the address of an interface, by its number, where it is named and has one
  pub address_of : ℕ → Option Addr

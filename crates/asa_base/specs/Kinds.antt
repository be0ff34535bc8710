-- What is known of names: of which kind each is, which interface has it, and what stands behind it.
use Rattle.std.specs.Prelude.{ℕ, List, Option}
use Rattle.asa_text.specs.declared.numbers.Addr.{Addr}
use Rattle.asa_base.specs.declared.kinds.Kind.{Kind}
use Rattle.asa_base.specs.declared.kinds.PortProto.{PortProto}
use Rattle.asa_base.specs.declared.boxes.Service.{Service}

pub record Known : Type 0 where
  pub kind_of : List ℕ → Option Kind
  pub interface_of : List ℕ → Option ℕ
  pub port_proto : List ℕ → Option PortProto
  pub service_range : List ℕ → Option Service
  pub address_of : ℕ → Option Addr

-- Which case of the NAT rules decides what becomes of a packet's destination, and of its source.
use Rattle.std.specs.Prelude.{ℕ, ◌*◌, ◌<◌, Bool, true, false, ◌&&◌, List, length, filter, flat_map, sum_by, Option, Some, None, is_some, IfSome, if◌then◌else◌}
use Rattle.std.specs.List.{list_any, position}
use Rattle.asa_text.specs.declared.numbers.Addr.{Addr}
use Rattle.asa_base.specs.Boxes.{unstated_or, service_holds}
use Rattle.asa_base.specs.Networks.{Network, covers}
use Rattle.asa_base.specs.Prefixes.{prefixes_of_span}
use Rattle.asa_base.specs.Ranges.{AddressSpan, span_holds}
use Rattle.asa_base.specs.declared.boxes.Service.{Service}
use Rattle.asa_base.specs.declared.flow.NatPlace.{NatPlace}
use Rattle.asa_base.specs.declared.flow.Packet.{Packet}
use Rattle.asa_nat_rules.specs.declared.case.Case.{Case}
use Rattle.asa_nat_rules.specs.declared.case.CaseMap.{CaseMap}
use Rattle.asa_nat_rules.specs.declared.case.CaseMap.TheVariants as map
use Rattle.asa_nat_rules.specs.Pairs.{case_pairs}

-- the cases of all active rules in the order of the rules, each with the place of its rule
abbrev pub Cases : Type 0
Cases = List (NatPlace × Case)

-- one of the ranges has the address
abbrev pub lies_in : Addr → List AddressSpan → Bool
lies_in a spans = list_any (λ s. span_holds s a) spans

-- the protocol and the ports that a case holds
abbrev pub service_of : Case → Service
service_of c = record { proto = c.proto; sport = c.sport; dport = c.dport; itype = None; icode = None }

-- both addresses lie in the case's sets, and protocol and ports fit
abbrev pub fits : Packet → Case → Bool
fits p c = lies_in p.src c.source && lies_in p.dst c.dest && service_holds (service_of c) p

-- the case says what becomes of the destination
abbrev pub has_dest_part : Case → Bool
has_dest_part c = is_some c.dest_map

-- the case says what becomes of the source
abbrev pub maps_source : CaseMap → Bool
maps_source map.None = false
maps_source (map.Static _) = true
maps_source (map.Dynamic _ _) = true

abbrev pub has_source_part : Case → Bool
has_source_part c = maps_source c.source_map

-- a case for the destination of a packet: it has a destination part, comes from `any` or the input, and holds the packet
abbrev pub decides_dest : Packet → NatPlace × Case → Bool
decides_dest p k = has_dest_part k.1 && unstated_or k.1.from p.ifc && fits p k.1

-- a case for the source of a packet: it has a source part, comes from `any` or the input, goes to `any` or the egress, and
-- holds the packet
abbrev pub decides_source : Packet → ℕ → NatPlace × Case → Bool
decides_source p egress k = has_source_part k.1 && (unstated_or k.1.from p.ifc && unstated_or k.1.to egress) && fits p k.1

-- the index, from 0, of the first case for the destination
unfoldable pub destination : Cases → Packet → Option ℕ
destination cases p = position (decides_dest p) cases

-- the index, from 0, of the first case for the source
unfoldable pub source : Cases → Packet → ℕ → Option ℕ
source cases p egress = position (decides_source p egress) cases

-- the networks of ranges
abbrev pub networks_of : List AddressSpan → List Network
networks_of spans = flat_map prefixes_of_span spans

-- how many of these networks cover the address
abbrev pub covering : Addr → List Network → ℕ
covering a ns = length (filter (λ n. covers n a) ns)

-- how many prefix pairs of a case cover the packet's addresses
abbrev pub case_covering : Packet → Case → ℕ
case_covering p c = covering p.src (networks_of c.source) * covering p.dst (networks_of c.dest)

-- a number, where a test holds
abbrev pub count_if : Bool → ℕ → ℕ
count_if holds n = if holds then n else 0

-- how many prefix pairs of the cases with a destination part from `any` or the input cover the packet's addresses
unfoldable pub destination_covering : Cases → Packet → ℕ
destination_covering cases p = sum_by (λ k. count_if (has_dest_part k.1 && unstated_or k.1.from p.ifc) (case_covering p k.1)) cases

-- how many prefix pairs of the cases with a source part from `any` or the input to `any` or the egress do
unfoldable pub source_covering : Cases → Packet → ℕ → ℕ
source_covering cases p egress =
    sum_by (λ k. count_if (has_source_part k.1 && (unstated_or k.1.from p.ifc && unstated_or k.1.to egress)) (case_covering p k.1)) cases

-- the prefix pairs of all cases
abbrev pub pairs_of : Cases → ℕ
pairs_of cases = sum_by (λ k. case_pairs k.1) cases

-- the interfaces of a case are `any` or below 64
pub record IsNarrow (k : NatPlace × Case) : Type 0 where
  pub from : IfSome k.1.from (λ ifc. ifc < 64)
  pub to : IfSome k.1.to (λ ifc. ifc < 64)

-- Regions: sets of packets, by a range of numbers in each of seven dimensions.
use Rattle.std.specs.Prelude.{ℕ, ◌+◌, ◌-◌, Bool, true, false, ◌&&◌, nat_le, nat_lt, List, [], ◌∷◌, slice_index_or, slice_set, Option, Some, None, if◌then◌else◌}
use Rattle.asa_base.specs.Ranges.{AddressSpan, PortSpan}
use Rattle.asa_base.specs.declared.flow.Packet.{Packet}
use Rattle.asa_base.specs.declared.boxes.LineBox.{LineBox}
use Rattle.asa_shadow.specs.declared.region.Span.{Span}
use Rattle.asa_shadow.specs.declared.region.Cut.{Cut}

-- the numbers from a lowest to a highest
abbrev pub span : ℕ → ℕ → Span
span low high = record { low = low; high = high }

-- the range has the number
abbrev pub has : Span → ℕ → Bool
has s n = nat_le s.low n && nat_le n s.high

-- the two ranges have a number in common
abbrev pub overlap : Span → Span → Bool
overlap s t = nat_le s.low t.high && nat_le t.low s.high

-- the first range has all that the second has, which isn't empty
abbrev pub surrounds : Span → Span → Bool
surrounds s t = nat_le s.low t.low && nat_le t.high s.high

-- the range isn't empty and lies in another
abbrev pub is_part : Span → Span → Bool
is_part whole s = nat_le whole.low s.low && nat_le s.low s.high && nat_le s.high whole.high

-- a region has a point: its number in each dimension lies in the region's range
abbrev pub holds : List Span → List ℕ → Bool
holds [] [] = true
holds (s ∷ ss) (n ∷ ns) = has s n && holds ss ns
holds _ _ = false

-- two regions have a point in common
abbrev pub meets : List Span → List Span → Bool
meets [] [] = true
meets (s ∷ ss) (t ∷ ts) = overlap s t && meets ss ts
meets _ _ = false

-- the first region has all points of the second
abbrev pub contains : List Span → List Span → Bool
contains [] [] = true
contains (s ∷ ss) (t ∷ ts) = surrounds s t && contains ss ts
contains _ _ = false

-- each range is part of the one of the same dimension
abbrev pub are_parts : List Span → List Span → Bool
are_parts [] [] = true
are_parts (w ∷ ws) (s ∷ ss) = is_part w s && are_parts ws ss
are_parts _ _ = false

-- the numbers that there are in each dimension: source and destination address, protocol, source and destination port,
-- ICMP type and ICMP code
abbrev pub everything : List Span
everything = span 0 4294967295 ∷ span 0 4294967295 ∷ span 0 255 ∷ span 0 65535 ∷ span 0 65535 ∷ span 0 255 ∷ span 0 255 ∷ []

-- a range in each dimension, none of them empty
abbrev pub is_region : List Span → Bool
is_region r = are_parts everything r

-- the range of a region in a dimension, from 1
abbrev pub span_in : List Span → ℕ → Span
span_in r dim = slice_index_or r (dim - 1) (span 0 0)

-- a cut lies inside a region: there are numbers up to it and numbers above it
abbrev pub is_inside : List Span → Cut → Bool
is_inside r c = nat_lt 0 c.dim && nat_lt (c.dim - 1) 7 && nat_le (span_in r c.dim).low c.at && nat_lt c.at (span_in r c.dim).high

-- the part of a region up to a cut
abbrev pub lower : List Span → Cut → List Span
lower r c = slice_set r (c.dim - 1) (span (span_in r c.dim).low c.at)

-- the part of a region above a cut
abbrev pub upper : List Span → Cut → List Span
upper r c = slice_set r (c.dim - 1) (span (c.at + 1) (span_in r c.dim).high)

-- the numbers of a packet
abbrev pub point_of : Packet → List ℕ
point_of p = p.src.0 ∷ p.dst.0 ∷ p.proto ∷ p.sport ∷ p.dport ∷ p.itype ∷ p.icode ∷ []

-- a stated number, or all from a least to 255
abbrev pub stated_or_from : ℕ → Option ℕ → Span
stated_or_from least None = span least 255
stated_or_from least (Some n) = span n n

abbrev pub of_addresses : AddressSpan → Span
of_addresses s = span s.first.0 s.last.0

abbrev pub of_ports : PortSpan → Span
of_ports s = span s.first s.last

-- the region of a box of a list; an unstated protocol is 1 to 255
abbrev pub region_of : LineBox → List Span
region_of b = of_addresses b.source ∷ of_addresses b.dest ∷ stated_or_from 1 b.service.proto ∷ of_ports b.service.sport
    ∷ of_ports b.service.dport ∷ stated_or_from 0 b.service.itype ∷ stated_or_from 0 b.service.icode ∷ []

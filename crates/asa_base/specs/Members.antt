-- What a network object or group names: an address, a range of addresses or a network.
use Rattle.asa_base.specs.Ranges.{AddressSpan, only_address, network_span}
use Rattle.asa_base.specs.declared.range.Member.{Member}
use Rattle.asa_base.specs.declared.range.Member.TheVariants.{Host, Span, Subnet}

-- the addresses of a member
abbrev pub member_range : Member → AddressSpan
member_range (Host a) = only_address a
member_range (Span r) = r
member_range (Subnet n) = network_span n

-- What a dynamic rule gives out.
use Rattle.std.specs.Prelude.{ℕ, Bool, true, false, List, [], ◌∷◌, ◌++◌, map, flat_map, Option, Some, None}
use Rattle.asa_base.specs.Ranges.{AddressSpan, only_address}
use Rattle.asa_base.specs.declared.range.Member.{Member}
use Rattle.asa_base.specs.declared.range.Member.TheVariants.{Host, Span, Subnet}
use Rattle.asa_nat_lines.specs.declared.rule.PoolRef.{PoolRef}
use Rattle.asa_nat_lines.specs.declared.rule.PoolRef.TheVariants as pool
use Rattle.asa_nat_lines.specs.declared.rule.MappedRef.{MappedRef}
use Rattle.asa_nat_lines.specs.declared.rule.MappedRef.TheVariants as mapped
use Rattle.asa_pool_values.specs.declared.pool.PortRule.{PortRule}
use Rattle.asa_pool_values.specs.declared.pool.PortRule.TheVariants as ports
use Rattle.asa_pool_values.specs.declared.pool.PatSpan.{PatSpan}
use Rattle.asa_nat_rules.specs.Meanings.{Meanings}
use Rattle.asa_nat_rules.specs.Sets.{named_set, interface_set}

-- a member that is a range
abbrev pub span_of : Member → List AddressSpan
span_of (Host _) = []
span_of (Span s) = s ∷ []
span_of (Subnet _) = []

-- a member that is an address
abbrev pub host_of : Member → List AddressSpan
host_of (Host a) = only_address a ∷ []
host_of (Span _) = []
host_of (Subnet _) = []

-- the addresses that are given out whole: the ranges of the object or group that stands first
abbrev pub nat_of_first : Meanings → Option PoolRef → List AddressSpan
nat_of_first m None = []
nat_of_first m (Some (pool.Addr _)) = []
nat_of_first m (Some (pool.Named name)) = flat_map span_of (m.members name)

-- addresses that are given out port by port
abbrev pub pat_span : PortRule → Bool → AddressSpan → PatSpan
pat_span rule extended s = record { range = s; ports = rule; extended = extended }

abbrev pub plain_span : AddressSpan → PatSpan
plain_span s = pat_span ports.Plain false s

-- the stated address, or the hosts of the object or group that stands first: their ports are plain
abbrev pub pat_of_first : Meanings → Option PoolRef → List PatSpan
pat_of_first m None = []
pat_of_first m (Some (pool.Addr a)) = plain_span (only_address a) ∷ []
pat_of_first m (Some (pool.Named name)) = map plain_span (flat_map host_of (m.members name))

-- the members of `pat-pool`, which alone take the pool's words
abbrev pub pat_of_pool : Meanings → Option (List ℕ) → PortRule → Bool → List PatSpan
pat_of_pool m None rule extended = []
pat_of_pool m (Some name) rule extended = map (pat_span rule extended) (named_set m name)

-- the interface's address, which comes last
abbrev pub pat_of_last : Meanings → Option ℕ → Bool → List PatSpan
pat_of_last m ifc true = map plain_span (interface_set m ifc)
pat_of_last m ifc false = []

-- the addresses of a pool that are given out whole
abbrev pub nat_ranges : Meanings → MappedRef → List AddressSpan
nat_ranges m (mapped.Pool first _ _ _ _) = nat_of_first m first
nat_ranges m _ = []

-- the addresses of a pool that are given out port by port, in the order in which they are asked
abbrev pub pat_spans : Meanings → Option ℕ → MappedRef → List PatSpan
pat_spans m ifc (mapped.Pool first pat_pool interface rule extended) =
    pat_of_first m first ++ (pat_of_pool m pat_pool rule extended ++ pat_of_last m ifc interface)
pat_spans m ifc _ = []

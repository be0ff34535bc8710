-- Why a rule has no cases.
use Rattle.std.specs.Prelude.{ℕ, Bool, ◌||◌, ◌==◌, List, Option, Some, None, if◌then◌else◌}
use Rattle.std.specs.List.{list_any}
use Rattle.asa_nat_lines.specs.declared.rule.PoolRef.{PoolRef}
use Rattle.asa_nat_lines.specs.declared.rule.PoolRef.TheVariants as pool
use Rattle.asa_nat_lines.specs.declared.rule.MappedRef.{MappedRef}
use Rattle.asa_nat_lines.specs.declared.rule.MappedRef.TheVariants as mapped
use Rattle.asa_nat_lines.specs.declared.rule.RuleFields.{RuleFields}
use Rattle.asa_nat_rules.specs.declared.fault.NatFault.{NatFault}
use Rattle.asa_nat_rules.specs.declared.fault.NatFault.TheVariants.{SizeDiffers, SubnetPool}
use Rattle.asa_nat_rules.specs.declared.ports.RulePorts.{RulePorts}
use Rattle.asa_nat_rules.specs.Meanings.{Meanings, is_subnet}
use Rattle.asa_nat_rules.specs.Ports.{port_size, ports_of}
use Rattle.asa_nat_rules.specs.Sets.{size_of, named_set, real_set, mapped_set}

-- the first of two faults
abbrev pub or_later : Option NatFault → Option NatFault → Option NatFault
or_later None later = later
or_later (Some fault) later = Some fault

-- a real and a mapped number are equal
abbrev pub sizes_fault : ℕ → ℕ → Option NatFault
sizes_fault real mapped = if real == mapped then None else Some (SizeDiffers real mapped)

-- the addresses of a static source
abbrev pub source_fault : Meanings → RuleFields → Option NatFault
source_fault m f = if f.is_static then sizes_fault (size_of (real_set m f.real)) (size_of (mapped_set m f)) else None

-- the addresses of the destination, whose mapped name stands first
abbrev pub dest_fault : Meanings → Option (List ℕ × List ℕ) → Option NatFault
dest_fault m None = None
dest_fault m (Some (to, from)) = sizes_fault (size_of (named_set m from)) (size_of (named_set m to))

-- the source ports, then the destination ports
abbrev pub ports_fault : RulePorts → Option NatFault
ports_fault p = or_later (sizes_fault (port_size p.real) (port_size p.mapped)) (sizes_fault (port_size p.dest_real) (port_size p.dest_mapped))

-- a name has a network among its members
abbrev pub has_subnet : Meanings → List ℕ → Bool
has_subnet m name = list_any is_subnet (m.members name)

abbrev pub first_has_subnet : Meanings → Option PoolRef → Bool
first_has_subnet m None = Bool.false
first_has_subnet m (Some (pool.Addr _)) = Bool.false
first_has_subnet m (Some (pool.Named name)) = has_subnet m name

abbrev pub pat_has_subnet : Meanings → Option (List ℕ) → Bool
pat_has_subnet m None = Bool.false
pat_has_subnet m (Some name) = has_subnet m name

-- a name of the pool has one
abbrev pub pool_fault : Meanings → MappedRef → Option NatFault
pool_fault m (mapped.Pool first pat_pool _ _ _) = if first_has_subnet m first || pat_has_subnet m pat_pool then Some SubnetPool else None
pool_fault m _ = None

-- the fault of a rule: the sizes of the source are judged first, then those of the destination, then those of the ports,
-- and the pool last
unfoldable pub fault_of : Meanings → RuleFields → Option NatFault
fault_of m f = or_later (source_fault m f) (or_later (dest_fault m f.dest) (or_later (ports_fault (ports_of m f.service)) (pool_fault m f.mapped)))

-- The cases of a rule: what it does to flows that start on its real side, and on its mapped side.
use Rattle.std.specs.Prelude.{◌≡◌, ℕ, Bool, true, false, not, ◌&&◌, List, Option, Some, None, Result, Ok, Err, if◌then◌else◌}
use Rattle.asa_base.specs.Ranges.{AddressSpan}
use Rattle.asa_nat_lines.specs.declared.rule.RuleFields.{RuleFields}
use Rattle.asa_nat_rules.specs.declared.case.Case.{Case}
use Rattle.asa_nat_rules.specs.declared.case.CaseMap.{CaseMap}
use Rattle.asa_nat_rules.specs.declared.case.CaseMap.TheVariants as map
use Rattle.asa_nat_rules.specs.declared.fault.NatFault.{NatFault}
use Rattle.asa_nat_rules.specs.declared.fault.NatFault.TheVariants.{SizeDiffers, SubnetPool, NoMemory}
use Rattle.asa_nat_rules.specs.Meanings.{Meanings}
use Rattle.asa_nat_rules.specs.Sets.{real_set, mapped_set, dest_real_set, dest_mapped_set}
use Rattle.asa_nat_rules.specs.Ports.{ports_of}
use Rattle.asa_nat_rules.specs.Pools.{nat_ranges, pat_spans}
use Rattle.asa_nat_rules.specs.Faults.{fault_of}

-- a static rule maps its real to its mapped addresses, a dynamic one gives out its pool
abbrev pub source_map : Meanings → RuleFields → CaseMap
source_map m f = if f.is_static then map.Static (mapped_set m f) else map.Dynamic (nat_ranges m f.mapped) (pat_spans m f.mapped_ifc f.mapped)

-- a map of the destination, where the rule has one
abbrev pub dest_map : Option (List ℕ × List ℕ) → List AddressSpan → Option (List AddressSpan)
dest_map None to = None
dest_map (Some _) to = Some to

-- a map back of the destination, where the rule has one
abbrev pub dest_map_back : Option (List ℕ × List ℕ) → List AddressSpan → CaseMap
dest_map_back None to = map.None
dest_map_back (Some _) to = map.Static to

-- from the real to the mapped interface: the source is mapped, and the mapped destination goes to the real one
unfoldable pub forward_case : Meanings → RuleFields → Case
forward_case m f = record {
  forward = true;
  from = f.real_ifc;
  to = f.mapped_ifc;
  source = real_set m f.real;
  source_map = source_map m f;
  dest = dest_mapped_set m f;
  dest_map = dest_map f.dest (dest_real_set m f);
  proto = (ports_of m f.service).proto;
  sport = (ports_of m f.service).real;
  sport_to = (ports_of m f.service).mapped;
  dport = (ports_of m f.service).dest_mapped;
  dport_to = (ports_of m f.service).dest_real;
  route_lookup = f.route_lookup;
}

-- from the mapped to the real interface: the real destination, as source, goes back to the mapped one, and the mapped
-- source, as destination, goes back to the real one
unfoldable pub opposite_case : Meanings → RuleFields → Case
opposite_case m f = record {
  forward = false;
  from = f.mapped_ifc;
  to = f.real_ifc;
  source = dest_real_set m f;
  source_map = dest_map_back f.dest (dest_mapped_set m f);
  dest = mapped_set m f;
  dest_map = Some (real_set m f.real);
  proto = (ports_of m f.service).proto;
  sport = (ports_of m f.service).dest_real;
  sport_to = (ports_of m f.service).dest_mapped;
  dport = (ports_of m f.service).mapped;
  dport_to = (ports_of m f.service).real;
  route_lookup = f.route_lookup;
}

-- a static rule that isn't unidirectional has an opposite case
abbrev pub has_opposite : RuleFields → Bool
has_opposite f = f.is_static && not f.unidirectional

abbrev pub opposite_if_any : Meanings → RuleFields → Option Case
opposite_if_any m f = if has_opposite f then Some (opposite_case m f) else None

-- the cases of a rule without a fault
abbrev pub unless_fault : Option NatFault → Case × Option Case → Result (Case × Option Case) NatFault
unless_fault None cases = Ok cases
unless_fault (Some fault) cases = Err fault

unfoldable pub cases_of : Meanings → RuleFields → Result (Case × Option Case) NatFault
cases_of m f = unless_fault (fault_of m f) (forward_case m f, opposite_if_any m f)

-- the contract of a call that gives cases: the answer is the definition's; of want of memory nothing is said
abbrev pub MayGive : Result (Case × Option Case) NatFault → Result (Case × Option Case) NatFault → Type 0
MayGive (Ok cases) r = r ≡ Ok cases
MayGive (Err (SizeDiffers real mapped)) r = r ≡ Err (SizeDiffers real mapped)
MayGive (Err SubnetPool) r = r ≡ Err SubnetPool
MayGive (Err NoMemory) r = Unit {0}

-- The sets of addresses that a rule speaks of, as ranges in order, and how many addresses they have.
use Rattle.std.specs.Prelude.{ℕ, ◌+◌, ◌-◌, ◌^◌, min, ◌==◌, Bool, List, [], ◌∷◌, map, sum_by, Option, Some, None, if◌then◌else◌}
use Rattle.asa_text.specs.declared.numbers.Addr.{Addr}
use Rattle.asa_base.specs.Members.{member_range}
use Rattle.asa_base.specs.Ranges.{AddressSpan, only_address, all_addresses}
use Rattle.asa_nat_lines.specs.declared.rule.RealRef.{RealRef}
use Rattle.asa_nat_lines.specs.declared.rule.RealRef.TheVariants as real
use Rattle.asa_nat_lines.specs.declared.rule.MappedRef.{MappedRef}
use Rattle.asa_nat_lines.specs.declared.rule.MappedRef.TheVariants as mapped
use Rattle.asa_nat_lines.specs.declared.rule.RuleFields.{RuleFields}
use Rattle.asa_nat_rules.specs.Meanings.{Meanings}

-- how many addresses a range has
abbrev pub span_size : AddressSpan → ℕ
span_size s = s.last.0 + 1 - s.first.0

-- how many addresses ranges have, each range counted by itself
abbrev pub size_of : List AddressSpan → ℕ
size_of spans = sum_by span_size spans

-- all addresses
abbrev pub everything : List AddressSpan
everything = all_addresses ∷ []

-- the ranges of a network object or group, in order
abbrev pub named_set : Meanings → List ℕ → List AddressSpan
named_set m name = map member_range (m.members name)

-- the range of an address, where there is one
abbrev pub set_if_any : Option Addr → List AddressSpan
set_if_any None = []
set_if_any (Some a) = only_address a ∷ []

-- the address of the mapped interface, where it has one
abbrev pub interface_set : Meanings → Option ℕ → List AddressSpan
interface_set m None = []
interface_set m (Some ifc) = set_if_any (m.address_of ifc)

-- so many addresses from one on, or those up to 255.255.255.255 where fewer are left
abbrev pub run_from : Addr → ℕ → List AddressSpan
run_from a count = if count == 0 then [] else record { first = a; last = record { 0 = a.0 + (min count (2 ^ 32 - a.0) - 1) } } ∷ []

-- the real addresses of a rule
abbrev pub real_set : Meanings → RealRef → List AddressSpan
real_set m real.Any = everything
real_set m (real.Named name) = named_set m name

-- the mapped addresses of a static rule: a stated address means as many from there on as there are real ones; a pool is
-- no such set
abbrev pub mapped_to : Meanings → Option ℕ → List AddressSpan → MappedRef → List AddressSpan
mapped_to m ifc reals mapped.Any = everything
mapped_to m ifc reals mapped.Interface = interface_set m ifc
mapped_to m ifc reals (mapped.Addr a) = run_from a (size_of reals)
mapped_to m ifc reals (mapped.Named name) = named_set m name
mapped_to m ifc reals (mapped.Pool _ _ _ _ _) = []

abbrev pub mapped_set : Meanings → RuleFields → List AddressSpan
mapped_set m f = mapped_to m f.mapped_ifc (real_set m f.real) f.mapped

-- the mapped and the real addresses of the destination; a rule without one holds all destinations
abbrev pub dest_mapped_set : Meanings → RuleFields → List AddressSpan
dest_mapped_set m f = of_dest f.dest
  where
    of_dest : Option (List ℕ × List ℕ) → List AddressSpan
    of_dest None = everything
    of_dest (Some (to, _)) = named_set m to

abbrev pub dest_real_set : Meanings → RuleFields → List AddressSpan
dest_real_set m f = of_dest f.dest
  where
    of_dest : Option (List ℕ × List ℕ) → List AddressSpan
    of_dest None = everything
    of_dest (Some (_, to)) = named_set m to

-- The parts in which equal rules agree.
use Rattle.std.specs.Prelude.{◌≡◌}
use Rattle.asa_nat_lines.specs.declared.rule.RuleFields.{RuleFields}

-- the section, the object and the interfaces
abbrev pub SamePlaces : RuleFields → RuleFields → Type 0
SamePlaces a b = (a.section ≡ b.section) × (a.owner ≡ b.owner) × (a.real_ifc ≡ b.real_ifc) × (a.mapped_ifc ≡ b.mapped_ifc)

-- the addresses and the ports
abbrev pub SameAddresses : RuleFields → RuleFields → Type 0
SameAddresses a b = (a.real ≡ b.real) × (a.mapped ≡ b.mapped) × (a.dest ≡ b.dest) × (a.service ≡ b.service)

-- static or dynamic, and the options
abbrev pub SameOptions : RuleFields → RuleFields → Type 0
SameOptions a b = (a.is_static ≡ b.is_static) × (a.unidirectional ≡ b.unidirectional) × (a.inactive ≡ b.inactive) × (a.route_lookup ≡ b.route_lookup)

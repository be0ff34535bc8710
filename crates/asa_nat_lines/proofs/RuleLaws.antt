-- Rules that agree in their parts are the same value.
use Rattle.std.proofs.Common.{◌≡◌, ℕ, Bool, List, Option, ap, ◌∙◌}
use Rattle.asa_nat_lines.specs.declared.rule.RealRef.{RealRef}
use Rattle.asa_nat_lines.specs.declared.rule.MappedRef.{MappedRef}
use Rattle.asa_nat_lines.specs.declared.rule.ServicePart.{ServicePart}
use Rattle.asa_nat_lines.specs.declared.rule.RuleFields.{RuleFields}
use Rattle.asa_nat_lines.specs.Rules.{SamePlaces, SameAddresses, SameOptions}

same_places : (a b : RuleFields) → SamePlaces a b
    → a ≡ record a { section = b.section; owner = b.owner; real_ifc = b.real_ifc; mapped_ifc = b.mapped_ifc }
same_places a b s =
    ap (λ (x : ℕ). record a { section = x }) s.0
    ∙ ap (λ (x : Option (List ℕ)). record a { section = b.section; owner = x }) s.1
    ∙ ap (λ (x : Option ℕ). record a { section = b.section; owner = b.owner; real_ifc = x }) s.2
    ∙ ap (λ (x : Option ℕ). record a { section = b.section; owner = b.owner; real_ifc = b.real_ifc; mapped_ifc = x }) s.3

same_addresses : (a b : RuleFields) → SameAddresses a b
    → a ≡ record a { real = b.real; mapped = b.mapped; dest = b.dest; service = b.service }
same_addresses a b s =
    ap (λ (x : RealRef). record a { real = x }) s.0
    ∙ ap (λ (x : MappedRef). record a { real = b.real; mapped = x }) s.1
    ∙ ap (λ (x : Option (List ℕ × List ℕ)). record a { real = b.real; mapped = b.mapped; dest = x }) s.2
    ∙ ap (λ (x : ServicePart). record a { real = b.real; mapped = b.mapped; dest = b.dest; service = x }) s.3

same_options : (a b : RuleFields) → SameOptions a b
    → a ≡ record a { is_static = b.is_static; unidirectional = b.unidirectional; inactive = b.inactive; route_lookup = b.route_lookup }
same_options a b s =
    ap (λ (x : Bool). record a { is_static = x }) s.0
    ∙ ap (λ (x : Bool). record a { is_static = b.is_static; unidirectional = x }) s.1
    ∙ ap (λ (x : Bool). record a { is_static = b.is_static; unidirectional = b.unidirectional; inactive = x }) s.2
    ∙ ap (λ (x : Bool). record a { is_static = b.is_static; unidirectional = b.unidirectional; inactive = b.inactive; route_lookup = x }) s.3

-- rules that agree in all parts are one
pub all_same : (a b : RuleFields) → SamePlaces a b → SameAddresses a b → SameOptions a b → a ≡ b
all_same a b places addresses options =
    let placed : RuleFields = record a { section = b.section; owner = b.owner; real_ifc = b.real_ifc; mapped_ifc = b.mapped_ifc } in
    let told : RuleFields = record placed { real = b.real; mapped = b.mapped; dest = b.dest; service = b.service } in
    same_places a b places ∙ same_addresses placed b addresses ∙ same_options told b options

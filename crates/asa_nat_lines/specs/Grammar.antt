-- Whole `nat` lines: of a network object, and manual ones.
use Rattle.std.specs.Prelude.{ℕ, Bool, true, false, List, codes, Option, Some, None, is_some, Result, Ok, Err, if◌then◌else◌}
use Rattle.asa_text.specs.declared.readers.LineFault.{LineFault}
use Rattle.asa_text.specs.Words.{Left, line_left}
use Rattle.asa_text.specs.Readers.{Read, ◌>>=◌, after_one, next_is, keyword_at, number_at}
use Rattle.asa_base.specs.Kinds.{Known}
use Rattle.asa_nat_lines.specs.declared.rule.RealRef.{RealRef}
use Rattle.asa_nat_lines.specs.declared.rule.RealRef.TheVariants as real
use Rattle.asa_nat_lines.specs.declared.rule.MappedRef.{MappedRef}
use Rattle.asa_nat_lines.specs.declared.rule.ServicePart.{ServicePart}
use Rattle.asa_nat_lines.specs.declared.rule.ServicePart.TheVariants as service
use Rattle.asa_nat_lines.specs.declared.rule.RuleFields.{RuleFields}
use Rattle.asa_nat_lines.specs.declared.grammar.Heading.{Heading}
use Rattle.asa_nat_lines.specs.declared.grammar.NewRule.{NewRule}
use Rattle.asa_nat_lines.specs.declared.grammar.NatLine.{NatLine}
use Rattle.asa_nat_lines.specs.declared.grammar.NatLine.TheVariants as line
use Rattle.asa_nat_lines.specs.Pairs.{interfaces_at}
use Rattle.asa_nat_lines.specs.Mapped.{real_at, manual_mapped_at, own_mapped_at, dest_at}
use Rattle.asa_nat_lines.specs.Pools.{pool_at}
use Rattle.asa_nat_lines.specs.Services.{manual_service_at, own_service_at}
use Rattle.asa_nat_lines.specs.Options.{options_at}

-- `static` (true) or `dynamic`
unfoldable pub manner_at : Left → Read Bool
manner_at left =
    if next_is (codes "static") left then Ok (true, after_one left)
    else (keyword_at (codes "dynamic") left >>= λ (_, rest). Ok (false, rest))

-- manual rules ---------------------------------------------------------------------------------------------------------

-- `[(I,I)] [after-auto]`
unfoldable pub heading_at : Known → Left → Read Heading
heading_at known left = interfaces_at known left >>= λ (ifcs, rest).
    if next_is (codes "after-auto") rest
    then Ok (record { section = 3; real_ifc = ifcs.0; mapped_ifc = ifcs.1 }, after_one rest)
    else Ok (record { section = 1; real_ifc = ifcs.0; mapped_ifc = ifcs.1 }, rest)

-- `[L]`: the place in the section, 1 to 8192
unfoldable pub place_at : Left → Read (Option ℕ)
place_at left =
    if next_is (codes "source") left then Ok (None, left)
    else (number_at 1 8192 left >>= λ (place, rest). Ok (Some place, rest))

-- MAPPED of a static, POOL of a dynamic manual rule
unfoldable pub manual_to_at : Known → Bool → Option ℕ → RealRef → Left → Read MappedRef
manual_to_at known is_static mapped_ifc real left =
    if is_static then manual_mapped_at known mapped_ifc real left else pool_at known true mapped_ifc left

-- `REAL MAPPED|POOL [destination static N N] [service N N] [OPTIONS]`
unfoldable pub manual_fields_at : Known → Heading → Bool → Left → Read RuleFields
manual_fields_at known heading is_static left = do
  (real, left) ← real_at known left
  (mapped, left) ← manual_to_at known is_static heading.mapped_ifc real left
  (dest, left) ← dest_at known left
  (service, left) ← manual_service_at known is_static (is_some dest) left
  (options, left) ← options_at true is_static left
  Ok (
    record {
      section = heading.section;
      owner = None;
      real_ifc = heading.real_ifc;
      mapped_ifc = heading.mapped_ifc;
      is_static = is_static;
      real = real;
      mapped = mapped;
      dest = dest;
      service = service;
      unidirectional = options.unidirectional;
      inactive = options.inactive;
      route_lookup = options.route_lookup;
    },
    left,
  )

-- `source static|dynamic ..`
unfoldable pub source_at : Known → Heading → Left → Read RuleFields
source_at known heading left = do
  (_, left) ← keyword_at (codes "source") left
  (is_static, left) ← manner_at left
  manual_fields_at known heading is_static left

-- a manual rule, after the word `nat`
unfoldable pub manual_rule_at : Known → Left → Read NewRule
manual_rule_at known left = do
  (heading, left) ← heading_at known left
  (place, left) ← place_at left
  (rule, left) ← source_at known heading left
  Ok (record { place = place; rule = rule }, left)

-- a manual rule that is removed, after the words `no nat`: a place is Bad
unfoldable pub removed_rule_at : Known → Left → Read RuleFields
removed_rule_at known left = do
  (heading, left) ← heading_at known left
  source_at known heading left

-- rules of objects -----------------------------------------------------------------------------------------------------

-- MAPPED of a static, POOL of a dynamic rule
unfoldable pub own_to_at : Known → Bool → Option ℕ → Left → Read MappedRef
own_to_at known is_static mapped_ifc left =
    if is_static then own_mapped_at known mapped_ifc left else pool_at known false mapped_ifc left

-- the service of a static rule
unfoldable pub own_ports_part_at : Bool → Left → Read ServicePart
own_ports_part_at is_static left = if is_static then own_service_at left else Ok (service.None, left)

-- `MAPPED [service tcp|udp P P] [OPTIONS]`, or `POOL [OPTIONS]`
unfoldable pub own_fields_at : Known → List ℕ → Option ℕ → Option ℕ → Bool → Left → Read RuleFields
own_fields_at known owner real_ifc mapped_ifc is_static left = do
  (mapped, left) ← own_to_at known is_static mapped_ifc left
  (service, left) ← own_ports_part_at is_static left
  (options, left) ← options_at false is_static left
  Ok (
    record {
      section = 2;
      owner = Some owner;
      real_ifc = real_ifc;
      mapped_ifc = mapped_ifc;
      is_static = is_static;
      real = real.Named owner;
      mapped = mapped;
      dest = None;
      service = service;
      unidirectional = options.unidirectional;
      inactive = options.inactive;
      route_lookup = options.route_lookup;
    },
    left,
  )

-- the rule of an object, after the word `nat`
unfoldable pub own_rule_at : Known → List ℕ → Left → Read RuleFields
own_rule_at known owner left = do
  (ifcs, left) ← interfaces_at known left
  (is_static, left) ← manner_at left
  own_fields_at known owner ifcs.0 ifcs.1 is_static left

-- lines ----------------------------------------------------------------------------------------------------------------

-- a manual line: `nat ..` or `no nat ..`
unfoldable pub manual_line_at : Known → Left → Read NatLine
manual_line_at known left =
    if next_is (codes "no") left
    then (keyword_at (codes "nat") (after_one left) >>= λ (_, l). removed_rule_at known l >>= λ (rule, l2). Ok (line.Remove rule, l2))
    else (keyword_at (codes "nat") left >>= λ (_, l). manual_rule_at known l >>= λ (new, l2). Ok (line.Insert new, l2))

-- a line of an object: `nat ..` or `no nat ..`, whose further words aren't judged
unfoldable pub own_line_at : Known → List ℕ → Left → Read NatLine
own_line_at known owner left =
    if next_is (codes "no") left
    then (keyword_at (codes "nat") (after_one left) >>= λ (_, l). Ok (line.RemoveOwn, l))
    else (keyword_at (codes "nat") left >>= λ (_, l). own_rule_at known owner l >>= λ (rule, l2). Ok (line.Own rule, l2))

-- a line of the object of this name, or a manual one
unfoldable pub nat_line_at : Known → Option (List ℕ) → Left → Read NatLine
nat_line_at known None left = manual_line_at known left
nat_line_at known (Some owner) left = own_line_at known owner left

-- what was read, without what is left
abbrev pub read_value : {X : Type 0} → Read X → Result X LineFault
read_value (Ok read) = Ok read.0
read_value (Err fault) = Err fault

-- what a line with this text says
unfoldable pub nat_line : Known → Option (List ℕ) → List ℕ → Result NatLine LineFault
nat_line known owner text = read_value (nat_line_at known owner (line_left text))

-- The NAT rules of a configuration: the manual rules as they stand, the rules of objects by the name of the object, and the
-- manual rules after these.
use Rattle.std.specs.Prelude.{ℕ, ◌+◌, ◌-◌, Bool, not, ◌&&◌, ◌||◌, ◌==◌, List, [], length, insert, remove, position, min, Option, Some, None, if◌then◌else◌}
use Rattle.std.specs.List.{list_any}
use Rattle.std.specs.Str.{bytes_eq}
use Rattle.std.specs.BTreeMap.{is_at, insert_entry}
use Rattle.std.specs.Ordering.{nat_cmp}
use Rattle.std.specs.Cmp.Lexicographic.{slice_cmp}
use Rattle.std.specs.Map.{lookup, remove_entry}
use Rattle.asa_nat_lines.specs.contracts.rule.RuleFieldsPartialEq.TheImpl as same_fields
use Rattle.asa_nat_lines.specs.declared.rule.RuleFields.{RuleFields}
use Rattle.asa_nat_lines.specs.declared.grammar.NewRule.{NewRule}
use Rattle.asa_nat_rules.specs.Names.{uses}

-- the rules; `own` has each object that has a rule, by rising name, with its rule
pub record NatRules : Type 0 where
  pub first : List RuleFields
  pub own : List (List ℕ × RuleFields)
  pub last : List RuleFields

-- the rules of the three parts
abbrev pub rules_of : List RuleFields → List (List ℕ × RuleFields) → List RuleFields → NatRules
rules_of first own last = record { first = first; own = own; last = last }

-- no rule
abbrev pub no_rules : NatRules
no_rules = record { first = []; own = []; last = [] }

-- how many rules there are, inactive ones too
abbrev pub count_of : NatRules → ℕ
count_of t = length t.first + length t.own + length t.last

-- manual rules ---------------------------------------------------------------------------------------------------------

-- the rule stands after those of objects
abbrev pub is_last : RuleFields → Bool
is_last f = f.section == 3

-- the rules of the section that a manual rule belongs to
abbrev pub section_rules : NatRules → RuleFields → List RuleFields
section_rules t f = if is_last f then t.last else t.first

-- the rules with other ones in that section
abbrev pub with_section : NatRules → RuleFields → List RuleFields → NatRules
with_section t f rules = if is_last f then record t { last = rules } else record t { first = rules }

-- how many of the present rules stand before a new one: those before place L, or all of them where no place is stated or
-- there is no such rule
abbrev pub rules_before : Option ℕ → ℕ → ℕ
rules_before None count = count
rules_before (Some place) count = min (place - 1) count

-- the rules with one more, before the present rule L
abbrev pub placed : List RuleFields → Option ℕ → RuleFields → List RuleFields
placed rules place f = insert rules (rules_before place (length rules)) f

-- the rules with a manual one more
unfoldable pub with_manual : NatRules → NewRule → NatRules
with_manual t new = with_section t new.rule (placed (section_rules t new.rule) new.place new.rule)

-- two rules are equal
abbrev pub same_rule : RuleFields → RuleFields → Bool
same_rule = (same_fields.ghosts).eq

-- how many rules of its section stand before the first that is equal to this one, where there is one
abbrev pub place_of : NatRules → RuleFields → Option ℕ
place_of t f = position (same_rule f) (section_rules t f)

-- the rules without the one at that place of the section
unfoldable pub without_manual : NatRules → RuleFields → ℕ → NatRules
without_manual t f place = with_section t f (remove (section_rules t f) place)

-- rules of objects -----------------------------------------------------------------------------------------------------

-- the rule of an object
abbrev pub own_rule : NatRules → List ℕ → Option RuleFields
own_rule t owner = lookup (is_at (slice_cmp nat_cmp owner)) t.own

-- the rules with this as the object's, in place of an earlier one
abbrev pub with_own : NatRules → List ℕ → RuleFields → NatRules
with_own t owner f = record t { own = insert_entry (slice_cmp nat_cmp) t.own owner f }

-- the rules without the object's
abbrev pub without_own : NatRules → List ℕ → NatRules
without_own t owner = record t { own = remove_entry (is_at (slice_cmp nat_cmp owner)) t.own }

-- uses -----------------------------------------------------------------------------------------------------------------

-- a rule of another object than this uses the name
abbrev pub other_uses : List ℕ → (List ℕ × RuleFields) → Bool
other_uses name e = not (bytes_eq name e.0) && uses name e.1

-- a rule uses the name; an object's own rule is no use of it
abbrev pub is_used : NatRules → List ℕ → Bool
is_used t name = list_any (uses name) t.first || list_any (other_uses name) t.own || list_any (uses name) t.last

-- a rule uses one of the names, an object's own rule too
abbrev pub uses_one : List (List ℕ) → RuleFields → Bool
uses_one names f = list_any (λ name. uses name f) names

abbrev pub uses_any : NatRules → List (List ℕ) → Bool
uses_any t names = list_any (uses_one names) t.first || list_any (λ e. uses_one names e.1) t.own || list_any (uses_one names) t.last

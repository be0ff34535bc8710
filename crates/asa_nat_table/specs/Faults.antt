-- Which rule is at fault: the first in NAT order whose cases can't be made.
use Rattle.std.specs.Prelude.{◌≡◌, ℕ, ◌+◌, Bool, true, false, not, List, [], ◌∷◌, Option, Some, None, if◌then◌else◌, sum_by}
use Rattle.std.specs.Option.{option_map}
use Rattle.std.specs.declared.cmp.Ordering.{Ordering}
use Rattle.std.specs.declared.cmp.Ordering.TheVariants.{Less, Equal, Greater}
use Rattle.asa_text.specs.declared.numbers.Addr.{Addr}
use Rattle.asa_base.specs.Ranges.{AddressSpan}
use Rattle.asa_nat_lines.specs.declared.rule.RuleFields.{RuleFields}
use Rattle.asa_nat_rules.specs.declared.fault.NatFault.{NatFault}
use Rattle.asa_nat_rules.specs.Meanings.{Meanings}
use Rattle.asa_nat_rules.specs.Faults.{fault_of}
use Rattle.asa_nat_rules.specs.Pairs.{rule_pairs}
use Rattle.asa_nat_rules.specs.Sets.{size_of, real_set}
use Rattle.asa_nat_order.specs.declared.keys.NatKey.{NatKey}
use Rattle.asa_nat_order.specs.Ranks.{rank_of, rank_cmp}
use Rattle.asa_nat_table.specs.Rules.{NatRules}
use Rattle.asa_nat_table.specs.declared.fault.RuleFault.{RuleFault}
use Rattle.asa_nat_table.specs.declared.fault.Placed.{Placed}

-- the first address of a set; 0.0.0.0 where it has none
abbrev pub first_address : List AddressSpan → Addr
first_address [] = record { 0 = 0 }
first_address (s ∷ _) = s.first

-- what places the rule of an object in NAT order
unfoldable pub own_key : Meanings → List ℕ → RuleFields → NatKey
own_key m owner f = record {
  section = 2;
  is_static = f.is_static;
  count = size_of (real_set m f.real);
  first = first_address (real_set m f.real);
  name = owner;
}

-- the fault of a rule, with the object whose rule it is
abbrev pub faulty : Meanings → Option (List ℕ) → RuleFields → Option RuleFault
faulty m owner f = option_map (λ why. record { owner = owner; fault = why }) (fault_of m f)

-- the first of two
abbrev pub or_later : Option RuleFault → Option RuleFault → Option RuleFault
or_later None later = later
or_later (Some fault) later = Some fault

-- the first faulty rule of a section of manual rules
abbrev pub manual_fault : Meanings → List RuleFields → Option RuleFault
manual_fault m [] = None
manual_fault m (f ∷ fs) = or_later (faulty m None f) (manual_fault m fs)

abbrev pub is_less : Ordering → Bool
is_less Less = true
is_less Equal = false
is_less Greater = false

-- the key of a first rule comes before that of a second
abbrev pub is_before : NatKey → NatKey → Bool
is_before a b = is_less (rank_cmp (rank_of a) (rank_of b))

-- a faulty rule of an object, with what places it
abbrev pub placed_fault : Meanings → List ℕ → RuleFields → Option Placed
placed_fault m owner f = option_map (λ why. record { key = own_key m owner f; fault = why }) (faulty m (Some owner) f)

-- the one of two that stands first
abbrev pub earlier : Option Placed → Option Placed → Option Placed
earlier None b = b
earlier (Some a) None = Some a
earlier (Some a) (Some b) = if is_before b.key a.key then Some b else Some a

-- the faulty rule of an object that stands first
abbrev pub first_placed : Meanings → List (List ℕ × RuleFields) → Option Placed
first_placed m [] = None
first_placed m (e ∷ es) = earlier (placed_fault m e.0 e.1) (first_placed m es)

abbrev pub own_fault : Meanings → List (List ℕ × RuleFields) → Option RuleFault
own_fault m own = option_map (λ p. p.fault) (first_placed m own)

-- the first faulty rule in NAT order
unfoldable pub table_fault : Meanings → NatRules → Option RuleFault
table_fault m t = or_later (manual_fault m t.first) (or_later (own_fault m t.own) (manual_fault m t.last))

-- the prefix pairs of all rules
unfoldable pub table_pairs : Meanings → NatRules → ℕ
table_pairs m t = sum_by (rule_pairs m) t.first + (sum_by (λ e. rule_pairs m e.1) t.own + sum_by (rule_pairs m) t.last)

-- a rule means the same under both: its names have the same members and services, and interfaces have the same addresses
pub record SameFor (m k : Meanings) (names : List ℕ → Bool) : Type 0 where
  pub members : (n : List ℕ) → names n ≡ true → m.members n ≡ k.members n
  pub services : (n : List ℕ) → names n ≡ true → m.service_range n ≡ k.service_range n
  pub addresses : (ifc : ℕ) → m.address_of ifc ≡ k.address_of ifc

-- What the maps of a case do to single addresses and ports.
use Rattle.std.specs.Prelude.{◌≡◌, ℕ, zero, suc, ◌+◌, ◌-◌, Bool, true, false, not, ◌&&◌, ◌==◌, List, [], ◌∷◌, flat_map, Option, Some, None, if◌then◌else◌}
use Rattle.std.specs.List.{list_any}
use Rattle.asa_base.specs.Ranges.{AddressSpan, PortSpan, port_span_holds}
use Rattle.asa_nat_rules.specs.declared.case.Case.{Case}
use Rattle.asa_nat_rules.specs.declared.case.CaseMap.{CaseMap}
use Rattle.asa_nat_rules.specs.declared.case.CaseMap.TheVariants as map
use Rattle.asa_nat_rules.specs.Ports.{port_size}
use Rattle.asa_nat_rules.specs.Sets.{span_size}

-- so many addresses from one on
unfoldable pub run : ℕ → ℕ → List ℕ
run zero a = []
run (suc n) a = a ∷ run n (a + 1)

-- the addresses of ranges, in order
unfoldable pub addresses_of : List AddressSpan → List ℕ
addresses_of spans = flat_map (λ s. run (span_size s) s.first.0) spans

-- the number stands among these
abbrev pub is_among : ℕ → List ℕ → Bool
is_among a [] = false
is_among a (x ∷ xs) = if x == a then true else is_among a xs

-- no number stands twice
abbrev pub distinct : List ℕ → Bool
distinct [] = true
distinct (x ∷ xs) = not (is_among x xs) && distinct xs

-- the k-th of a first list becomes the k-th of a second; one that stands in several places is taken at its first
unfoldable pub sent : List ℕ → List ℕ → ℕ → Option ℕ
sent [] ys a = None
sent (x ∷ xs) [] a = None
sent (x ∷ xs) (y ∷ ys) a = if x == a then Some y else sent xs ys a

-- a static map: the k-th address becomes the k-th, and one that lies in several places is taken at its first
abbrev pub static_map : List AddressSpan → List AddressSpan → ℕ → Option ℕ
static_map from to a = sent (addresses_of from) (addresses_of to) a

-- the k-th port becomes the k-th
abbrev pub port_sent : PortSpan → PortSpan → ℕ → ℕ
port_sent from to p = to.first + (p - from.first)

-- what a case sends a source to by a static map
abbrev pub sent_by : CaseMap → List AddressSpan → ℕ → Option ℕ
sent_by map.None from a = None
sent_by (map.Static to) from a = static_map from to a
sent_by (map.Dynamic _ _) from a = None

abbrev pub source_sent : Case → ℕ → Option ℕ
source_sent c a = sent_by c.source_map c.source a

-- what a case sends a destination to
abbrev pub sent_if_any : Option (List AddressSpan) → List AddressSpan → ℕ → Option ℕ
sent_if_any None from a = None
sent_if_any (Some to) from a = static_map from to a

abbrev pub dest_sent : Case → ℕ → Option ℕ
dest_sent c a = sent_if_any c.dest_map c.dest a

-- a case and its opposite: where no address stands twice in the set that is sent back, each address comes back to where
-- it came from, and so does each port
pub record Undoes (c o : Case) : Type 0 where
  pub source : (a b : ℕ) → distinct (addresses_of o.dest) ≡ true → source_sent c a ≡ Some b → dest_sent o b ≡ Some a
  pub dest : (a b : ℕ) → distinct (addresses_of o.source) ≡ true → dest_sent c a ≡ Some b → source_sent o b ≡ Some a
  pub sport : (p : ℕ) → port_span_holds c.sport p ≡ true → port_size c.sport ≡ port_size c.sport_to
      → (port_span_holds o.dport (port_sent c.sport c.sport_to p) ≡ true) × (port_sent o.dport o.dport_to (port_sent c.sport c.sport_to p) ≡ p)
  pub dport : (p : ℕ) → port_span_holds c.dport p ≡ true → port_size c.dport ≡ port_size c.dport_to
      → (port_span_holds o.sport (port_sent c.dport c.dport_to p) ≡ true) × (port_sent o.sport o.sport_to (port_sent c.dport c.dport_to p) ≡ p)

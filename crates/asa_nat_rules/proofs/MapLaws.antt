-- A static map and the map back undo each other.
use Rattle.std.proofs.Common.{◌≡◌, ℕ, ◌+◌, ◌-◌, ◌==◌, Bool, true, false, not, ◌&&◌, List, [], ◌∷◌, Option, Some, None, is_some, if◌then◌else◌, refl, sym, ap, ◌∙◌, arith}
use Rattle.std.proofs.lemmas.Bool.{and_parts}
use Rattle.std.proofs.lemmas.Bool.Decides.{Decides-eqb, nat_tests}
use Rattle.std.proofs.lemmas.Grind.{common_steps}
use Rattle.asa_base.specs.Ranges.{AddressSpan, PortSpan, port_span_holds}
use Rattle.asa_nat_lines.specs.declared.rule.RuleFields.{RuleFields}
use Rattle.asa_pool_values.specs.declared.pool.PatSpan.{PatSpan}
use Rattle.asa_nat_rules.specs.declared.case.CaseMap.TheVariants as map
use Rattle.asa_nat_rules.specs.Cases.{dest_map, dest_map_back, forward_case, opposite_case}
use Rattle.asa_nat_rules.specs.Maps.{is_among, distinct, sent, addresses_of, static_map, port_sent, sent_by, sent_if_any, Undoes}
use Rattle.asa_nat_rules.specs.Pools.{nat_ranges, pat_spans}
use Rattle.asa_nat_rules.specs.Sets.{real_set, mapped_set, dest_real_set, dest_mapped_set}
use Rattle.asa_nat_rules.specs.Ports.{ports_of}
use Rattle.asa_nat_rules.specs.Meanings.{Meanings}
use Rattle.asa_nat_rules.specs.Ports.{port_size}

-- what an address is sent to stands in the second list
sent_among : (xs ys : List ℕ) (a b : ℕ) → sent xs ys a ≡ Some b → is_among b ys ≡ true
unfolding sent
sent_among [] ys a b e = absurd (cc)
sent_among (x ∷ xs) [] a b e = absurd (cc)
sent_among (x ∷ xs) (y ∷ ys) a b e = grind (arith, common_steps, sent_among xs ys a b)

-- each address comes back, where none stands twice in the second list
sent_back : (xs ys : List ℕ) (a b : ℕ) → distinct ys ≡ true → sent xs ys a ≡ Some b → sent ys xs b ≡ Some a
unfolding sent
sent_back [] ys a b apart e = absurd (cc)
sent_back (x ∷ xs) [] a b apart e = absurd (cc)
sent_back (x ∷ xs) (y ∷ ys) a b apart e =
    let parts = and_parts (not (is_among y ys)) (distinct ys) apart in
    grind (arith, common_steps, sent_back xs ys a b parts.1, sent_among xs ys a b)

source_back : (static : Bool) (nat : List AddressSpan) (pat : List PatSpan) (from to : List AddressSpan) (a b : ℕ)
    → distinct (addresses_of to) ≡ true → sent_by (if static then map.Static to else map.Dynamic nat pat) from a ≡ Some b
    → static_map to from b ≡ Some a
source_back true nat pat from to a b apart e = sent_back (addresses_of from) (addresses_of to) a b apart e
source_back false nat pat from to a b apart e = absurd (cc)

dest_back : (dest : Option (List ℕ × List ℕ)) (from to : List AddressSpan) (a b : ℕ)
    → distinct (addresses_of to) ≡ true → sent_if_any (dest_map dest to) from a ≡ Some b
    → sent_by (dest_map_back dest from) to b ≡ Some a
dest_back None from to a b apart e = absurd (cc)
dest_back (Some _) from to a b apart e = sent_back (addresses_of from) (addresses_of to) a b apart e

port_back : (from to : PortSpan) (p : ℕ) → port_span_holds from p ≡ true → port_size from ≡ port_size to
    → (port_span_holds to (port_sent from to p) ≡ true) × (port_sent to from (port_sent from to p) ≡ p)
port_back from to p holds same = (grind (arith, nat_tests, holds, same), grind (arith, nat_tests, holds, same))

-- the opposite case of a rule undoes its forward case
pub undone : (m : Meanings) (f : RuleFields) → Undoes (forward_case m f) (opposite_case m f)
unfolding forward_case opposite_case
undone m f = record {
  source = source_back f.is_static (nat_ranges m f.mapped) (pat_spans m f.mapped_ifc f.mapped) (real_set m f.real) (mapped_set m f);
  dest = dest_back f.dest (dest_mapped_set m f) (dest_real_set m f);
  sport = port_back (ports_of m f.service).real (ports_of m f.service).mapped;
  dport = port_back (ports_of m f.service).dest_mapped (ports_of m f.service).dest_real;
}

-- Where the names that rules use stand for the same, so do the rules: their faults, their places and their prefix pairs.
use Rattle.std.proofs.Common.{◌≡◌, ℕ, ◌+◌, ◌*◌, Bool, true, false, ◌||◌, if◌then◌else◌, List, [], ◌∷◌, map, Option, Some, None, Decides, refl, sym, ap, ◌∙◌}
use Rattle.std.specs.List.{list_any, sum_by}
use Rattle.std.specs.Option.{option_map}
use Rattle.std.specs.Str.{bytes_eq}
use Rattle.std.proofs.lemmas.List.Sums.{sum_by-cons}
use Rattle.std.proofs.lemmas.Slice.Eq.{bytes_eq-Decides}
use Rattle.asa_base.specs.Members.{member_range}
use Rattle.asa_base.specs.Ranges.{AddressSpan}
use Rattle.asa_base.specs.declared.range.Member.{Member}
use Rattle.asa_nat_lines.specs.declared.rule.RealRef.{RealRef}
use Rattle.asa_nat_lines.specs.declared.rule.RealRef.TheVariants as real
use Rattle.asa_nat_lines.specs.declared.rule.PoolRef.{PoolRef}
use Rattle.asa_nat_lines.specs.declared.rule.PoolRef.TheVariants as pool
use Rattle.asa_nat_lines.specs.declared.rule.MappedRef.{MappedRef}
use Rattle.asa_nat_lines.specs.declared.rule.MappedRef.TheVariants as mapped
use Rattle.asa_nat_lines.specs.declared.rule.ServicePart.{ServicePart}
use Rattle.asa_nat_lines.specs.declared.rule.ServicePart.TheVariants as service
use Rattle.asa_nat_lines.specs.declared.rule.RuleFields.{RuleFields}
use Rattle.asa_nat_rules.specs.Cases.{forward_case, opposite_case, opposite_if_any, has_opposite}
use Rattle.asa_nat_rules.specs.Faults.{or_later as later_of, sizes_fault, source_fault, dest_fault, ports_fault, has_subnet, first_has_subnet, pat_has_subnet, pool_fault, fault_of}
use Rattle.asa_nat_rules.specs.Meanings.{Meanings, is_subnet}
use Rattle.asa_nat_rules.specs.Names.{real_name, first_name, mapped_name, pat_name, dest_names, service_names, is_named, uses}
use Rattle.asa_nat_rules.specs.Pairs.{prefix_count, case_pairs, pairs_if_any, rule_pairs}
use Rattle.asa_nat_rules.specs.Ports.{ports_of, named_ports, service_or_any}
use Rattle.asa_nat_rules.specs.Sets.{size_of, set_if_any, interface_set, named_set, real_set, mapped_to, mapped_set, dest_mapped_set, dest_real_set}
use Rattle.asa_nat_table.specs.declared.fault.Placed.{Placed}
use Rattle.asa_nat_table.specs.declared.fault.RuleFault.{RuleFault}
use Rattle.asa_nat_table.specs.Rules.{NatRules, uses_one, uses_any}
use Rattle.asa_nat_table.specs.Faults.{SameFor, first_address, own_key, faulty, or_later, manual_fault, placed_fault, earlier, first_placed, own_fault, table_fault, table_pairs}

-- of a test that holds -------------------------------------------------------------------------------------------------

left : (a b : Bool) → a ≡ true → (a || b) ≡ true
left a b e = ap (λ x. x || b) e

right : (a b : Bool) → b ≡ true → (a || b) ≡ true
right true b e = refl
right false b e = e

itself : (n : List ℕ) → bytes_eq n n ≡ true
itself n = (bytes_eq-Decides n n).1 refl

-- the same for more names is the same for fewer
narrow : (m k : Meanings) (p q : List ℕ → Bool) → SameFor m k p → ((n : List ℕ) → q n ≡ true → p n ≡ true) → SameFor m k q
narrow m k p q same more =
    record { members = λ n e. same.members n (more n e); services = λ n e. same.services n (more n e); addresses = same.addresses }

-- one rule -------------------------------------------------------------------------------------------------------------

-- the parts of a rule by which it is judged, placed and counted
record Alike (m k : Meanings) (f : RuleFields) : Type 0 where
  reals : real_set k f.real ≡ real_set m f.real
  mappeds : mapped_set k f ≡ mapped_set m f
  dests : dest_fault k f.dest ≡ dest_fault m f.dest
  dest_mappeds : dest_mapped_set k f ≡ dest_mapped_set m f
  dest_reals : dest_real_set k f ≡ dest_real_set m f
  ports : ports_of k f.service ≡ ports_of m f.service
  pools : pool_fault k f.mapped ≡ pool_fault m f.mapped

abbrev Members : Meanings → Meanings → (List ℕ → Bool) → Type 0
Members m k names = (n : List ℕ) → names n ≡ true → m.members n ≡ k.members n

set_same : (m k : Meanings) (n : List ℕ) → m.members n ≡ k.members n → named_set k n ≡ named_set m n
set_same m k n e = sym (ap (map member_range) e)

real_same : (m k : Meanings) (r : RealRef) → Members m k (λ n. is_named n (real_name r)) → real_set k r ≡ real_set m r
real_same m k real.Any same = refl
real_same m k (real.Named q) same = set_same m k q (same q (itself q))

interface_same : (m k : Meanings) (ifc : Option ℕ) → ((i : ℕ) → m.address_of i ≡ k.address_of i) → interface_set k ifc ≡ interface_set m ifc
interface_same m k None same = refl
interface_same m k (Some i) same = sym (ap set_if_any (same i))

mapped_same : (m k : Meanings) (ifc : Option ℕ) (reals : List AddressSpan) (r : MappedRef) → Members m k (λ n. is_named n (mapped_name r))
    → ((i : ℕ) → m.address_of i ≡ k.address_of i) → mapped_to k ifc reals r ≡ mapped_to m ifc reals r
mapped_same m k ifc reals mapped.Any same addresses = refl
mapped_same m k ifc reals mapped.Interface same addresses = interface_same m k ifc addresses
mapped_same m k ifc reals (mapped.Addr a) same addresses = refl
mapped_same m k ifc reals (mapped.Named q) same addresses = set_same m k q (same q (itself q))
mapped_same m k ifc reals (mapped.Pool first pat_pool interface rule extended) same addresses = refl

-- a destination's names
to_same : (m k : Meanings) (to from : List ℕ) → Members m k (λ n. list_any (bytes_eq n) (to ∷ from ∷ [])) → named_set k to ≡ named_set m to
to_same m k to from same = set_same m k to (same to (left (bytes_eq to to) (list_any (bytes_eq to) (from ∷ [])) (itself to)))

from_same : (m k : Meanings) (to from : List ℕ) → Members m k (λ n. list_any (bytes_eq n) (to ∷ from ∷ [])) → named_set k from ≡ named_set m from
from_same m k to from same =
    set_same m k from (same from (right (bytes_eq from to) (list_any (bytes_eq from) (from ∷ [])) (left (bytes_eq from from) (list_any (bytes_eq from) []) (itself from))))

dest_same : (m k : Meanings) (d : Option (List ℕ × List ℕ)) → Members m k (λ n. list_any (bytes_eq n) (dest_names d)) → dest_fault k d ≡ dest_fault m d
dest_same m k None same = refl
dest_same m k (Some (to, from)) same =
    ap (λ s. sizes_fault (size_of s) (size_of (named_set k to))) (from_same m k to from same)
    ∙ ap (λ s. sizes_fault (size_of (named_set m from)) (size_of s)) (to_same m k to from same)

dest_mapped_same : (m k : Meanings) (f : RuleFields) → Members m k (λ n. list_any (bytes_eq n) (dest_names f.dest)) → dest_mapped_set k f ≡ dest_mapped_set m f
dest_mapped_same m k f same = by f.dest same
  where
    by : (d : Option (List ℕ × List ℕ)) → Members m k (λ n. list_any (bytes_eq n) (dest_names d))
        → dest_mapped_set k (record f { dest = d }) ≡ dest_mapped_set m (record f { dest = d })
    by None here = refl
    by (Some (to, from)) here = to_same m k to from here

dest_real_same : (m k : Meanings) (f : RuleFields) → Members m k (λ n. list_any (bytes_eq n) (dest_names f.dest)) → dest_real_set k f ≡ dest_real_set m f
dest_real_same m k f same = by f.dest same
  where
    by : (d : Option (List ℕ × List ℕ)) → Members m k (λ n. list_any (bytes_eq n) (dest_names d))
        → dest_real_set k (record f { dest = d }) ≡ dest_real_set m (record f { dest = d })
    by None here = refl
    by (Some (to, from)) here = from_same m k to from here

ports_same : (m k : Meanings) (s : ServicePart) → ((n : List ℕ) → list_any (bytes_eq n) (service_names s) ≡ true → m.service_range n ≡ k.service_range n)
    → ports_of k s ≡ ports_of m s
ports_same m k service.None same = refl
ports_same m k (service.Ports proto from to) same = refl
ports_same m k (service.Named a b) same =
    let first = sym (same a (left (bytes_eq a a) (list_any (bytes_eq a) (b ∷ [])) (itself a))) in
    let second = sym (same b (right (bytes_eq b a) (list_any (bytes_eq b) (b ∷ [])) (left (bytes_eq b b) (list_any (bytes_eq b) []) (itself b)))) in
    ap (λ x. named_ports (service_or_any x) (service_or_any (k.service_range b))) first
    ∙ ap (λ x. named_ports (service_or_any (m.service_range a)) (service_or_any x)) second

subnet_same : (m k : Meanings) (n : List ℕ) → m.members n ≡ k.members n → has_subnet k n ≡ has_subnet m n
subnet_same m k n e = sym (ap (list_any is_subnet) e)

first_same : (m k : Meanings) (o : Option PoolRef) → Members m k (λ n. is_named n (first_name o)) → first_has_subnet k o ≡ first_has_subnet m o
first_same m k None same = refl
first_same m k (Some (pool.Addr a)) same = refl
first_same m k (Some (pool.Named q)) same = subnet_same m k q (same q (itself q))

pat_same : (m k : Meanings) (o : Option (List ℕ)) → Members m k (λ n. is_named n o) → pat_has_subnet k o ≡ pat_has_subnet m o
pat_same m k None same = refl
pat_same m k (Some q) same = subnet_same m k q (same q (itself q))

pool_same : (m k : Meanings) (r : MappedRef) → Members m k (λ n. is_named n (mapped_name r)) → Members m k (λ n. is_named n (pat_name r)) → pool_fault k r ≡ pool_fault m r
pool_same m k mapped.Any same pat = refl
pool_same m k mapped.Interface same pat = refl
pool_same m k (mapped.Addr a) same pat = refl
pool_same m k (mapped.Named q) same pat = refl
pool_same m k (mapped.Pool first pat_pool interface rule extended) same pat =
    rw (first_same m k first same, pat_same m k pat_pool pat)

-- where a name stands, the rule uses it
abbrev at_real : List ℕ → RuleFields → Bool
at_real n f = is_named n (real_name f.real)

abbrev at_mapped : List ℕ → RuleFields → Bool
at_mapped n f = is_named n (mapped_name f.mapped)

abbrev at_pat : List ℕ → RuleFields → Bool
at_pat n f = is_named n (pat_name f.mapped)

abbrev at_dest : List ℕ → RuleFields → Bool
at_dest n f = list_any (bytes_eq n) (dest_names f.dest)

abbrev at_service : List ℕ → RuleFields → Bool
at_service n f = list_any (bytes_eq n) (service_names f.service)

in_real : (n : List ℕ) (f : RuleFields) → at_real n f ≡ true → uses n f ≡ true
unfolding uses
in_real n f e = left (((at_real n f || at_mapped n f) || at_pat n f) || at_dest n f) (at_service n f) (left ((at_real n f || at_mapped n f) || at_pat n f) (at_dest n f) (left (at_real n f || at_mapped n f) (at_pat n f) (left (at_real n f) (at_mapped n f) e)))

in_mapped : (n : List ℕ) (f : RuleFields) → at_mapped n f ≡ true → uses n f ≡ true
unfolding uses
in_mapped n f e = left (((at_real n f || at_mapped n f) || at_pat n f) || at_dest n f) (at_service n f) (left ((at_real n f || at_mapped n f) || at_pat n f) (at_dest n f) (left (at_real n f || at_mapped n f) (at_pat n f) (right (at_real n f) (at_mapped n f) e)))

in_pat : (n : List ℕ) (f : RuleFields) → at_pat n f ≡ true → uses n f ≡ true
unfolding uses
in_pat n f e = left (((at_real n f || at_mapped n f) || at_pat n f) || at_dest n f) (at_service n f) (left ((at_real n f || at_mapped n f) || at_pat n f) (at_dest n f) (right (at_real n f || at_mapped n f) (at_pat n f) e))

in_dest : (n : List ℕ) (f : RuleFields) → at_dest n f ≡ true → uses n f ≡ true
unfolding uses
in_dest n f e = left (((at_real n f || at_mapped n f) || at_pat n f) || at_dest n f) (at_service n f) (right ((at_real n f || at_mapped n f) || at_pat n f) (at_dest n f) e)

in_service : (n : List ℕ) (f : RuleFields) → at_service n f ≡ true → uses n f ≡ true
unfolding uses
in_service n f e = right (((at_real n f || at_mapped n f) || at_pat n f) || at_dest n f) (at_service n f) e

alike : (m k : Meanings) (f : RuleFields) → SameFor m k (λ n. uses n f) → Alike m k f
alike m k f same =
    let reals : Members m k (λ n. is_named n (real_name f.real)) = λ n e. same.members n (in_real n f e) in
    let mappeds : Members m k (λ n. is_named n (mapped_name f.mapped)) = λ n e. same.members n (in_mapped n f e) in
    let pats : Members m k (λ n. is_named n (pat_name f.mapped)) = λ n e. same.members n (in_pat n f e) in
    let dests : Members m k (λ n. list_any (bytes_eq n) (dest_names f.dest)) = λ n e. same.members n (in_dest n f e) in
    record {
      reals = real_same m k f.real reals;
      mappeds = ap (λ s. mapped_to k f.mapped_ifc s f.mapped) (real_same m k f.real reals) ∙ mapped_same m k f.mapped_ifc (real_set m f.real) f.mapped mappeds same.addresses;
      dests = dest_same m k f.dest dests;
      dest_mappeds = dest_mapped_same m k f dests;
      dest_reals = dest_real_same m k f dests;
      ports = ports_same m k f.service (λ n e. same.services n (in_service n f e));
      pools = pool_same m k f.mapped mappeds pats;
    }

source_same : (m k : Meanings) (f : RuleFields) → Alike m k f → source_fault k f ≡ source_fault m f
source_same m k f a =
    ap (λ s. if f.is_static then sizes_fault (size_of s) (size_of (mapped_set k f)) else None) a.reals
    ∙ ap (λ s. if f.is_static then sizes_fault (size_of (real_set m f.real)) (size_of s) else None) a.mappeds

-- the rule is judged the same
pub same_rule_fault : (m k : Meanings) (f : RuleFields) → SameFor m k (λ n. uses n f) → fault_of k f ≡ fault_of m f
unfolding fault_of
same_rule_fault m k f same =
    let a = alike m k f same in
    ap (λ x. later_of x (later_of (dest_fault k f.dest) (later_of (ports_fault (ports_of k f.service)) (pool_fault k f.mapped)))) (source_same m k f a)
    ∙ ap (λ x. later_of (source_fault m f) (later_of x (later_of (ports_fault (ports_of k f.service)) (pool_fault k f.mapped)))) a.dests
    ∙ ap (λ x. later_of (source_fault m f) (later_of (dest_fault m f.dest) (later_of (ports_fault x) (pool_fault k f.mapped)))) a.ports
    ∙ ap (λ x. later_of (source_fault m f) (later_of (dest_fault m f.dest) (later_of (ports_fault (ports_of m f.service)) x))) a.pools

forward_same : (m k : Meanings) (f : RuleFields) → Alike m k f → case_pairs (forward_case k f) ≡ case_pairs (forward_case m f)
unfolding forward_case
forward_same m k f a =
    ap (λ s. prefix_count s * prefix_count (dest_mapped_set k f)) a.reals ∙ ap (λ s. prefix_count (real_set m f.real) * prefix_count s) a.dest_mappeds

backward_same : (m k : Meanings) (f : RuleFields) → Alike m k f → case_pairs (opposite_case k f) ≡ case_pairs (opposite_case m f)
unfolding opposite_case
backward_same m k f a =
    ap (λ s. prefix_count s * prefix_count (mapped_set k f)) a.dest_reals ∙ ap (λ s. prefix_count (dest_real_set m f) * prefix_count s) a.mappeds

opposite_same : (m k : Meanings) (f : RuleFields) → Alike m k f → pairs_if_any (opposite_if_any k f) ≡ pairs_if_any (opposite_if_any m f)
opposite_same m k f a = by (has_opposite f) (backward_same m k f a)
  where
    by : (b : Bool) → case_pairs (opposite_case k f) ≡ case_pairs (opposite_case m f)
        → pairs_if_any (if b then Some (opposite_case k f) else None) ≡ pairs_if_any (if b then Some (opposite_case m f) else None)
    by true e = e
    by false e = refl

-- the rule has the same pairs
pub same_rule_pairs : (m k : Meanings) (f : RuleFields) → SameFor m k (λ n. uses n f) → rule_pairs k f ≡ rule_pairs m f
unfolding rule_pairs
same_rule_pairs m k f same =
    let a = alike m k f same in
    ap (λ n. if f.inactive then 0 else n + pairs_if_any (opposite_if_any k f)) (forward_same m k f a)
    ∙ ap (λ n. if f.inactive then 0 else case_pairs (forward_case m f) + n) (opposite_same m k f a)

-- and stands at the same place
same_key : (m k : Meanings) (owner : List ℕ) (f : RuleFields) → SameFor m k (λ n. uses n f) → own_key k owner f ≡ own_key m owner f
unfolding own_key
same_key m k owner f same =
    ap (λ s. record { section = 2; is_static = f.is_static; count = size_of s; first = first_address s; name = owner }) (alike m k f same).reals

-- all rules ------------------------------------------------------------------------------------------------------------

abbrev among : List ℕ → List RuleFields → Bool
among n fs = list_any (uses_one (n ∷ [])) fs

abbrev among_own : List ℕ → List (List ℕ × RuleFields) → Bool
among_own n own = list_any (λ e. uses_one (n ∷ []) e.1) own

faulty_same : (m k : Meanings) (owner : Option (List ℕ)) (f : RuleFields) → SameFor m k (λ n. uses n f) → faulty k owner f ≡ faulty m owner f
faulty_same m k owner f same = ap (option_map (λ why. record { owner = owner; fault = why })) (same_rule_fault m k f same)

of_head : (m k : Meanings) (f : RuleFields) (fs : List RuleFields) → SameFor m k (λ n. among n (f ∷ fs)) → SameFor m k (λ n. uses n f)
of_head m k f fs same = narrow m k _ _ same (λ n e. left (uses_one (n ∷ []) f) (among n fs) (left (uses n f) false e))

of_tail : (m k : Meanings) (f : RuleFields) (fs : List RuleFields) → SameFor m k (λ n. among n (f ∷ fs)) → SameFor m k (λ n. among n fs)
of_tail m k f fs same = narrow m k _ _ same (λ n e. right (uses_one (n ∷ []) f) (among n fs) e)

manual_same : (m k : Meanings) (fs : List RuleFields) → SameFor m k (λ n. among n fs) → manual_fault k fs ≡ manual_fault m fs
manual_same m k [] same = refl
manual_same m k (f ∷ fs) same =
    ap (λ x. or_later x (manual_fault k fs)) (faulty_same m k None f (of_head m k f fs same))
    ∙ ap (or_later (faulty m None f)) (manual_same m k fs (of_tail m k f fs same))

manual_pairs_same : (m k : Meanings) (fs : List RuleFields) → SameFor m k (λ n. among n fs) → sum_by (rule_pairs k) fs ≡ sum_by (rule_pairs m) fs
manual_pairs_same m k [] same = refl
manual_pairs_same m k (f ∷ fs) same =
    sum_by-cons (rule_pairs k) f fs ∙ ap (λ n. n + sum_by (rule_pairs k) fs) (same_rule_pairs m k f (of_head m k f fs same))
    ∙ ap (λ n. rule_pairs m f + n) (manual_pairs_same m k fs (of_tail m k f fs same)) ∙ sym (sum_by-cons (rule_pairs m) f fs)

own_head : (m k : Meanings) (e : List ℕ × RuleFields) (es : List (List ℕ × RuleFields)) → SameFor m k (λ n. among_own n (e ∷ es)) → SameFor m k (λ n. uses n e.1)
own_head m k e es same = narrow m k _ _ same (λ n u. left (uses_one (n ∷ []) e.1) (among_own n es) (left (uses n e.1) false u))

own_tail : (m k : Meanings) (e : List ℕ × RuleFields) (es : List (List ℕ × RuleFields)) → SameFor m k (λ n. among_own n (e ∷ es)) → SameFor m k (λ n. among_own n es)
own_tail m k e es same = narrow m k _ _ same (λ n u. right (uses_one (n ∷ []) e.1) (among_own n es) u)

placed_same : (m k : Meanings) (owner : List ℕ) (f : RuleFields) → SameFor m k (λ n. uses n f) → placed_fault k owner f ≡ placed_fault m owner f
placed_same m k owner f same =
    ap (λ key. option_map (λ why. record { key = key; fault = why }) (faulty k (Some owner) f)) (same_key m k owner f same)
    ∙ ap (option_map (λ why. record { key = own_key m owner f; fault = why })) (faulty_same m k (Some owner) f same)

first_placed_same : (m k : Meanings) (es : List (List ℕ × RuleFields)) → SameFor m k (λ n. among_own n es) → first_placed k es ≡ first_placed m es
first_placed_same m k [] same = refl
first_placed_same m k (e ∷ es) same =
    ap (λ x. earlier x (first_placed k es)) (placed_same m k e.0 e.1 (own_head m k e es same))
    ∙ ap (earlier (placed_fault m e.0 e.1)) (first_placed_same m k es (own_tail m k e es same))

own_pairs_same : (m k : Meanings) (es : List (List ℕ × RuleFields)) → SameFor m k (λ n. among_own n es) → sum_by (λ e. rule_pairs k e.1) es ≡ sum_by (λ e. rule_pairs m e.1) es
own_pairs_same m k [] same = refl
own_pairs_same m k (e ∷ es) same =
    sum_by-cons (λ (x : List ℕ × RuleFields). rule_pairs k x.1) e es ∙ ap (λ n. n + sum_by (λ x. rule_pairs k x.1) es) (same_rule_pairs m k e.1 (own_head m k e es same))
    ∙ ap (λ n. rule_pairs m e.1 + n) (own_pairs_same m k es (own_tail m k e es same)) ∙ sym (sum_by-cons (λ (x : List ℕ × RuleFields). rule_pairs m x.1) e es)

-- the three parts of a table
record Parts (m k : Meanings) (t : NatRules) : Type 0 where
  first : SameFor m k (λ n. among n t.first)
  own : SameFor m k (λ n. among_own n t.own)
  last : SameFor m k (λ n. among n t.last)

parts : (m k : Meanings) (t : NatRules) → SameFor m k (λ n. uses_any t (n ∷ [])) → Parts m k t
parts m k t same = record {
  first = narrow m k _ _ same (λ n e. left (among n t.first || among_own n t.own) (among n t.last) (left (among n t.first) (among_own n t.own) e));
  own = narrow m k _ _ same (λ n e. left (among n t.first || among_own n t.own) (among n t.last) (right (among n t.first) (among_own n t.own) e));
  last = narrow m k _ _ same (λ n e. right (among n t.first || among_own n t.own) (among n t.last) e);
}

-- the table is judged the same
pub same_fault : (m k : Meanings) (t : NatRules) → SameFor m k (λ n. uses_any t (n ∷ [])) → table_fault k t ≡ table_fault m t
unfolding table_fault
same_fault m k t same =
    let p = parts m k t same in
    ap (λ x. or_later x (or_later (own_fault k t.own) (manual_fault k t.last))) (manual_same m k t.first p.first)
    ∙ ap (λ x. or_later (manual_fault m t.first) (or_later (option_map (λ (y : Placed). y.fault) x) (manual_fault k t.last))) (first_placed_same m k t.own p.own)
    ∙ ap (λ x. or_later (manual_fault m t.first) (or_later (own_fault m t.own) x)) (manual_same m k t.last p.last)

-- the table has the same pairs
pub same_pairs : (m k : Meanings) (t : NatRules) → SameFor m k (λ n. uses_any t (n ∷ [])) → table_pairs k t ≡ table_pairs m t
unfolding table_pairs
same_pairs m k t same =
    let p = parts m k t same in
    ap (λ n. n + (sum_by (λ e. rule_pairs k e.1) t.own + sum_by (rule_pairs k) t.last)) (manual_pairs_same m k t.first p.first)
    ∙ ap (λ n. sum_by (rule_pairs m) t.first + (n + sum_by (rule_pairs k) t.last)) (own_pairs_same m k t.own p.own)
    ∙ ap (λ n. sum_by (rule_pairs m) t.first + (sum_by (λ e. rule_pairs m e.1) t.own + n)) (manual_pairs_same m k t.last p.last)

-- names of which no rule uses any -----------------------------------------------------------------------------------------

not_left : (a b : Bool) → (a || b) ≡ false → a ≡ false
not_left true b e = absurd (cc)
not_left false b e = refl

not_right : (a b : Bool) → (a || b) ≡ false → b ≡ false
not_right true b e = absurd (cc)
not_right false b e = e

neither : (a b : Bool) → a ≡ false → b ≡ false → (a || b) ≡ false
neither a b ea eb = ap (λ x. x || b) ea ∙ eb

-- of names that a test refuses, each is refused
refused : (p : List ℕ → Bool) (names : List (List ℕ)) (n : List ℕ) → list_any p names ≡ false → list_any (bytes_eq n) names ≡ true → p n ≡ false
refused p [] n none there = absurd (cc)
refused p (x ∷ xs) n none there = by (bytes_eq n x) (bytes_eq-Decides n x) there (refused p xs n (not_right (p x) (list_any p xs) none))
  where
    by : (b : Bool) → Decides b (n ≡ x) → (b || list_any (bytes_eq n) xs) ≡ true → (list_any (bytes_eq n) xs ≡ true → p n ≡ false) → p n ≡ false
    by true same here more = ap p (same.0 refl) ∙ not_left (p x) (list_any p xs) none
    by false same here more = more here

one_refused : (names : List (List ℕ)) (n : List ℕ) (f : RuleFields) → uses_one names f ≡ false → list_any (bytes_eq n) names ≡ true → uses_one (n ∷ []) f ≡ false
one_refused names n f none there = neither (uses n f) false (refused (λ name. uses name f) names n none there) refl

manual_refused : (names : List (List ℕ)) (n : List ℕ) (fs : List RuleFields) → list_any (uses_one names) fs ≡ false → list_any (bytes_eq n) names ≡ true → among n fs ≡ false
manual_refused names n [] none there = refl
manual_refused names n (f ∷ fs) none there =
    neither (uses_one (n ∷ []) f) (among n fs) (one_refused names n f (not_left (uses_one names f) (list_any (uses_one names) fs) none) there)
    (manual_refused names n fs (not_right (uses_one names f) (list_any (uses_one names) fs) none) there)

own_refused : (names : List (List ℕ)) (n : List ℕ) (es : List (List ℕ × RuleFields)) → list_any (λ e. uses_one names e.1) es ≡ false → list_any (bytes_eq n) names ≡ true → among_own n es ≡ false
own_refused names n [] none there = refl
own_refused names n (e ∷ es) none there =
    neither (uses_one (n ∷ []) e.1) (among_own n es) (one_refused names n e.1 (not_left (uses_one names e.1) (list_any (λ x. uses_one names x.1) es) none) there)
    (own_refused names n es (not_right (uses_one names e.1) (list_any (λ x. uses_one names x.1) es) none) there)

-- no rule uses one of the names, so none uses a name among them
pub unused_among : (t : NatRules) (names : List (List ℕ)) (n : List ℕ) → uses_any t names ≡ false → list_any (bytes_eq n) names ≡ true → uses_any t (n ∷ []) ≡ false
unused_among t names n none there =
    let first = list_any (uses_one names) t.first in
    let own = list_any (λ e. uses_one names e.1) t.own in
    let last = list_any (uses_one names) t.last in
    let earlier_none : (first || own) ≡ false = not_left (first || own) last none in
    neither (among n t.first || among_own n t.own) (among n t.last)
    (neither (among n t.first) (among_own n t.own) (manual_refused names n t.first (not_left first own earlier_none) there) (own_refused names n t.own (not_right first own earlier_none) there))
    (manual_refused names n t.last (not_right (first || own) last none) there)

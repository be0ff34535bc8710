-- Lists keep their pairs where the names in their lines stand for the same.
use Rattle.std.proofs.Common.{◌≡◌, ℕ, ◌+◌, ◌*◌, true, if◌then◌else◌, List, [], ◌∷◌, length, map, Option, Some, None, refl, sym, ap, ◌∙◌}
use Rattle.std.specs.List.{list_any}
use Rattle.std.proofs.lemmas.Slice.Eq.{bytes_eq-Decides}
use Rattle.std.proofs.lemmas.Bool.{or_left, or_right}
use Rattle.std.proofs.lemmas.List.Sums.{sum_by-cons}
use Rattle.asa_base.specs.Members.{member_range}
use Rattle.asa_ifaces.specs.declared.iface.Iface.{Iface}
use Rattle.asa_acl_line.specs.declared.ace.AddrRef.{AddrRef}
use Rattle.asa_acl_line.specs.declared.ace.AddrRef.TheVariants as addr
use Rattle.asa_acl_line.specs.declared.ace.PortRef.{PortRef}
use Rattle.asa_acl_line.specs.declared.ace.PortRef.TheVariants as ports
use Rattle.asa_acl_line.specs.declared.ace.ServiceRef.{ServiceRef}
use Rattle.asa_acl_line.specs.declared.ace.ServiceRef.TheVariants as service
use Rattle.asa_acl_line.specs.declared.ace.Ace.{Ace}
use Rattle.asa_acl_line.specs.declared.ace.AclLine.{AclLine}
use Rattle.asa_acl_line.specs.declared.ace.AclLine.TheVariants as line
use Rattle.asa_acl_line.specs.Lines.{address_name, ports_name, service_name, source_ports_name, dest_ports_name, is_named, ace_uses, line_uses}
use Rattle.asa_acl.specs.Acls.{AccessLines, list_uses}
use Rattle.asa_acl_boxes.specs.Boxes.{ranges_of, port_ranges_of, protocols_of, ported_protocols, those_with_ports, states_any_ports, all_with_ports, services_of}
use Rattle.asa_acl_boxes.specs.Pairs.{prefix_count, entry_pairs, line_pairs, list_pairs}
use Rattle.asa_objects.specs.Frames as keeping
use Rattle.asa_objects_values.specs.Tables.{Table}
use Rattle.asa_acl_table.specs.Names.{meanings_in}

-- what stands at a place, if anything does, is the same
abbrev Keeps : Table → Table → Option (List ℕ) → Type 0
Keeps old new None = Unit {0}
Keeps old new (Some q) = keeping.IsKept old new q

at_place : (old new : Table) (o : Option (List ℕ)) → ((q : List ℕ) → is_named q o ≡ true → keeping.IsKept old new q) → Keeps old new o
at_place old new None same = tt
at_place old new (Some q) same = same q ((bytes_eq-Decides q q).1 refl)

ranges_same : (old new : Table) (is : List Iface) (r : AddrRef) → Keeps old new (address_name r) → ranges_of (meanings_in new is) r ≡ ranges_of (meanings_in old is) r
ranges_same old new is addr.Any same = refl
ranges_same old new is addr.Nothing same = refl
ranges_same old new is (addr.Host a) same = refl
ranges_same old new is (addr.Net n) same = refl
ranges_same old new is (addr.Named q) same = ap (map member_range) same.0
ranges_same old new is (addr.Interface ifc) same = refl

ports_same : (old new : Table) (is : List Iface) (r : PortRef) → Keeps old new (ports_name r) → port_ranges_of (meanings_in new is) r ≡ port_ranges_of (meanings_in old is) r
ports_same old new is ports.All same = refl
ports_same old new is (ports.Ranges spans) same = refl
ports_same old new is (ports.Named q) same = ap (map (λ s. s.dport)) same.1

protocols_same : (old new : Table) (is : List Iface) (group : Option (List ℕ)) (own : Option ℕ) → Keeps old new group → protocols_of (meanings_in new is) group own ≡ protocols_of (meanings_in old is) group own
protocols_same old new is None own same = refl
protocols_same old new is (Some q) own same = ap (map (λ s. s.proto)) same.1

services_same : (old new : Table) (is : List Iface) (s : ServiceRef) → Keeps old new (service_name s) → Keeps old new (source_ports_name s) → Keeps old new (dest_ports_name s)
    → services_of (meanings_in new is) s ≡ services_of (meanings_in old is) s
services_same old new is (service.Plain s) same sports dports = refl
services_same old new is (service.Named q) same sports dports = same.1
services_same old new is (service.Ported group own source dest) same sports dports =
    ap (λ ps. all_with_ports (those_with_ports (states_any_ports source dest) ps) (port_ranges_of (meanings_in new is) source) (port_ranges_of (meanings_in new is) dest))
    (protocols_same old new is group own same)
    ∙ ap (λ ss. all_with_ports (ported_protocols (meanings_in old is) group own source dest) ss (port_ranges_of (meanings_in new is) dest)) (ports_same old new is source sports)
    ∙ ap (λ ds. all_with_ports (ported_protocols (meanings_in old is) group own source dest) (port_ranges_of (meanings_in old is) source) ds) (ports_same old new is dest dports)
services_same old new is (service.Icmp q) same sports dports = same.1

entry_same : (old new : Table) (is : List Iface) (a : Ace) → ((q : List ℕ) → ace_uses q a ≡ true → keeping.IsKept old new q) → entry_pairs (meanings_in new is) a ≡ entry_pairs (meanings_in old is) a
unfolding entry_pairs ace_uses
entry_same old new is a same =
    let sources : ranges_of (meanings_in new is) a.source ≡ ranges_of (meanings_in old is) a.source =
    ranges_same old new is a.source (at_place old new (address_name a.source) (λ q h. same q (or_left _ _ (or_right _ _ h)))) in
    let dests : ranges_of (meanings_in new is) a.dest ≡ ranges_of (meanings_in old is) a.dest =
    ranges_same old new is a.dest (at_place old new (address_name a.dest) (λ q h. same q (or_right _ _ h))) in
    let services : services_of (meanings_in new is) a.service ≡ services_of (meanings_in old is) a.service =
    services_same old new is a.service (at_place old new (service_name a.service) (λ q h. same q (or_left _ _ (or_left _ _ (or_left _ _ (or_left _ _ h))))))
    (at_place old new (source_ports_name a.service) (λ q h. same q (or_left _ _ (or_left _ _ (or_left _ _ (or_right _ _ h))))))
    (at_place old new (dest_ports_name a.service) (λ q h. same q (or_left _ _ (or_left _ _ (or_right _ _ h))))) in
    ap (λ rs. if a.active then prefix_count rs * prefix_count (ranges_of (meanings_in new is) a.dest) * length (services_of (meanings_in new is) a.service) else 0) sources
    ∙ ap (λ rs. if a.active then prefix_count (ranges_of (meanings_in old is) a.source) * prefix_count rs * length (services_of (meanings_in new is) a.service) else 0) dests
    ∙ ap (λ ss. if a.active then prefix_count (ranges_of (meanings_in old is) a.source) * prefix_count (ranges_of (meanings_in old is) a.dest) * length ss else 0) services

pub line_same : (old new : Table) (is : List Iface) (l : AclLine) → ((q : List ℕ) → line_uses q l ≡ true → keeping.IsKept old new q) → line_pairs (meanings_in new is) l ≡ line_pairs (meanings_in old is) l
unfolding line_pairs line_uses
line_same old new is (line.Ace a) same = entry_same old new is a same
line_same old new is (line.Remark text) same = refl

lines_same : (old new : Table) (is : List Iface) (ls : List AclLine) → ((q : List ℕ) → list_any (line_uses q) ls ≡ true → keeping.IsKept old new q)
    → list_pairs (meanings_in new is) ls ≡ list_pairs (meanings_in old is) ls
lines_same old new is [] same = refl
lines_same old new is (l ∷ ls) same =
    sum_by-cons (λ x. line_pairs (meanings_in new is) x) l ls
    ∙ ap (λ n. n + list_pairs (meanings_in new is) ls) (line_same old new is l (λ q h. same q (or_left _ _ h)))
    ∙ ap (λ n. line_pairs (meanings_in old is) l + n) (lines_same old new is ls (λ q h. same q (or_right _ _ h)))
    ∙ sym (sum_by-cons (λ x. line_pairs (meanings_in old is) x) l ls)

-- and so does a list
pub list_same : (old new : Table) (is : List Iface) (l : AccessLines) → ((q : List ℕ) → list_uses q l ≡ true → keeping.IsKept old new q)
    → list_pairs (meanings_in new is) l.lines ≡ list_pairs (meanings_in old is) l.lines
unfolding list_uses
list_same old new is l same = lines_same old new is l.lines same

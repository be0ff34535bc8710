-- What is appended so far, then the destinations that are left, give what all destinations give.
use Rattle.std.proofs.Common.{◌≡◌, ◌+◌, ◌&&◌, length, drop}
use Rattle.std.specs.List.{list_any}
use Rattle.asa_base.specs.declared.flow.Packet.{Packet}
use Rattle.asa_base.specs.Boxes.{service_holds}
use Rattle.asa_base.specs.Networks.{covers}
use Rattle.asa_access_entries.specs.Matches.{first_match, or_else, line_if, covering, entries_covering, count_if}
use Rattle.asa_access_entries.proofs.entries.Ranked.push_dests.Given as goal

abbrev pub invariant-loop-dest : goal.invariant-loop-dest
invariant-loop-dest l = record {
  first : (p : Packet) → or_else (first_match l.self p) (line_if (covers l.source p.src && list_any (λ d. covers d p.dst) (drop l.dest-index l.dests) && service_holds l.b.service p) l.b.line l.b.permit)
      ≡ or_else (first_match l.initial.self p) (line_if (covers l.source p.src && list_any (λ d. covers d p.dst) l.dests && service_holds l.b.service p) l.b.line l.b.permit);
  covering : (p : Packet) → entries_covering p l.self + count_if (covers l.source p.src) (covering p.dst (drop l.dest-index l.dests)) ≡ entries_covering p l.initial.self + count_if (covers l.source p.src) (covering p.dst l.dests);
  longer : length l.self ≡ length l.initial.self + l.dest-index;
}

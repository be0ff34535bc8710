-- What is appended so far, then the sources that are left, give what all sources give.
use Rattle.std.proofs.Common.{◌≡◌, ◌+◌, ◌*◌, ◌&&◌, length, drop}
use Rattle.std.specs.List.{list_any}
use Rattle.asa_base.specs.declared.flow.Packet.{Packet}
use Rattle.asa_base.specs.Boxes.{service_holds}
use Rattle.asa_base.specs.Networks.{covers}
use Rattle.asa_access_entries.specs.Matches.{first_match, or_else, line_if, covering, entries_covering}
use Rattle.asa_access_entries.proofs.entries.Ranked.push_pairs.Given as goal

abbrev pub invariant-loop-source : goal.invariant-loop-source
invariant-loop-source l = record {
  first : (p : Packet) → or_else (first_match l.self p) (line_if (list_any (λ s. covers s p.src) (drop l.source-index l.sources) && list_any (λ d. covers d p.dst) l.dests && service_holds l.b.service p) l.b.line l.b.permit)
      ≡ or_else (first_match l.initial.self p) (line_if (list_any (λ s. covers s p.src) l.sources && list_any (λ d. covers d p.dst) l.dests && service_holds l.b.service p) l.b.line l.b.permit);
  covering : (p : Packet) → entries_covering p l.self + covering p.src (drop l.source-index l.sources) * covering p.dst l.dests ≡ entries_covering p l.initial.self + covering p.src l.sources * covering p.dst l.dests;
  longer : length l.self ≡ length l.initial.self + l.source-index * length l.dests;
}

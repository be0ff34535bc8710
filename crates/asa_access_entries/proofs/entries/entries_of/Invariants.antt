-- The entries so far, then the boxes that are left, give what all boxes give; and there is room for the pairs that are left.
use Rattle.std.proofs.Common.{◌≡◌, ◌+◌, length, drop}
use Rattle.asa_base.specs.declared.flow.Packet.{Packet}
use Rattle.asa_access_entries.specs.Matches.{first_match, first_box, or_else, pairs_of, entries_covering, boxes_covering}
use Rattle.asa_access_entries.proofs.entries.entries_of.Given as goal

abbrev pub invariant-loop-b : goal.invariant-loop-b
invariant-loop-b l = record {
  first : (p : Packet) → or_else (first_match l.ranked p) (first_box (drop l.b-index l.boxes) p) ≡ first_box l.boxes p;
  covering : (p : Packet) → entries_covering p l.ranked + boxes_covering p (drop l.b-index l.boxes) ≡ boxes_covering p l.boxes;
  room : length l.ranked + pairs_of (drop l.b-index l.boxes) ≡ pairs_of l.boxes;
}

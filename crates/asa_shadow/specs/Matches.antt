-- First matches: the least line of a list with a box that holds a packet.
use Rattle.std.specs.Prelude.{◌≡◌, ℕ, ◌≤◌, Bool, not, ◌&&◌, ◌==◌, nat_lt, List, map}
use Rattle.std.specs.List.{list_any}
use Rattle.asa_base.specs.declared.flow.Packet.{Packet}
use Rattle.asa_base.specs.declared.boxes.LineBox.{LineBox}
use Rattle.asa_base.specs.Boxes.{box_holds}
use Rattle.asa_shadow.specs.declared.box_at.BoxAt.{BoxAt}
use Rattle.asa_shadow.specs.Regions.{holds, point_of, region_of}

-- a box with its region
abbrev pub box_at : LineBox → BoxAt
box_at b = record { region = region_of b; line = b.line }

-- a box of an earlier line holds the point
abbrev pub holds_earlier : List BoxAt → ℕ → List ℕ → Bool
holds_earlier boxes line x = list_any (λ b. nat_lt b.line line && holds b.region x) boxes

-- a box of the line holds the point
abbrev pub holds_there : List BoxAt → ℕ → List ℕ → Bool
holds_there boxes line x = list_any (λ b. (b.line == line) && holds b.region x) boxes

-- the line is the first match of the packet: a box of it holds the packet, and no box of an earlier line does
abbrev pub is_first : List BoxAt → ℕ → Packet → Bool
is_first boxes line p = holds_there boxes line (point_of p) && not (holds_earlier boxes line (point_of p))

-- the same over the boxes of a list
abbrev pub is_first_box : List LineBox → ℕ → Packet → Bool
is_first_box boxes line p =
    list_any (λ b. (b.line == line) && box_holds b p) boxes && not (list_any (λ b. nat_lt b.line line && box_holds b p) boxes)

-- a packet of a protocol from 1 to 255, whose ICMP type and code are from 0 to 255
pub record IsInRange (p : Packet) : Type 0 where
  pub proto_from : 1 ≤ p.proto
  pub proto_to : p.proto ≤ 255
  pub itype_to : p.itype ≤ 255
  pub icode_to : p.icode ≤ 255

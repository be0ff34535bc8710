-- First matches in a list of boxes and in a list of entries, and how many entries stand for boxes.
use Rattle.std.specs.Prelude.{◌≡◌, ℕ, ◌*◌, Bool, List, length, filter, sum_by, slice_get, Option, Some, None, if◌then◌else◌}
use Rattle.std.specs.List.{find}
use Rattle.std.specs.Option.{option_map}
use Rattle.asa_text.specs.declared.numbers.Addr.{Addr}
use Rattle.asa_base.specs.Networks.{Network, covers}
use Rattle.asa_base.specs.declared.flow.Packet.{Packet}
use Rattle.asa_base.specs.declared.boxes.LineBox.{LineBox}
use Rattle.asa_base.specs.Boxes.{box_holds}
use Rattle.asa_base.specs.Prefixes.{prefixes_of_span}
use Rattle.asa_pair_trie.specs.declared.entries.Entry.{Entry}
use Rattle.asa_pair_trie.specs.Pairs.{covers_both, holds}

-- an entry with its list line, and whether that line permits
abbrev pub Placed : Type 0
Placed = Entry × ℕ × Bool

-- the line of the first box that holds the packet, and whether it permits
abbrev pub first_box : List LineBox → Packet → Option (ℕ × Bool)
first_box boxes p = option_map (λ b. (b.line, b.permit)) (find (λ b. box_holds b p) boxes)

-- the line of the first entry that holds the packet, and whether it permits
abbrev pub first_match : List Placed → Packet → Option (ℕ × Bool)
first_match entries p = option_map (λ e. (e.1, e.2)) (find (λ e. holds p e.0) entries)

-- what comes first, or else what comes after it
abbrev pub or_else : Option (ℕ × Bool) → Option (ℕ × Bool) → Option (ℕ × Bool)
or_else None more = more
or_else (Some found) _ = Some found

-- a line and whether it permits, where a test holds
abbrev pub line_if : Bool → ℕ → Bool → Option (ℕ × Bool)
line_if found line permit = if found then Some (line, permit) else None

-- how many of these networks cover the address
abbrev pub covering : Addr → List Network → ℕ
covering a ns = length (filter (λ n. covers n a) ns)

-- how many prefix pairs of a box cover the packet's addresses
unfoldable pub box_covering : Packet → LineBox → ℕ
box_covering p b = covering p.src (prefixes_of_span b.source) * covering p.dst (prefixes_of_span b.dest)

-- how many prefix pairs of boxes do
abbrev pub boxes_covering : Packet → List LineBox → ℕ
boxes_covering p bs = sum_by (box_covering p) bs

-- how many entries do
unfoldable pub entries_covering : Packet → List Placed → ℕ
entries_covering p es = length (filter (λ e. covers_both p e.0) es)

-- a number, where a test holds
abbrev pub count_if : Bool → ℕ → ℕ
count_if holds n = if holds then n else 0

-- the prefix pairs of a box
abbrev pub box_pairs : LineBox → ℕ
box_pairs b = length (prefixes_of_span b.source) * length (prefixes_of_span b.dest)

-- the prefix pairs of boxes
abbrev pub pairs_of : List LineBox → ℕ
pairs_of bs = sum_by box_pairs bs

-- the rank of each entry is its place
abbrev pub IsRanked : List Placed → Type 0
IsRanked es = (i : ℕ) (e : Placed) → slice_get es i ≡ Some e → e.0.rank ≡ i

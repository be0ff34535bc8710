-- How many prefix pairs a list has: for each active line the prefixes of its sources times those of its destinations
-- times its services.
use Rattle.std.specs.Prelude.{ℕ, ◌*◌, List, length, sum_by, if◌then◌else◌}
use Rattle.asa_base.specs.Ranges.{AddressSpan}
use Rattle.asa_base.specs.declared.boxes.LineBox.{LineBox}
use Rattle.asa_base.specs.Prefixes.{prefixes_of_span}
use Rattle.asa_acl_line.specs.declared.ace.Ace.{Ace}
use Rattle.asa_acl_line.specs.declared.ace.AclLine.{AclLine}
use Rattle.asa_acl_line.specs.declared.ace.AclLine.TheVariants as line
use Rattle.asa_acl_boxes.specs.Meanings.{Meanings}
use Rattle.asa_acl_boxes.specs.Boxes.{ranges_of, services_of}

-- the prefixes of ranges, each range counted by itself
abbrev pub prefix_count : List AddressSpan → ℕ
prefix_count spans = sum_by (λ s. length (prefixes_of_span s)) spans

-- the prefix pairs of an entry, once for each service
unfoldable pub entry_pairs : Meanings → Ace → ℕ
entry_pairs m a =
    if a.active then prefix_count (ranges_of m a.source) * prefix_count (ranges_of m a.dest) * length (services_of m a.service)
    else 0

unfoldable pub line_pairs : Meanings → AclLine → ℕ
line_pairs m (line.Ace a) = entry_pairs m a
line_pairs m (line.Remark _) = 0

-- the prefix pairs of a list with these lines
abbrev pub list_pairs : Meanings → List AclLine → ℕ
list_pairs m lines = sum_by (λ l. line_pairs m l) lines

-- the prefix pairs of a box
abbrev pub box_pairs : LineBox → ℕ
box_pairs b = length (prefixes_of_span b.source) * length (prefixes_of_span b.dest)

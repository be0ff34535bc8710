-- At how many places of lines each object and group stands.
use Rattle.std.specs.Prelude.{◌≡◌, ℕ, ◌+◌, ◌-◌, List, Option, Some, None, sum_by, cond, unwrap_or}
use Rattle.std.specs.Map.{lookup}
use Rattle.std.specs.Str.{bytes_eq}
use Rattle.asa_acl_line.specs.declared.ace.Ace.{Ace}
use Rattle.asa_acl_line.specs.declared.ace.AclLine.{AclLine}
use Rattle.asa_acl_line.specs.declared.ace.AclLine.TheVariants as line
use Rattle.asa_acl_line.specs.Lines.{address_name, service_name, source_ports_name, dest_ports_name}

-- 1 where the name stands at a place, else 0
abbrev pub times_at : List ℕ → Option (List ℕ) → ℕ
times_at q None = 0
times_at q (Some name) = cond (bytes_eq q name) 1 0

-- at how many places of an entry the name stands
unfoldable pub times_in_entry : List ℕ → Ace → ℕ
times_in_entry q a = times_at q (service_name a.service) + times_at q (source_ports_name a.service) + times_at q (dest_ports_name a.service)
    + times_at q (address_name a.source) + times_at q (address_name a.dest)

-- at how many places of a line it stands; a remark has none
unfoldable pub times_in : List ℕ → AclLine → ℕ
times_in q (line.Ace a) = times_in_entry q a
times_in q (line.Remark _) = 0

-- at how many places of lines
abbrev pub times_in_lines : List ℕ → List AclLine → ℕ
times_in_lines q lines = sum_by (times_in q) lines

-- the count that is kept of a name; that of a name that isn't there is 0
abbrev pub count_of : List (List ℕ × ℕ) → List ℕ → ℕ
count_of uses q = unwrap_or (lookup (bytes_eq q) uses) 0

-- the names of a line are counted once less for each place
abbrev pub AreDropped : List (List ℕ × ℕ) → List (List ℕ × ℕ) → AclLine → Type 0
AreDropped old new item = (q : List ℕ) → count_of new q ≡ count_of old q - times_in q item

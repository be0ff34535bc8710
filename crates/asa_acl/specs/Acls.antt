-- Access lists: a name and lines in order. Lines are numbered from 1, and remarks count.
use Rattle.std.specs.Prelude.{ℕ, ◌-◌, Bool, ◌==◌, List, length, insert, remove, slice_get, position, min, Option, Some, None, if◌then◌else◌}
use Rattle.std.specs.List.{list_any}
use Rattle.asa_acl_line.specs.declared.ace.AclLine.{AclLine}
use Rattle.asa_acl_line.specs.Lines.{line_eq, line_uses}

pub record AccessLines : Type 0 where
  pub name : List ℕ
  pub lines : List AclLine

-- how many of the present lines stand before a new one: those before line n, or all of them without a number and where
-- there is no line n
abbrev pub lines_before : Option ℕ → ℕ → ℕ
lines_before None len = len
lines_before (Some n) len = min (n - 1) len

-- the list with a line put before its line n
unfoldable pub with_line : AccessLines → Option ℕ → AclLine → AccessLines
with_line acl n item = record acl { lines = insert acl.lines (lines_before n (length acl.lines)) item }

-- how many lines stand before the first that is equal to this one, where there is one
abbrev pub place_of_equal : AclLine → List AclLine → Option ℕ
place_of_equal item lines = position (line_eq item) lines

-- the lines without that at a place
abbrev pub without : List AclLine → Option ℕ → List AclLine
without lines None = lines
without lines (Some i) = remove lines i

-- the list without the line at a place
abbrev pub without_at : AccessLines → ℕ → AccessLines
without_at acl i = record acl { lines = remove acl.lines i }

-- the list without its first line that is equal to this one
unfoldable pub without_equal : AccessLines → AclLine → AccessLines
without_equal acl item = record acl { lines = without acl.lines (place_of_equal item acl.lines) }

-- line n
abbrev pub line_at : ℕ → List AclLine → Option AclLine
line_at n lines = if n == 0 then None else slice_get lines (n - 1)

-- some line uses the object or group of this name
unfoldable pub list_uses : List ℕ → AccessLines → Bool
list_uses name acl = list_any (line_uses name) acl.lines

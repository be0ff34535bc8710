-- Access lists in order of first definition, and what becomes of them as lines come and go.
use Rattle.std.specs.Prelude.{◌≡◌, ℕ, ◌≤◌, Bool, nat_lt, List, [], ◌∷◌, ◌++◌, length, map, sum_by, find, Option, Some, None, if◌then◌else◌}
use Rattle.std.specs.List.{AllByRecursion}
use Rattle.std.specs.Str.{bytes_eq}
use Rattle.asa_acl_line.specs.declared.ace.AclLine.{AclLine}
use Rattle.asa_acl.specs.Acls.{AccessLines, with_line, without_at, list_uses}
use Rattle.asa_acl_table.specs.declared.new_line.NewLine.{NewLine}
use Rattle.asa_acl_table.specs.Uses.{count_of, times_in}

-- the list has this name
abbrev pub has_name : List ℕ → AccessLines → Bool
has_name name l = bytes_eq name l.name

-- the list among these that has this name
abbrev pub list_among : List AccessLines → List ℕ → Option AccessLines
list_among lists name = find (has_name name) lists

-- the first list among these with a line that names the object or group
abbrev pub first_using : List AccessLines → List ℕ → Option AccessLines
first_using lists q = find (list_uses q) lists

-- a list takes the place of the one that has its name
abbrev pub with_list : List AccessLines → AccessLines → List AccessLines
with_list [] new = []
with_list (l ∷ ls) new = if has_name new.name l then new ∷ ls else l ∷ with_list ls new

-- the lists without the one that has this name
abbrev pub without_list : List AccessLines → List ℕ → List AccessLines
without_list [] name = []
without_list (l ∷ ls) name = if has_name name l then ls else l ∷ without_list ls name

-- a list of one line
abbrev pub list_of : List ℕ → AclLine → AccessLines
list_of name item = record { name = name; lines = item ∷ [] }

-- a list may get a line, so that it has at most 65,536; or one more list may be begun, so that there are at most 1,024
abbrev pub has_room : List AccessLines → Option AccessLines → Bool
has_room lists (Some l) = nat_lt (length l.lines) 65536
has_room lists None = nat_lt (length lists) 1024

-- the lists after a line has gone into the one with its name, or has begun it; a new list goes last
abbrev pub put_in : List AccessLines → NewLine → Option AccessLines → List AccessLines
put_in lists new (Some l) = with_list lists (with_line l new.place new.item)
put_in lists new None = lists ++ list_of new.list new.item ∷ []

-- the lists after the line at a place has left one of them
abbrev pub without_place : List AccessLines → ℕ → Option AccessLines → List AccessLines
without_place lists place None = lists
without_place lists place (Some l) = with_list lists (without_at l place)

-- the sum over all lines of all lists
abbrev pub weight : (AclLine → ℕ) → List AccessLines → ℕ
weight w lists = sum_by (λ l. sum_by w l.lines) lists

-- each key is the name of its list
abbrev pub Keyed : List (List ℕ × AccessLines) → Type 0
Keyed es = AllByRecursion (λ e. e.0 ≡ e.1.name) es

-- the lists of a map by name
abbrev pub values : List (List ℕ × AccessLines) → List AccessLines
values es = map (λ e. e.1) es

-- what holds of the map by name, and of the counts that are kept of the objects and groups: there are at most 1,024
-- lists, and a name is counted as often as it stands in their lines
pub record IsTable (es : List (List ℕ × AccessLines)) (uses : List (List ℕ × ℕ)) : Type 0 where
  pub keyed : Keyed es
  pub few_lists : length (values es) ≤ 1024
  pub used : (q : List ℕ) → count_of uses q ≡ weight (times_in q) (values es)

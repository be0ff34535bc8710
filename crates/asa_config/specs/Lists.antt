-- Lines of access lists: where a new one goes, and which one is removed.
use Rattle.std.specs.Prelude.{ℕ, Bool, false, ◌==◌, List, length, Option, Some, None, is_some, codes, Ok, if◌then◌else◌}
use Rattle.asa_text.specs.declared.blocks.Block.{Block}
use Rattle.asa_acl_line.specs.declared.ace.AclLine.{AclLine}
use Rattle.asa_acl.specs.Acls.{AccessLines, without_equal, place_of_equal}
use Rattle.asa_config_edit.specs.declared.fault.EditFault.TheVariants.{NoSuchLine, InUse, TooMany}
use Rattle.asa_config_edit.specs.Refusals.{Judged, ◌>>=◌, refused, top_text, top_read, alone}
use Rattle.asa_acl_table.specs.declared.new_line.NewLine.{NewLine}
use Rattle.asa_acl_table.specs.Lists.{with_list, without_list, has_room, put_in}
use Rattle.asa_config.specs.declared.places.OldLine.{OldLine}
use Rattle.asa_config.specs.Settings.{Settings, list_among}
use Rattle.asa_config.specs.Groups.{is_bound}
use Rattle.asa_config.specs.Limits.{fitting}
use Rattle.asa_config.specs.Grammar.{new_line, old_line}

-- the configuration with other lists
abbrev pub with_lists : Settings → List AccessLines → Settings
with_lists c lists = record c { lists = lists }

-- the lists after a new line
unfoldable pub lists_with : List AccessLines → NewLine → Judged (List AccessLines)
lists_with lists new =
    if has_room lists (list_among lists new.list) then Ok (put_in lists new (list_among lists new.list)) else refused 1 TooMany

-- the configuration after a new line
unfoldable pub line_put : Settings → NewLine → Judged Settings
line_put c new = lists_with c.lists new >>= λ lists. fitting (with_lists c lists)

-- `access-list N [line L] ..`
unfoldable pub line_step : Settings → Block → Judged Settings
line_step c b = do
  new ← top_read b (new_line c (top_text b))
  _ ← alone b
  line_put c new

-- how many lines of a list stand before the first like this one, where there is one
abbrev pub place_in : AclLine → Option AccessLines → Option ℕ
place_in item (Some l) = place_of_equal item l.lines
place_in item None = None

-- a list has a line like this one
abbrev pub has_equal : AclLine → Option AccessLines → Bool
has_equal item o = is_some (place_in item o)

-- a line that is there; another is a fault of the line that removes it
abbrev pub known_line : Settings → OldLine → Judged (Unit {0})
known_line c old = if has_equal old.item (list_among c.lists old.list) then Ok tt else refused 1 NoSuchLine

-- the configuration after a list without lines has gone, unless it is bound somewhere
abbrev pub list_gone : Settings → List ℕ → Judged Settings
list_gone c name = if is_bound c name then refused 1 (InUse (codes "access-group")) else Ok (with_lists c (without_list c.lists name))

-- the lists after the first line that equals this one has left one of them
abbrev pub without_line : List AccessLines → AclLine → Option AccessLines → List AccessLines
without_line lists item (Some l) = with_list lists (without_equal l item)
without_line lists item None = lists

-- a list has one line
abbrev pub has_one_line : Option AccessLines → Bool
has_one_line (Some l) = length l.lines == 1
has_one_line None = false

-- the configuration after a line has left its list; with its last line the list goes
unfoldable pub line_gone : Settings → OldLine → Judged Settings
line_gone c old =
    if has_one_line (list_among c.lists old.list) then list_gone c old.list
    else Ok (with_lists c (without_line c.lists old.item (list_among c.lists old.list)))

-- `no access-list N ..`
unfoldable pub no_line_step : Settings → Block → Judged Settings
no_line_step c b = do
  old ← top_read b (old_line c (top_text b))
  _ ← known_line c old
  _ ← alone b
  line_gone c old

-- The lines that are read here: those of access lists, up to the entry, and those of access groups.
use Rattle.std.specs.Prelude.{ℕ, Bool, true, false, ◌||◌, List, codes, Option, Some, None, is_some, Ok, Err, if◌then◌else◌}
use Rattle.asa_text.specs.declared.readers.LineFault.TheVariants.{Bad, Unsupported, Unknown}
use Rattle.asa_text.specs.Words.{Left}
use Rattle.asa_text.specs.Readers.{Read, ◌>>=◌, word_at, after_one, column_at, next_is, keyword_at, number_at, end_at}
use Rattle.asa_base.specs.Names.{is_name, name_at}
use Rattle.asa_base.specs.Readers.{interface_at}
use Rattle.asa_acl_line.specs.Grammar.{acl_line_at}
use Rattle.asa_acl_table.specs.declared.new_line.NewLine.{NewLine}
use Rattle.asa_config.specs.declared.places.OldLine.{OldLine}
use Rattle.asa_config.specs.declared.places.Place.{Place}
use Rattle.asa_config.specs.declared.places.Place.TheVariants.{Side, Global}
use Rattle.asa_config.specs.declared.places.Binding.{Binding}
use Rattle.asa_config.specs.Settings.{Settings, list_named}
use Rattle.asa_config.specs.Names.{known_of}

-- `line L`, or nothing
unfoldable pub place_in_list_at : Left → Read (Option ℕ)
place_in_list_at left = if next_is (codes "line") left then stated_place (after_one left) else Ok (None, left)
  where
    stated_place : Left → Read (Option ℕ)
    stated_place left = do
      (n, left) ← number_at 1 65536 left
      Ok (Some n, left)

-- `access-list N [line L] ..`, on a line with this text
unfoldable pub new_line : Settings → List ℕ → Left → Read NewLine
new_line c text left = do
  (_, left) ← keyword_at (codes "access-list") left
  (list, left) ← name_at left
  (place, left) ← place_in_list_at left
  (item, left) ← acl_line_at (known_of c) text left
  Ok (record { list = list; place = place; item = item }, left)

-- the name of a list that is defined; any other name is Unknown
unfoldable pub list_at : Settings → Left → Read (List ℕ)
list_at c left = do
  (w, left) ← word_at left
  if is_name w.word then defined w.word w.column left (is_some (list_named c w.word)) else Err (Bad w.column)
  where
    defined : List ℕ → ℕ → Left → Bool → Read (List ℕ)
    defined name column left true = Ok (name, left)
    defined name column left false = Err (Unknown column)

-- `no access-list N ..`, on a line with this text
unfoldable pub old_line : Settings → List ℕ → Left → Read OldLine
old_line c text left = do
  (_, left) ← keyword_at (codes "no") left
  (_, left) ← keyword_at (codes "access-list") left
  (list, left) ← list_at c left
  (item, left) ← acl_line_at (known_of c) text left
  Ok (record { list = list; item = item }, left)

-- `interface I`, after `in` or `out`
unfoldable pub side_at : Settings → Bool → Left → Read Place
side_at c inbound left = do
  (_, left) ← keyword_at (codes "interface") left
  (ifc, left) ← interface_at (known_of c).interface_of left
  Ok (Side ifc inbound, left)

-- `in interface I`, `out interface I` or `global`
unfoldable pub place_at : Settings → Left → Read Place
place_at c left =
    if next_is (codes "in") left then side_at c true (after_one left)
    else (if next_is (codes "out") left then side_at c false (after_one left)
    else (if next_is (codes "global") left then Ok (Global, after_one left)
    else Err (Bad (column_at left))))

-- the options of an access group, which this project leaves out
abbrev pub is_group_option : Left → Bool
is_group_option left = next_is (codes "per-user-override") left || next_is (codes "control-plane") left

-- the end of an access group
unfoldable pub group_end_at : Left → Read (Unit {0})
group_end_at left = if is_group_option left then Err (Unsupported (column_at left)) else end_at left

-- `access-group N ..`
unfoldable pub binding_line : Settings → Left → Read Binding
binding_line c left = do
  (_, left) ← keyword_at (codes "access-group") left
  (list, left) ← list_at c left
  (place, left) ← place_at c left
  (_, left) ← group_end_at left
  Ok (record { list = list; place = place }, left)

-- `no access-group N ..`
unfoldable pub old_binding_line : Settings → Left → Read Binding
old_binding_line c left = do
  (_, left) ← keyword_at (codes "no") left
  binding_line c left

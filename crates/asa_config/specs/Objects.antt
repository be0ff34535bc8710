-- Blocks of objects and groups, and the lines that remove one.
use Rattle.std.specs.Prelude.{◌≡◌, ℕ, ◌+◌, ◌<◌, ◌≤◌, true, List, [], ◌∷◌, Option, Some, None, Result, Ok, Err, if◌then◌else◌}
use Rattle.std.specs.Option.{option_map}
use Rattle.asa_text.specs.declared.lines.Line.{Line}
use Rattle.asa_text.specs.declared.blocks.Block.{Block}
use Rattle.asa_acl.specs.Acls.{AccessLines}
use Rattle.asa_objects_lines.specs.Tops.{removal_at}
use Rattle.asa_objects_values.specs.declared.faults.ObjectFault.{ObjectFault}
use Rattle.asa_objects_values.specs.declared.faults.ObjectFault.TheVariants as object
use Rattle.asa_objects_values.specs.Definition.{defined}
use Rattle.asa_objects.specs.Frames.{ForName}
use Rattle.asa_objects_values.specs.Tables.{Table, user_of, without_name, reaches}
use Rattle.asa_config_edit.specs.declared.fault.EditFault.TheVariants.{Bad, Unsupported, Unknown, NameTaken, NoSuchLine, InUse, Cycle, TooMany, TooLarge, NotBuilt}
use Rattle.asa_config_edit.specs.declared.fault.EditRefusal.{EditRefusal}
use Rattle.asa_config_edit.specs.declared.fault.EditRefusal.TheVariants.{At, NoMemory}
use Rattle.asa_config_edit.specs.Classes.{is_nat_line}
use Rattle.asa_config_edit.specs.Refusals.{Judged, ◌>>=◌, refused, top_read, alone}
use Rattle.asa_acl_table.specs.Limits.{capped}
use Rattle.asa_acl_table.specs.Lists.{first_using}
use Rattle.asa_config.specs.Settings.{Settings}
use Rattle.asa_config.specs.Names.{known_of}
use Rattle.asa_config.specs.Limits.{fitting}

-- the refusal of a block for a fault of its object or group
abbrev pub object_refusal : ObjectFault → EditRefusal
object_refusal object.NameTaken = At 1 NameTaken
object_refusal (object.Unknown line column) = At line (Unknown column)
object_refusal (object.Bad line column) = At line (Bad column)
object_refusal (object.Unsupported line column) = At line (Unsupported column)
object_refusal (object.Cycle line) = At line Cycle
object_refusal (object.NoSuchMember line) = At line NoSuchLine
object_refusal (object.NoValue column) = At 1 (Bad column)
object_refusal object.TooMany = At 1 TooMany
object_refusal object.NoMemory = NoMemory

-- what the table is after a block
abbrev pub of_objects : Result Table ObjectFault → Judged Table
of_objects (Ok table) = Ok table
of_objects (Err fault) = Err (object_refusal fault)

-- what a block answers
abbrev pub told : Result (Unit {0}) ObjectFault → Judged (Unit {0})
told (Ok u) = Ok u
told (Err fault) = Err (object_refusal fault)

-- the configuration with other objects and groups
abbrev pub with_objects : Settings → Table → Settings
with_objects c objects = record c { objects = objects }

-- the configuration with other objects and groups, as far as it fits
abbrev pub changed : Settings → Table → Judged Settings
changed c objects = fitting (with_objects c objects)

-- the lines of a block from line n on, of which none is about NAT: that isn't built yet
unfoldable pub without_nat : ℕ → List Line → Judged (Unit {0})
without_nat n [] = Ok tt
without_nat n (l ∷ ls) = if is_nat_line l then refused n NotBuilt else without_nat (n + 1) ls

-- `object ..` or `object-group ..` with its lines
unfoldable pub object_step : Settings → Block → Judged Settings
object_step c b = do
  objects ← of_objects (defined c.objects b)
  changed c objects

-- what a new count of the lists answers, which have so many pairs
abbrev pub Recounts : Judged ℕ → ℕ → Type 0
Recounts (Ok pairs) n = (pairs ≡ n) × (n ≤ 262144)
Recounts (Err NoMemory) n = Unit {0}
Recounts (Err (At line fault)) n = (262144 < n) × (At line fault ≡ At 1 (TooLarge (capped n)))

-- the first list with a line that names the object or group
abbrev pub list_using : List AccessLines → List ℕ → Option (List ℕ)
list_using lists name = option_map (λ l. l.name) (first_using lists name)

-- no list names what a block defines, or a group that leads to it
abbrev pub IsApart : Settings → Block → Type 0
IsApart c b = ForName b (λ name. (q : List ℕ) → reaches c.objects q name ≡ true → list_using c.lists q ≡ None)

-- nothing names it, or that is the refusal
abbrev pub free_of : Option (List ℕ) → Judged (Unit {0})
free_of None = Ok tt
free_of (Some user) = refused 1 (InUse user)

-- no group and no list names the object or group; else the least group by bytes, or else the first list, is told
abbrev pub unused : Settings → List ℕ → Judged (Unit {0})
unused c name = free_of (user_of c.objects name) >>= λ _. free_of (list_using c.lists name)

-- `no object ..` or `no object-group ..`
unfoldable pub no_object_step : Settings → Block → Judged Settings
no_object_step c b = do
  removal ← top_read b (removal_at (known_of c))
  _ ← alone b
  _ ← unused c removal.name
  changed c (without_name c.objects removal.name)

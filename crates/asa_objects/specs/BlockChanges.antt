-- What the lines of a block make of the members of a name.
use Rattle.std.specs.Prelude.{◌≡◌, ℕ, ◌≤◌, false, List, length, Result, Ok, Err}
use Rattle.asa_text.specs.declared.blocks.Block.{Block}
use Rattle.asa_objects_lines.specs.declared.statement.Item.{Item}
use Rattle.asa_objects_lines.specs.declared.top.Top.{Top}
use Rattle.asa_objects.specs.declared.definition.Drafted.{Drafted}
use Rattle.asa_objects_values.specs.declared.draft.Change.{Change}
use Rattle.asa_objects_values.specs.declared.faults.ObjectFault.{ObjectFault}
use Rattle.asa_objects_values.specs.declared.faults.ObjectFault.TheVariants as fault
use Rattle.asa_objects_values.specs.Tables.{Table, items_of}
use Rattle.asa_objects_values.specs.Definition.{changed_by, lacks_value, stated_by}
use Rattle.asa_objects_values.specs.Drafts.{AreFormer, AreNew, changed, standing}

-- the members that the name had, after what the lines do to them
abbrev pub after_change : Table → List ℕ → Change → List Item
after_change t name c = changed (items_of t name) c.gone.keys c.added

-- what reading the lines gives
pub record IsDrafted (t : Table) (b : Block) (top : Top) (d : Drafted) : Type 0 where
  pub members : stated_by t b top ≡ Ok (after_change t top.name d.change)
  pub new : AreNew (standing (items_of t top.name) d.change.gone.keys) d.change.added
  pub former : AreFormer (items_of t top.name) d.change.gone.keys
  pub lacks : d.lacks ≡ lacks_value top.block (after_change t top.name d.change)

abbrev pub Drafteds : Table → Block → Top → Result Drafted ObjectFault → Type 0
Drafteds t b top (Ok d) = IsDrafted t b top d
Drafteds t b top (Err fault.NoMemory) = Unit {0}
Drafteds t b top (Err f) = stated_by t b top ≡ Err f

-- a block may change a name so, which is in the table
pub record IsRead (t : Table) (b : Block) (top : Top) (c : Change) : Type 0 where
  pub members : stated_by t b top ≡ Ok (after_change t top.name c)
  pub new : AreNew (standing (items_of t top.name) c.gone.keys) c.added
  pub former : AreFormer (items_of t top.name) c.gone.keys
  pub has : lacks_value top.block (after_change t top.name c) ≡ false
  pub few : length t ≤ 16384

-- what finding that out may answer
abbrev pub Reads : Table → Block → Top → Result Change ObjectFault → Type 0
Reads t b top (Ok c) = IsRead t b top c
Reads t b top (Err fault.NoMemory) = Unit {0}
Reads t b top (Err f) = changed_by t b top ≡ Err f

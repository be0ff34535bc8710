-- Which names stand for the same after a change.
use Rattle.std.specs.Prelude.{◌≡◌, ℕ, false, List, Ok}
use Rattle.asa_text.specs.declared.blocks.Block.{Block}
use Rattle.asa_text.specs.Blocks.{top_text}
use Rattle.asa_text.specs.Words.{line_left}
use Rattle.asa_objects_lines.specs.declared.top.Top.{Top}
use Rattle.asa_objects_lines.specs.Tops.{top_at}
use Rattle.asa_objects_values.specs.Definition.{read_at}
use Rattle.asa_objects_values.specs.Tables.{Table, members_of, services_of_name, reaches, same_name}

-- the name stands for the same in both tables
abbrev pub IsKept : Table → Table → List ℕ → Type 0
IsKept old new q = (members_of new q ≡ members_of old q) × (services_of_name new q ≡ services_of_name old q)

-- what holds of the name that a block defines
abbrev pub ForName : Block → (List ℕ → Type 0) → Type 0
ForName b P = (top : Top) → read_at 1 (top_at (line_left (top_text b))) ≡ Ok top → P top.name

-- each name that didn't reach this one before the change stands for the same
abbrev pub KeepsApart : Table → Table → List ℕ → Type 0
KeepsApart old new name = (q : List ℕ) → reaches old q name ≡ false → IsKept old new q

-- each name that didn't reach, before the block, the one that it defines stands for the same
abbrev pub KeepsOthers : Table → Table → Block → Type 0
KeepsOthers old new b = ForName b (KeepsApart old new)

-- each other name stands for the same
abbrev pub KeepsRest : Table → Table → List ℕ → Type 0
KeepsRest old new name = (q : List ℕ) → same_name name q ≡ false → IsKept old new q

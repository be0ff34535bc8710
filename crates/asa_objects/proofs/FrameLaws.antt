-- Which names reach what a block defines.
use Rattle.std.proofs.Common.{◌≡◌, ℕ, None, List, [], ◌∷◌, Result, Ok, Err, IfOk, is_some, ap, ◌∙◌}
use Rattle.asa_text.specs.Blocks.{top_text}
use Rattle.asa_text.specs.declared.blocks.Block.{Block}
use Rattle.asa_text.specs.Words.{line_left}
use Rattle.asa_objects_lines.specs.declared.top.Top.{Top}
use Rattle.asa_objects_lines.specs.Tops.{top_at}
use Rattle.asa_objects_values.specs.Definition.{read_at}
use Rattle.asa_objects.specs.Frames.{ForName}
use Rattle.asa_objects_values.specs.Tables.{Table, entry_of, reaches}
use Rattle.asa_objects_table.specs.Ranks.{IsSound, Ranks, Uses, has_name}
use Rattle.asa_objects_table.proofs.LoneLaws.{alone}

-- names that reach the name of the first line reach what the block defines
pub block-reaches : {E : Type 0} (t u : Table) (b : Block) (top : Top) (result : Result (List (List ℕ)) E) → t ≡ u → read_at 1 (top_at (line_left (top_text b))) ≡ Ok top
    → IfOk result (λ names. (q : List ℕ) → has_name names q ≡ reaches t q top.name) → IfOk result (λ names. ForName b (λ name. (q : List ℕ) → has_name names q ≡ reaches u q name))
block-reaches t u b top (Err f) is read given = tt
block-reaches t u b top (Ok names) is read given = λ other there q.
    let one : top ≡ other = cc in
    given q ∙ ap (λ (x : Top). reaches t q x.name) one ∙ ap (λ (s : Table). reaches s q other.name) is

-- a name that isn't in the table is reached by itself alone
pub only-reaches : {E : Type 0} (t : Table) (ranks : Ranks) (uses : Uses) (stamp : ℕ) (name : List ℕ) (result : Result (List (List ℕ)) E) → IsSound t ranks uses stamp
    → entry_of t name ≡ None → IfOk result (λ names. names ≡ name ∷ []) → IfOk result (λ names. (q : List ℕ) → has_name names q ≡ reaches t q name)
only-reaches t ranks uses stamp name (Err f) sound absent given = tt
only-reaches t ranks uses stamp name (Ok names) sound absent given = λ q. ap (λ ns. has_name ns q) given ∙ alone t ranks uses stamp name sound (sound.ranked name ∙ ap is_some absent) q

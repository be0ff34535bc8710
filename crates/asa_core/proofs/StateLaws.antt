-- The edits that a session starts from.
use Rattle.std.proofs.Common.{◌≡◌, List, [], ◌∷◌, length, map, take, refl, ap}
use Rattle.asa_text.specs.declared.blocks.Block.{Block}
use Rattle.asa_config.specs.Steps.{startup_edit}

-- all of them are published
pub all_startup : (bs : List Block) → take (length bs) (map startup_edit bs) ≡ map startup_edit bs
all_startup [] = refl
all_startup (b ∷ bs) = ap (λ es. startup_edit b ∷ es) (all_startup bs)

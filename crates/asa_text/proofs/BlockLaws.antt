-- The blocks that the builder has when no line comes any more.
use Rattle.std.proofs.Common.{◌≡◌, ◌==◌, Bool, true, false, cond, List, [], ◌∷◌, ◌++◌, length, None, Ok, Result, refl, append-nil}
use Rattle.asa_text.specs.declared.blocks.Block.{Block}
use Rattle.asa_text.specs.declared.blocks.BlockFault.{BlockFault}
use Rattle.asa_text.specs.Blocks.{grouped}
use Rattle.asa_text.specs.Builder.{Building, finished, with_open}

same_choice : (t : Bool) (xs ys : List Block) → cond {A = Result (List Block) BlockFault} t (Ok xs) (Ok ys) ≡ Ok (cond t xs ys)
same_choice true xs ys = refl
same_choice false xs ys = refl

pub finished_end : (b : Building) → b.early ≡ None → finished b (grouped []) ≡ Ok (with_open b.done b.current)
unfolding grouped
finished_end b none = simp (none, append-nil) (same_choice (length b.current == 0) b.done (b.done ++ record { lines = b.current } ∷ []))

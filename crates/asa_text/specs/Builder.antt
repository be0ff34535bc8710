-- The blocks so far, while lines still come.
use Rattle.std.specs.Prelude.{ℕ, ◌==◌, Bool, ◌||◌, List, [], ◌∷◌, ◌++◌, length, Option, Some, None, Result, Ok, Err, if◌then◌else◌}
use Rattle.asa_text.specs.declared.lines.Line.{Line}
use Rattle.asa_text.specs.declared.blocks.Block.{Block}
use Rattle.asa_text.specs.declared.blocks.BlockFault.{BlockFault}
use Rattle.asa_text.specs.Lines.{is_block}
use Rattle.asa_text.specs.Blocks.{Grouped, blocks_or_fault}

-- the number of the first line that has no top-level line before it, the blocks that are done, and the lines of the
-- block that is open
pub record Building : Type 0 where
  pub early : Option ℕ
  pub done : List Block
  pub current : List Line

-- no block is open, or its lines have the form of a block
abbrev pub is_open : List Line → Bool
is_open ls = (length ls == 0) || is_block ls

-- the blocks that are done, with the block that is open
abbrev pub with_open : List Block → List Line → List Block
with_open done current = if length current == 0 then done else done ++ record { lines = current } ∷ []

-- blocks in front of what later lines give
abbrev pub in_front : List Block → Result (List Block) BlockFault → Result (List Block) BlockFault
in_front done (Ok blocks) = Ok (done ++ blocks)
in_front done (Err fault) = Err fault

-- the block that is open takes the first of the indented lines to come
abbrev pub joined : List Block → List Line → Grouped → Result (List Block) BlockFault
joined done current rest = if length current == 0 then in_front done (blocks_or_fault rest)
    else Ok (done ++ record { lines = current ++ rest.early } ∷ rest.blocks)

-- what the blocks so far give together with the grouped rest of the lines
abbrev pub finished : Building → Grouped → Result (List Block) BlockFault
finished b rest = by_early b.early
  where
    by_early : Option ℕ → Result (List Block) BlockFault
    by_early (Some line) = Err (record { line = line })
    by_early None = joined b.done b.current rest

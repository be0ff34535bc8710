-- Blocks: each top-level line with the indented lines that follow it. Empty lines and comments between don't matter.
use Rattle.std.specs.Prelude.{ℕ, List, [], ◌∷◌, drop, Result, Ok, Err, if◌then◌else◌}
use Rattle.std.specs.List.{filter}
use Rattle.asa_text.specs.declared.lines.Line.{Line}
use Rattle.asa_text.specs.declared.blocks.Block.{Block}
use Rattle.asa_text.specs.declared.blocks.BlockFault.{BlockFault}
use Rattle.asa_text.specs.Lines.{is_kept, is_indented}

-- lines cut into blocks, and the indented lines that stand before any of them
pub record Grouped : Type 0 where
  pub early : List Line
  pub blocks : List Block

-- one more line in front: an indented line waits for the top-level line before it, which begins a block
abbrev pub onto : Line → Grouped → Grouped
onto l g = if is_indented l then record { early = l ∷ g.early; blocks = g.blocks }
    else record { early = []; blocks = record { lines = l ∷ g.early } ∷ g.blocks }

unfoldable pub grouped : List Line → Grouped
grouped [] = record { early = []; blocks = [] }
grouped (l ∷ ls) = onto l (grouped ls)

-- the blocks, or the number of the first line that has no top-level line before it
abbrev pub blocks_or_fault : Grouped → Result (List Block) BlockFault
blocks_or_fault g = when_early g.early g.blocks
  where
    when_early : List Line → List Block → Result (List Block) BlockFault
    when_early [] bs = Ok bs
    when_early (l ∷ _) bs = Err (record { line = l.number })

-- the text of a block's top-level line
abbrev pub top_text : Block → List ℕ
top_text b = first_text b.lines
  where
    first_text : List Line → List ℕ
    first_text [] = []
    first_text (top ∷ _) = top.text

-- the indented lines of a block
abbrev pub inner_lines : Block → List Line
inner_lines b = drop 1 b.lines

-- the blocks of lines
abbrev pub blocks_of : List Line → Result (List Block) BlockFault
blocks_of ls = blocks_or_fault (grouped (filter is_kept ls))

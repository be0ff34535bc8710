-- the blocks so far and the lines still to come give what all lines gave
use Rattle.std.proofs.Common.{◌≡◌, ◌≤◌, length}
use Rattle.std.specs.List.{filter}
use Rattle.asa_text.specs.Lines.{is_kept}
use Rattle.asa_text.specs.Blocks.{grouped}
use Rattle.asa_text.specs.Builder.{finished}
use Rattle.asa_text.proofs.blocks.cut_blocks.Given as goal

abbrev pub invariant-loop-line : goal.invariant-loop-line
invariant-loop-line l =
    (length l.builder.current ≤ l.lines.number)
    × (finished l.builder (grouped (filter is_kept l.lines.lines)) ≡ finished l.initial.builder (grouped (filter is_kept l.initial.lines.lines)))

abbrev pub decreases-loop-line : goal.decreases-loop-line
decreases-loop-line l = length l.lines.lines

-- the blocks so far and the lines still to come before the end of the startup part give what all lines gave
use Rattle.std.proofs.Common.{◌≡◌, ◌≤◌, ◌+◌, length, false}
use Rattle.std.specs.List.{filter}
use Rattle.asa_text.specs.Lines.{is_kept, before_end, after_end}
use Rattle.asa_text.specs.Blocks.{grouped}
use Rattle.asa_text.specs.Builder.{finished}
use Rattle.asa_text.proofs.blocks.cut_startup.Given as goal

abbrev pub invariant-loop-line : goal.invariant-loop-line
invariant-loop-line l = record {
  few : length l.builder.current ≤ l.lines.number;
  blocks : finished l.builder (grouped (filter is_kept (before_end l.lines.lines))) ≡ finished l.initial.builder (grouped (filter is_kept (before_end l.initial.lines.lines)));
  after : after_end l.lines.lines ≡ after_end l.initial.lines.lines;
  numbers : l.lines.number + length l.lines.lines ≡ l.initial.lines.number + length l.initial.lines.lines;
  not_ended : l.ended ≡ false;
}

abbrev pub decreases-loop-line : goal.decreases-loop-line
decreases-loop-line l = length l.lines.lines

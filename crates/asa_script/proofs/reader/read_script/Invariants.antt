-- the lines that are left, read from here on, give what all of them give
use Rattle.std.proofs.Common.{◌≡◌, ◌≤◌, length}
use Rattle.asa_script.specs.Drafts.{nothing}
use Rattle.asa_script.specs.Scripts.{lines_read}
use Rattle.asa_script.proofs.reader.read_script.Given as goal

abbrev pub invariant-loop-line : goal.invariant-loop-line
invariant-loop-line g l = record {
  same : lines_read (g.N.Names.known l.names) l.count l.draft l.lines.lines ≡ lines_read (g.N.Names.known l.names) 0 nothing l.fn.lines.lines;
  few : l.count ≤ 262144;
}

abbrev pub decreases-loop-line : goal.decreases-loop-line
decreases-loop-line g l = length l.lines.lines

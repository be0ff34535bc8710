use Rattle.std.proofs.Common.{◌≡◌, ◌+◌, drop}
use Rattle.asa_objects_values.specs.Definition.{after_lines}
use Rattle.asa_objects_values.specs.Drafts.{marked}
use Rattle.asa_objects.proofs.lines.take_lines.Given as goal

abbrev pub invariant-loop-i : goal.invariant-loop-i
invariant-loop-i l = (after_lines l.table l.name l.block (l.i + 2) (marked l.draft) (drop l.i l.lines) ≡ after_lines l.table l.name l.block 2 (marked l.initial.draft) l.lines)
    × (l.draft.former ≡ l.initial.draft.former)

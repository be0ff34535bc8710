use Rattle.std.proofs.Common.{◌≡◌, ◌++◌, drop}
use Rattle.asa_objects_table.specs.Changes.{freed_among}
use Rattle.asa_objects_values.specs.Drafts.{changed}
use Rattle.asa_objects_values.specs.Tables.{refs_in}
use Rattle.asa_objects_table.proofs.effects.freed_by.Given as goal

abbrev pub invariant-loop-item : goal.invariant-loop-item
invariant-loop-item l =
    l.freed.items ++ freed_among (changed l.former l.change.gone.keys l.change.added) (refs_in (drop l.item-index l.item-items))
    ≡ freed_among (changed l.former l.change.gone.keys l.change.added) (refs_in l.change.gone.keys)

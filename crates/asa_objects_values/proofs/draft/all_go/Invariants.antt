use Rattle.std.proofs.Common.{◌≡◌}
use Rattle.asa_objects_values.specs.Drafts.{is_none, standing}
use Rattle.asa_objects_values.proofs.draft.all_go.Given as goal

abbrev pub invariant-loop-item : goal.invariant-loop-item
invariant-loop-item l = is_none (standing l.item-iterator l.gone.keys) ≡ is_none (standing l.items l.gone.keys)

use Rattle.std.proofs.Common.{◌≡◌, ◌*◌, ◌^◌, ◌≤◌, take}
use Rattle.std.specs.List.{sum_by}
use Rattle.asa_acl_boxes.specs.Pairs.{line_pairs}
use Rattle.asa_acl_boxes.proofs.pairs.list_pairs.Given as goal

abbrev pub invariant-loop-held : goal.invariant-loop-held
invariant-loop-held g l = (l.sum ≡ sum_by (λ x. line_pairs (g.M.Meaning.meanings l.meaning) x) (take l.held-index l.lines)) × (l.sum ≤ l.held-index * 2 ^ 92)

use Rattle.std.proofs.Common.{◌≡◌, ◌-◌, ℕ, List, take}
use Rattle.asa_acl_table.specs.Uses.{count_of, times_in_lines}
use Rattle.asa_acl_table.proofs.uses.Uses.drop_lines.Given as goal

abbrev pub invariant-loop-held : goal.invariant-loop-held
invariant-loop-held l = (q : List ℕ) → count_of l.self q ≡ count_of l.initial.self q - times_in_lines q (take l.held-index l.lines)

-- The sides so far, then those among the bindings that are left.
use Rattle.std.proofs.Common.{◌≡◌, ◌++◌, drop}
use Rattle.asa_policy.specs.AccessLists.{sides_among, sides_of}
use Rattle.asa_policy.proofs.access_lists.sides_of.Given as goal

abbrev pub invariant-loop-binding : goal.invariant-loop-binding
invariant-loop-binding l = l.sides ++ sides_among l.bound l.name (drop l.binding-index l.bound) ≡ sides_of l.bound l.name

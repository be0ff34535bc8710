-- what was appended, and what is still to come
use Rattle.std.proofs.Common.{◌≡◌, ◌++◌}
use Rattle.asa_script.proofs.lanes.append.Given as goal

abbrev pub invariant-loop-command : goal.invariant-loop-command
invariant-loop-command l = l.commands ++ l.command-iterator.rest.items ≡ l.initial.commands ++ l.initial.command-iterator.rest.items

use Rattle.std.proofs.Common.{◌≡◌, None}
use Rattle.asa_live.proofs.tests.watch.Given as goal

abbrev pub invariant-loop : goal.invariant-loop
invariant-loop g l = l.reader.opened ≡ None

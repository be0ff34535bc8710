use Rattle.std.proofs.Common.{◌≡◌, ◌+◌, drop}
use Rattle.asa_config.specs.Objects.{without_nat}
use Rattle.asa_config.proofs.objects.without_nat.Given as goal

abbrev pub invariant-loop-i : goal.invariant-loop-i
invariant-loop-i l = without_nat (l.i + 2) (drop l.i l.lines) ≡ without_nat 2 l.lines

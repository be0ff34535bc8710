use Rattle.std.proofs.Common.{◌≡◌, take}
use Rattle.asa_config.proofs.config.copy_bindings.Given as goal

abbrev pub invariant-loop-binding : goal.invariant-loop-binding
invariant-loop-binding l = l.copied.items ≡ take l.binding-index l.bindings

use Rattle.std.proofs.Common.{◌≡◌, take}
use Rattle.asa_ifaces.proofs.ifaces.copy_ifaces.Given as goal

abbrev pub invariant-loop-iface : goal.invariant-loop-iface
invariant-loop-iface l = l.copied.items ≡ take l.iface-index l.ifaces

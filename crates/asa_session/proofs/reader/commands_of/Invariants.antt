-- The commands so far, before those of the packets that are left.
use Rattle.std.proofs.Common.{◌≡◌, ◌+◌, ◌++◌, drop}
use Rattle.asa_session.specs.Sessions.{commands_from}
use Rattle.asa_session.proofs.reader.commands_of.Given as goal

abbrev pub invariant-loop-i : goal.invariant-loop-i
invariant-loop-i l = l.commands ++ commands_from (l.i + 1) (drop l.i l.packets) ≡ commands_from 1 l.packets

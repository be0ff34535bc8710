use Rattle.std.proofs.Common.{◌≡◌, ◌+◌, drop, IsTrue}
use Rattle.asa_ifaces.specs.Blocks.{stated_by, unstated}
use Rattle.asa_ifaces.specs.Interfaces.{has_mask}
use Rattle.asa_ifaces.proofs.iface_block.read_lines.Given as goal

abbrev pub invariant-loop-i : goal.invariant-loop-i
invariant-loop-i l = record {
  value : stated_by l.ifaces (l.i + 2) l.stated (drop l.i l.lines) ≡ stated_by l.ifaces 2 unstated l.lines;
  masks : IsTrue (has_mask l.stated.addr);
}

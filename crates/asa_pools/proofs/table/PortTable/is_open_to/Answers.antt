-- An extended port is open where it is held neither plainly nor to the same end.
use Rattle.std.proofs.Common.{◌&&◌, not, None, ap, ◌∙◌}
use Rattle.std.specs.List.{list_any}
use Rattle.asa_pools.specs.Keys.{same_held}
use Rattle.asa_pools.specs.Pools.{held_of}
use Rattle.asa_pools.proofs.TableLaws.{open_to}
use Rattle.asa_pools.proofs.table.PortTable.is_open_to.Goals as goal

pub returns : goal.returns
returns c =
    c.both.ensures ∙ ap (λ b. b && c.has_no_held-2.result) c.has_no_held.ensures
    ∙ ap (λ b. not (list_any (same_held (held_of c.args.proto c.args.addr c.args.port None)) c.args.self.now.held) && b) c.has_no_held-2.ensures
    ∙ open_to c.args.self.now.held c.args.proto c.args.addr c.args.port c.args.end

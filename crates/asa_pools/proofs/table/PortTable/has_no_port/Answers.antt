-- The key is counted as often as the port is held.
use Rattle.std.proofs.Common.{not, sym, ap, ◌∙◌}
use Rattle.std.specs.List.{list_any}
use Rattle.asa_pools.specs.Keys.{same_port}
use Rattle.asa_pools.specs.Pools.{Ports, is_at}
use Rattle.asa_pools.specs.Table.{held_list}
use Rattle.asa_pools.proofs.CountLaws.{none_counted}
use Rattle.asa_pools.proofs.TableLaws.{held_count}
use Rattle.asa_pools.proofs.table.PortTable.has_no_port.Goals as goal

pub returns : goal.returns
returns c =
    let rows = c.self.inside.tally.rows in
    let at = is_at c.args.proto c.args.addr c.args.port in
    none_counted at (held_list rows) c.times.result
    (c.times.ensures ∙ c.self.invariant.counted.ports (same_port (record { proto = c.args.proto; addr = c.args.addr; port = c.args.port })) ∙ sym (held_count at rows))
    ∙ ap (λ (t : Ports). not (list_any at t.held)) c.self.view_is

-- The key is counted as often as the port is held to this end.
use Rattle.std.proofs.Common.{not, sym, ap, ◌∙◌}
use Rattle.std.specs.List.{list_any}
use Rattle.asa_pools.specs.Keys.{same_held}
use Rattle.asa_pools.specs.Pools.{Ports}
use Rattle.asa_pools.specs.Table.{held_list}
use Rattle.asa_pools.proofs.CountLaws.{none_counted}
use Rattle.asa_pools.proofs.TableLaws.{held_count}
use Rattle.asa_pools.proofs.table.PortTable.has_no_held.Goals as goal

pub returns : goal.returns
returns c =
    let rows = c.self.inside.tally.rows in
    none_counted (same_held c.args.held) (held_list rows) c.times.result (c.times.ensures ∙ sym (held_count (same_held c.args.held) rows))
    ∙ ap (λ (t : Ports). not (list_any (same_held c.args.held) t.held)) c.self.view_is

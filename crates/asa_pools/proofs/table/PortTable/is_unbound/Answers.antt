-- The key is counted as often as the address is bound.
use Rattle.std.proofs.Common.{not, sym, ap, ◌∙◌}
use Rattle.std.specs.Prelude.{◌==◌}
use Rattle.std.specs.List.{list_any}
use Rattle.asa_pools.specs.Pools.{Ports}
use Rattle.asa_pools.specs.Table.{bound_list}
use Rattle.asa_pools.proofs.CountLaws.{none_counted}
use Rattle.asa_pools.proofs.TableLaws.{bound_count}
use Rattle.asa_pools.proofs.table.PortTable.is_unbound.Goals as goal

pub returns : goal.returns
returns c =
    let rows = c.self.inside.tally.rows in
    none_counted (λ b. c.args.addr.0 == b.addr.0) (bound_list rows) c.times.result
    (c.times.ensures ∙ c.self.invariant.counted.addresses (λ a. c.args.addr.0 == a.0) ∙ sym (bound_count (λ b. c.args.addr.0 == b.addr.0) rows))
    ∙ ap (λ (t : Ports). not (list_any (λ b. c.args.addr.0 == b.addr.0) t.bound)) c.self.view_is

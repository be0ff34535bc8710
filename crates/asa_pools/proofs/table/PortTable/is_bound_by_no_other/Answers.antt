-- All bindings of the address are of this input and source where as many are.
use Rattle.std.proofs.Common.{not, ◌||◌, sym, ap, ◌∙◌}
use Rattle.std.specs.Prelude.{◌==◌}
use Rattle.std.specs.List.{list_all}
use Rattle.std.proofs.lemmas.Bool.{and_parts}
use Rattle.asa_pools.specs.Keys.{same_binding}
use Rattle.asa_pools.specs.Pools.{Ports}
use Rattle.asa_pools.specs.Table.{bound_list}
use Rattle.asa_pools.proofs.CountLaws.{all_counted}
use Rattle.asa_pools.proofs.TableLaws.{bound_count}
use Rattle.asa_pools.proofs.table.PortTable.is_bound_by_no_other.Goals as goal

pub returns : goal.returns
returns c =
    let rows = c.self.inside.tally.rows in
    let b = c.args.binding in
    all_counted (λ d. b.addr.0 == d.addr.0) (same_binding b) (λ d e. (and_parts _ _ (and_parts _ _ e).0).0) (bound_list rows) c.times.result c.times-2.result
    (c.times.ensures ∙ c.self.invariant.counted.addresses (λ a. b.addr.0 == a.0) ∙ sym (bound_count (λ d. b.addr.0 == d.addr.0) rows))
    (c.times-2.ensures ∙ sym (bound_count (same_binding b) rows))
    ∙ ap (λ (t : Ports). list_all (λ d. not (b.addr.0 == d.addr.0) || same_binding b d) t.bound) c.self.view_is

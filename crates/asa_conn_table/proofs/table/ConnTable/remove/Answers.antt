-- The connection leaves its slot, and its place is free.
use Rattle.std.proofs.Common.{◌≡◌, None, length, length-set, set, sym, ap, subst, ◌∙◌, arith}
use Rattle.asa_conn_table.specs.Conns.{Table, conn_of, has_id, without}
use Rattle.asa_conn_table.specs.Slots.{AreDistinct, AreFree, in_order}
use Rattle.asa_conn_table.proofs.OrderLaws.{length_removed}
use Rattle.asa_conn_table.proofs.TableLaws.{distinct_without, free_removed, id_found, place_none, place_some, remove_order, without_none}
use Rattle.asa_conn_table.proofs.table.ConnTable.remove.Goals as goal

pub returns-in_err-place-clause-result : goal.returns-in_err-place-clause-result
returns-in_err-place-clause-result c =
    c.from_residual.ensures
    ∙ sym (place_none c.self.inside.shelf.slots c.self.invariant.distinct (has_id c.args.id) c.with_id.result c.with_id.ensures c.in_err-place.was)
    ∙ ap (λ (t : Table). conn_of c.args.id t.conns) c.self.view_is

pub returns-in_err-place-clause-value : goal.returns-in_err-place-clause-value
returns-in_err-place-clause-value c =
    subst (λ (t : Table). t.conns ≡ without c.args.id t.conns) c.self.view_is
    (sym (without_none c.self.inside.shelf.slots c.self.invariant.distinct c.args.id c.with_id.result c.with_id.ensures c.in_err-place.was))

pub push_reserved-requires : goal.push_reserved-requires
push_reserved-requires c =
    let xs = c.self.inside.shelf.slots in
    let s = place_some xs (has_id c.args.id) c.with_id.result c.in_ok-place.place c.with_id.ensures c.in_ok-place.was in
    omega (arith, c.self.invariant.room, c.self.invariant.free.all, length_removed xs c.in_ok-place.place s.0 s.1)

pub invariant_of-self : goal.invariant_of-self
invariant_of-self c =
    let xs = c.self.inside.shelf.slots in
    let p = c.in_ok-place.place in
    let s = place_some xs (has_id c.args.id) c.with_id.result p c.with_id.ensures c.in_ok-place.was in
    record {
      room = omega (arith, c.self.invariant.room, c.push_reserved.ensures.capacity, ap length c.take-conn.ensures.after, length-set xs p None);
      free = subst (λ ys. AreFree ys c.push_reserved.new.self.items) (sym c.take-conn.ensures.after)
          (subst (λ f. AreFree (set xs p None) f) (sym c.push_reserved.ensures.items) (free_removed xs p s.0 c.self.inside.free.items s.1 c.self.invariant.free));
      distinct = subst AreDistinct (sym c.take-conn.ensures.after) (distinct_without xs c.self.invariant.distinct p);
    }

pub returns-clause-result : goal.returns-clause-result
returns-clause-result c =
    let xs = c.self.inside.shelf.slots in
    let s = place_some xs (has_id c.args.id) c.with_id.result c.in_ok-place.place c.with_id.ensures c.in_ok-place.was in
    c.take-conn.ensures.result ∙ s.1
    ∙ sym (id_found xs c.self.invariant.distinct c.args.id c.in_ok-place.place s.0 s.1 s.2)
    ∙ ap (λ (t : Table). conn_of c.args.id t.conns) c.self.view_is

pub returns-clause-value : goal.returns-clause-value
returns-clause-value c =
    let xs = c.self.inside.shelf.slots in
    let s = place_some xs (has_id c.args.id) c.with_id.result c.in_ok-place.place c.with_id.ensures c.in_ok-place.was in
    ap in_order c.take-conn.ensures.after
    ∙ remove_order xs c.self.invariant.distinct c.args.id c.in_ok-place.place s.0 s.1 s.2
    ∙ ap (λ (t : Table). without c.args.id t.conns) c.self.view_is

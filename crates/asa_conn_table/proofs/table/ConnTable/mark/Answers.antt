-- One connection changes, and neither its id nor a key.
use Rattle.std.proofs.Common.{◌≡◌, Some, length, length-set, map, set, sym, ap, subst, refl, ◌∙◌, arith}
use Rattle.std.proofs.lemmas.List.{length-map}
use Rattle.asa_conn_table.specs.Conns.{Table, has_id, marked}
use Rattle.asa_conn_table.specs.Slots.{AreDistinct, AreFree, in_order}
use Rattle.asa_conn_table.proofs.TableLaws.{distinct_changed, free_changed, mark_none, mark_order, place_some}
use Rattle.asa_conn_table.proofs.table.ConnTable.mark.Goals as goal

pub invariant_of-self : goal.invariant_of-self
invariant_of-self c =
    let xs = c.self.inside.shelf.slots in
    let p = c.in-Some.place in
    let s = place_some xs (has_id c.args.id) c.with_id.result p c.with_id.ensures c.in-Some.is in
    let new = marked s.0.id c.args.side c.args.now s.0 in
    let e = c.mark.ensures s.0 s.1 in
    let same : length (in_order (set xs p (Some new))) ≡ length (in_order xs) = ap length (mark_order xs c.self.invariant.distinct c.args.id c.args.side c.args.now p s.0 s.1 s.2) ∙ length-map (in_order xs) (marked c.args.id c.args.side c.args.now) in
    record {
      room = omega (arith, c.self.invariant.room, ap length e, length-set xs p (Some new));
      free = subst (λ ys. AreFree ys c.self.inside.free.items) (sym e) (free_changed xs p s.0 new c.self.inside.free.items s.1 same c.self.invariant.free);
      distinct = subst AreDistinct (sym e) (distinct_changed xs c.self.invariant.distinct p s.0 new s.1 (record { id = refl; forward = refl; reply = refl }));
    }

pub returns-in-Some-clause-value : goal.returns-in-Some-clause-value
returns-in-Some-clause-value c =
    let xs = c.self.inside.shelf.slots in
    let s = place_some xs (has_id c.args.id) c.with_id.result c.in-Some.place c.with_id.ensures c.in-Some.is in
    ap in_order (c.mark.ensures s.0 s.1)
    ∙ mark_order xs c.self.invariant.distinct c.args.id c.args.side c.args.now c.in-Some.place s.0 s.1 s.2
    ∙ ap (λ (t : Table). map (marked c.args.id c.args.side c.args.now) t.conns) c.self.view_is

pub returns-in_default-clause-value : goal.returns-in_default-clause-value
returns-in_default-clause-value c =
    subst (λ (t : Table). t.conns ≡ map (marked c.args.id c.args.side c.args.now) t.conns) c.self.view_is
    (sym (mark_none c.self.inside.shelf.slots c.self.invariant.distinct c.args.id c.args.side c.args.now c.with_id.result c.with_id.ensures c.in_default.is))

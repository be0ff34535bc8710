-- The connection comes into the free place on top, with the highest id.
use Rattle.std.proofs.Common.{◌≡◌, ◌++◌, ◌∷◌, [], Some, length, length-set, sym, ap, subst, ◌∙◌, arith}
use Rattle.std.specs.Option.{option_to_list}
use Rattle.asa_conn_table.specs.Conns.{Table}
use Rattle.asa_conn_table.specs.Slots.{AreDistinct, AreFree, in_order}
use Rattle.asa_conn_table.proofs.TableLaws.{added_order, can_come, distinct_added, free_added, newest_slot}
use Rattle.asa_conn_table.proofs.table.ConnTable.add.Goals as goal

pub put-requires-clause-newest : goal.put-requires-clause-newest
put-requires-clause-newest c =
    let xs = c.self.inside.shelf.slots in
    let top : c.self.inside.free.items ≡ c.pop.new.self.items ++ (c.in-Some.place ∷ []) = c.pop.ensures.items ∙ ap (λ o. c.pop.new.self.items ++ option_to_list o) c.in-Some.is in
    newest_slot xs c.in-Some.place c.args.conn
    (can_come xs c.args.self.now c.in-Some.place c.args.conn c.pop.new.self.items c.self.view_is (subst (AreFree xs) top c.self.invariant.free) c.requires)

pub invariant_of-self : goal.invariant_of-self
invariant_of-self c =
    let xs = c.self.inside.shelf.slots in
    let top : c.self.inside.free.items ≡ c.pop.new.self.items ++ (c.in-Some.place ∷ []) = c.pop.ensures.items ∙ ap (λ o. c.pop.new.self.items ++ option_to_list o) c.in-Some.is in
    let free = subst (AreFree xs) top c.self.invariant.free in
    let can = can_come xs c.args.self.now c.in-Some.place c.args.conn c.pop.new.self.items c.self.view_is free c.requires in
    record {
      room = omega (arith, c.self.invariant.room, c.pop.ensures.capacity, ap length c.put.ensures, length-set xs c.in-Some.place (Some c.args.conn));
      free = subst (λ ys. AreFree ys c.pop.new.self.items) (sym c.put.ensures) (free_added xs c.in-Some.place c.args.conn can c.pop.new.self.items free);
      distinct = subst AreDistinct (sym c.put.ensures) (distinct_added xs c.in-Some.place c.args.conn can c.self.invariant.distinct);
    }

pub returns-in-Some-clause-value : goal.returns-in-Some-clause-value
returns-in-Some-clause-value c =
    let xs = c.self.inside.shelf.slots in
    let top : c.self.inside.free.items ≡ c.pop.new.self.items ++ (c.in-Some.place ∷ []) = c.pop.ensures.items ∙ ap (λ o. c.pop.new.self.items ++ option_to_list o) c.in-Some.is in
    let can = can_come xs c.args.self.now c.in-Some.place c.args.conn c.pop.new.self.items c.self.view_is (subst (AreFree xs) top c.self.invariant.free) c.requires in
    ap in_order c.put.ensures ∙ added_order xs c.in-Some.place c.args.conn can ∙ ap (λ (t : Table). t.conns ++ (c.args.conn ∷ [])) c.self.view_is

-- The connection in the place of a key is the one that holds it.
use Rattle.std.proofs.Common.{sym, ap, ◌∙◌}
use Rattle.asa_conn_table.specs.Conns.{Table, found}
use Rattle.asa_conn_table.proofs.TableLaws.{found_forward, found_none, found_reply, read_slot}
use Rattle.asa_conn_table.proofs.table.ConnTable.find.Goals as goal

pub returns-in-Some : goal.returns-in-Some
returns-in-Some c =
    let xs = c.self.inside.shelf.slots in
    sym (found_forward xs c.self.invariant.distinct c.args.key.now c.with_forward.result c.in-Some.place c.in_ok-get.field-0.now c.with_forward.ensures c.in-Some.is
    (read_slot xs c.in-Some.place c.get.result c.in_ok-get.field-0 c.get.ensures c.in_ok-get.was))
    ∙ ap (λ (t : Table). found c.args.key.now t.conns) c.self.view_is

pub returns-in_err-place : goal.returns-in_err-place
returns-in_err-place c =
    c.from_residual-in_err-place.ensures
    ∙ sym (found_none c.self.inside.shelf.slots c.self.invariant.distinct c.args.key.now c.with_forward.result c.with_reply.result c.with_forward.ensures c.in_default.is c.with_reply.ensures c.in_err-place.was)
    ∙ ap (λ (t : Table). found c.args.key.now t.conns) c.self.view_is

pub returns : goal.returns
returns c =
    let xs = c.self.inside.shelf.slots in
    sym (found_reply xs c.self.invariant.distinct c.args.key.now c.with_forward.result c.with_reply.result c.in_ok-place.place c.in_ok-get-2.field-0.now c.with_forward.ensures c.in_default.is c.with_reply.ensures c.in_ok-place.was
    (read_slot xs c.in_ok-place.place c.get-2.result c.in_ok-get-2.field-0 c.get-2.ensures c.in_ok-get-2.was))
    ∙ ap (λ (t : Table). found c.args.key.now t.conns) c.self.view_is

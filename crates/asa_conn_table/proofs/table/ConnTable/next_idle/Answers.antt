-- The place of the least id that passes has the first connection of the list that passes.
use Rattle.std.proofs.Common.{sym, ap, ◌∙◌}
use Rattle.asa_conn_table.specs.Conns.{Table, is_idle, next_idle}
use Rattle.asa_conn_table.proofs.TableLaws.{least_id, least_none_of, read_slot}
use Rattle.asa_conn_table.proofs.table.ConnTable.next_idle.Goals as goal

pub returns-in_err-place : goal.returns-in_err-place
returns-in_err-place c =
    c.from_residual.ensures
    ∙ sym (least_none_of c.self.inside.shelf.slots c.self.invariant.distinct (is_idle c.args.times c.args.now) c.least.result c.least.ensures c.in_err-place.was)
    ∙ ap (λ (t : Table). next_idle c.args.times c.args.now t.conns) c.self.view_is

pub returns : goal.returns
returns c =
    let xs = c.self.inside.shelf.slots in
    sym (least_id xs c.self.invariant.distinct (is_idle c.args.times c.args.now) c.least.result c.in_ok-place.place c.in_ok-get.field-0.now c.least.ensures c.in_ok-place.was
    (read_slot xs c.in_ok-place.place c.get.result c.in_ok-get.field-0 c.get.ensures c.in_ok-get.was))
    ∙ ap (λ (t : Table). next_idle c.args.times c.args.now t.conns) c.self.view_is

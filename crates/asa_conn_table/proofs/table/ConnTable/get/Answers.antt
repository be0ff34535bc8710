-- The connection in the place of an id is the one with the id.
use Rattle.std.proofs.Common.{sym, ap, ◌∙◌}
use Rattle.std.specs.Option.{option_copied}
use Rattle.asa_conn_table.specs.Conns.{Table, conn_of, has_id}
use Rattle.asa_conn_table.proofs.TableLaws.{id_found, place_none, place_some}
use Rattle.asa_conn_table.proofs.table.ConnTable.get.Goals as goal

pub returns-in_err-place : goal.returns-in_err-place
returns-in_err-place c =
    ap option_copied c.from_residual.ensures
    ∙ sym (place_none c.self.inside.shelf.slots c.self.invariant.distinct (has_id c.args.id) c.with_id.result c.with_id.ensures c.in_err-place.was)
    ∙ ap (λ (t : Table). conn_of c.args.id t.conns) c.self.view_is

pub returns : goal.returns
returns c =
    let xs = c.self.inside.shelf.slots in
    let s = place_some xs (has_id c.args.id) c.with_id.result c.in_ok-place.place c.with_id.ensures c.in_ok-place.was in
    c.get.ensures ∙ s.1
    ∙ sym (id_found xs c.self.invariant.distinct c.args.id c.in_ok-place.place s.0 s.1 s.2)
    ∙ ap (λ (t : Table). conn_of c.args.id t.conns) c.self.view_is

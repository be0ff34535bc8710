-- The highest id decides.
use Rattle.std.proofs.Common.{ap, subst, ◌∙◌}
use Rattle.asa_conn_table.specs.Conns.{Table, is_newest}
use Rattle.asa_conn_table.specs.Slots.{IsLatest}
use Rattle.asa_conn_table.proofs.TableLaws.{newest_none, newest_some}
use Rattle.asa_conn_table.proofs.table.ConnTable.is_newest.Goals as goal

pub returns-in-Some : goal.returns-in-Some
returns-in-Some c =
    newest_some c.self.inside.shelf.slots c.args.id c.in-Some.latest (subst (IsLatest c.self.inside.shelf.slots) c.in-Some.is c.latest.ensures)
    ∙ ap (λ (t : Table). is_newest c.args.id t.conns) c.self.view_is

pub returns-in-None : goal.returns-in-None
returns-in-None c =
    newest_none c.self.inside.shelf.slots c.args.id (subst (IsLatest c.self.inside.shelf.slots) c.in-None.is c.latest.ensures)
    ∙ ap (λ (t : Table). is_newest c.args.id t.conns) c.self.view_is

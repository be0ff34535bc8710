-- The connection with the id, where it lives, leads to the next one.
use Rattle.std.proofs.Common.{nat_lt, subst}
use Rattle.asa_conn_table.specs.Slots.{IsLeast}
use Rattle.std.proofs.lemmas.Bool.{eqb-true}
use Rattle.asa_conn_table.specs.Conns.{has_id}
use Rattle.asa_conn_table.proofs.TableLaws.{place_some}
use Rattle.asa_conn_table.proofs.shelf.Shelf.after.Goals as goal

pub returns-in-Some : goal.returns-in-Some
returns-in-Some c =
    let s = place_some c.args.self.now.slots (has_id c.args.id) c.with_id.result c.in-Some.place c.with_id.ensures c.in-Some.is in
    subst (λ n. IsLeast (λ d. nat_lt n d.id) c.args.self.now.slots c.next.result) (eqb-true s.0.id c.args.id s.2) (c.next.ensures s.0 s.1)

-- Connections in distinct slots are distinct in the list.
use Rattle.std.proofs.Common.{subst, arith}
use Rattle.asa_conn_table.specs.Conns.{IsSound}
use Rattle.asa_conn_table.proofs.TableLaws.{sound_of}
use Rattle.asa_conn_table.proofs.table.ConnTable.len.Goals as goal

pub returns-clause-sound : goal.returns-clause-sound
returns-clause-sound c = subst IsSound c.self.view_is (sound_of c.self.inside.shelf.slots c.self.invariant.distinct _ (omega (arith, c.self.invariant.free.all)))

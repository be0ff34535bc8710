-- A value is held where its key is counted.
use Rattle.std.proofs.Common.{nat_lt, ap, ◌∙◌}
use Rattle.asa_pools.specs.Keys.{same_key}
use Rattle.asa_pools.specs.Tally.{times}
use Rattle.asa_pools.proofs.TableLaws.{counts_held}
use Rattle.asa_pools.proofs.table.PortTable.holds.Goals as goal

pub returns : goal.returns
returns c =
    ap (nat_lt 0) (c.times.ensures ∙ ap (λ k. times (same_key k) c.self.inside.tally.rows) c.key_of.ensures)
    ∙ counts_held c.self.inside c.args.self.now c.self.view_is c.args.m.now c.args.ifc c.args.proto c.args.src

-- A plain value shares a port with none, an extended one with those to other ends.
use Rattle.std.proofs.Common.{not, ◌||◌, sym, ap, ◌∙◌}
use Rattle.std.specs.List.{list_all}
use Rattle.asa_pools.specs.Pools.{is_at, may_share}
use Rattle.asa_pools.proofs.TableLaws.{extended_untaken, plain_untaken}
use Rattle.asa_pools.proofs.table.PortTable.is_port_untaken.Goals as goal

pub returns-in-None : goal.returns-in-None
returns-in-None c =
    c.has_no_port.ensures ∙ plain_untaken c.args.self.now.held c.args.proto c.args.addr c.args.port
    ∙ ap (λ o. list_all (λ h. not (is_at c.args.proto c.args.addr c.args.port h) || may_share o h) c.args.self.now.held) (sym c.in-None.is)

pub returns-in-Some : goal.returns-in-Some
returns-in-Some c =
    c.is_open_to.ensures ∙ extended_untaken c.args.self.now.held c.args.proto c.args.addr c.args.port c.in-Some.end
    ∙ ap (λ o. list_all (λ h. not (is_at c.args.proto c.args.addr c.args.port h) || may_share o h) c.args.self.now.held) (sym c.in-Some.is)

use Rattle.asa_objects_table.proofs.PassLaws.{moved-all}
use Rattle.std.proofs.Common.{rules}
use Rattle.asa_objects_table.proofs.rank.Totals.moved.Goals as goal

pub returns : goal.returns
returns c = moved-all c.args.count c.args.old c.args.new c.args.self c.in_ok-members.members c.in_ok-prefixes.prefixes c.in_ok-addresses.addresses c.in_ok-subnets.subnets c.in_ok-services.services c.of.result
    c.of.ensures (search rules) (search rules) (search rules) (search rules) (search rules)

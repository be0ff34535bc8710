-- What was compiled stands for the lists.
use Rattle.asa_access.proofs.ListLaws.{inbound_is, inbound_reads}
use Rattle.asa_access.proofs.access.Access.build.Goals as goal

pub returns-clause-inbound : goal.returns-clause-inbound
returns-clause-inbound c p egress below =
    inbound_is c.args.lists.now _ p egress
    (record { first = c.in_ok-compiled.ensures.first; covering = c.in_ok-compiled.ensures.covering; inputs = c.in_ok-inputs.ensures; egresses = c.in_ok-egresses.ensures }) below

pub returns-clause-inbound_reads : goal.returns-clause-inbound_reads
returns-clause-inbound_reads c p below =
    inbound_reads c.args.lists.now _ p
    (record { first = c.in_ok-compiled.ensures.first; covering = c.in_ok-compiled.ensures.covering; inputs = c.in_ok-inputs.ensures; egresses = c.in_ok-egresses.ensures }) below

-- What was compiled stands for the cases.
use Rattle.std.proofs.Common.{ap, ◌∙◌}
use Rattle.asa_nat_index.specs.Index.{first_on, covering_on}
use Rattle.asa_nat_index.proofs.IndexLaws.{first_same, covering_same, dest_is, dest_reads, source_is, source_reads}
use Rattle.asa_nat_index.proofs.index.NatIndex.build.Goals as goal

pub returns-clause-destination : goal.returns-clause-destination
returns-clause-destination c p =
    dest_is c.args.cases.now c.in_ok-dests.dests.items p
    (λ k. first_same c.in_ok-dests.dests.items c.deref.result.now k p (c.in_ok-dests.ensures.first p)
    ∙ ap (λ xs. first_on xs k p) c.deref.ensures.value ∙ c.in_ok-dest_entries.ensures.first k p)

pub returns-clause-source : goal.returns-clause-source
returns-clause-source c p egress low =
    source_is c.args.cases.now c.in_ok-sources.sources.items p egress low c.requires.narrow
    (λ k. first_same c.in_ok-sources.sources.items c.deref-2.result.now k p (c.in_ok-sources.ensures.first p)
    ∙ ap (λ xs. first_on xs k p) c.deref-2.ensures.value ∙ c.in_ok-source_entries.ensures.first k p)

pub returns-clause-destination_reads : goal.returns-clause-destination_reads
returns-clause-destination_reads c p =
    dest_reads c.args.cases.now c.in_ok-dests.dests.items p
    (λ k. covering_same c.in_ok-dests.dests.items c.deref.result.now k p (c.in_ok-dests.ensures.covering p)
    ∙ ap (λ xs. covering_on xs k p) c.deref.ensures.value ∙ c.in_ok-dest_entries.ensures.covering k p)

pub returns-clause-source_reads : goal.returns-clause-source_reads
returns-clause-source_reads c p egress low =
    source_reads c.args.cases.now c.in_ok-sources.sources.items p egress low c.requires.narrow
    (λ k. covering_same c.in_ok-sources.sources.items c.deref-2.result.now k p (c.in_ok-sources.ensures.covering p)
    ∙ ap (λ xs. covering_on xs k p) c.deref-2.ensures.value ∙ c.in_ok-source_entries.ensures.covering k p)

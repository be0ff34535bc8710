-- The entries of a case, appended.
use Rattle.std.proofs.Common.{◌≡◌, ◌++◌, sym, ap, ◌∙◌}
use Rattle.std.specs.List.{list_any}
use Rattle.asa_base.specs.Networks.{covers}
use Rattle.asa_nat_index.specs.Entries.{pair_entries}
use Rattle.asa_nat_index.specs.Matches.{lies_in, networks_of}
use Rattle.asa_nat_index.proofs.EntryLaws.{case_first, case_covers, case_longer}
use Rattle.asa_nat_index.proofs.entries.push_case.Goals as goal

pub returns-clause-first : goal.returns-clause-first
returns-clause-first c p =
    case_first c.args.out.now c.push_pairs.new.out c.as_slice-3.result.now c.as_slice-4.result.now c.args.case.now c.args.rank p
    (c.in_ok-push_pairs.ensures ∙ ap (λ v. c.args.out.now ++ pair_entries c.as_slice-3.result.now c.as_slice-4.result.now v c.args.rank) c.service_of.ensures)
    (ap (list_any (λ n. covers n p.src)) c.as_slice-3.ensures ∙ c.in_ok-sources.ensures.holds p.src ∙ ap (lies_in p.src) c.as_slice.ensures)
    (ap (list_any (λ n. covers n p.dst)) c.as_slice-4.ensures ∙ c.in_ok-dests.ensures.holds p.dst ∙ ap (lies_in p.dst) c.as_slice-2.ensures)

pub returns-clause-covering : goal.returns-clause-covering
returns-clause-covering c p =
    case_covers c.args.out.now c.push_pairs.new.out c.as_slice-3.result.now c.as_slice-4.result.now c.args.case.now c.args.rank p
    (c.in_ok-push_pairs.ensures ∙ ap (λ v. c.args.out.now ++ pair_entries c.as_slice-3.result.now c.as_slice-4.result.now v c.args.rank) c.service_of.ensures)
    (c.as_slice-3.ensures ∙ c.in_ok-sources.ensures.value ∙ ap networks_of c.as_slice.ensures)
    (c.as_slice-4.ensures ∙ c.in_ok-dests.ensures.value ∙ ap networks_of c.as_slice-2.ensures)

pub returns-clause-longer : goal.returns-clause-longer
returns-clause-longer c =
    case_longer c.args.out.now c.push_pairs.new.out c.as_slice-3.result.now c.as_slice-4.result.now c.args.case.now c.args.rank
    (c.in_ok-push_pairs.ensures ∙ ap (λ v. c.args.out.now ++ pair_entries c.as_slice-3.result.now c.as_slice-4.result.now v c.args.rank) c.service_of.ensures)
    (c.as_slice-3.ensures ∙ c.in_ok-sources.ensures.value ∙ ap networks_of c.as_slice.ensures)
    (c.as_slice-4.ensures ∙ c.in_ok-dests.ensures.value ∙ ap networks_of c.as_slice-2.ensures)

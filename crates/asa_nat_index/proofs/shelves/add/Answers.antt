-- The list at the place was replaced by one with the entries of the case.
use Rattle.std.proofs.Common.{◌≡◌, refl, sym, ap, ◌∙◌, ◌+◌, length, filter}
use Rattle.asa_pair_trie.specs.Pairs.{covers_both, lesser, first_of}
use Rattle.asa_nat_rules.specs.Pairs.{case_pairs}
use Rattle.asa_nat_index.specs.Entries.{rank_if}
use Rattle.asa_nat_index.specs.Index.{shelf}
use Rattle.asa_nat_index.specs.Matches.{fits, case_covering}
use Rattle.asa_nat_index.proofs.ShelfLaws.{Replaced, shelf_at, added_first, added_covers, added_longer}
use Rattle.asa_nat_index.proofs.shelves.add.Goals as goal

pub returns-clause-first : goal.returns-clause-first
returns-clause-first c k p =
    let at : c.index_mut.result.now ≡ shelf c.widen.new.lists.items c.args.key =
    c.index_mut.ensures.value ∙ sym (shelf_at c.widen.new.lists.items c.args.key c.index_mut.result.now c.in_ok-widen.ensures.there) in
    added_first c.args.lists.now.items c.widen.new.lists.items _ c.args.key c.push_case.new.out c.args.case.now c.args.rank k p
    (record { there = c.in_ok-widen.ensures.there; same = c.in_ok-widen.ensures.same; now = refl })
    (c.in_ok-push_case.ensures.first p ∙ ap (λ es. lesser (first_of es p) (rank_if (fits p c.args.case.now) c.args.rank)) at)

pub returns-clause-covering : goal.returns-clause-covering
returns-clause-covering c k p =
    let at : c.index_mut.result.now ≡ shelf c.widen.new.lists.items c.args.key =
    c.index_mut.ensures.value ∙ sym (shelf_at c.widen.new.lists.items c.args.key c.index_mut.result.now c.in_ok-widen.ensures.there) in
    added_covers c.args.lists.now.items c.widen.new.lists.items _ c.args.key c.push_case.new.out c.args.case.now k p
    (record { there = c.in_ok-widen.ensures.there; same = c.in_ok-widen.ensures.same; now = refl })
    (c.in_ok-push_case.ensures.covering p ∙ ap (λ es. length (filter (covers_both p) es) + case_covering p c.args.case.now) at)

pub returns-clause-longer : goal.returns-clause-longer
returns-clause-longer c k =
    let at : c.index_mut.result.now ≡ shelf c.widen.new.lists.items c.args.key =
    c.index_mut.ensures.value ∙ sym (shelf_at c.widen.new.lists.items c.args.key c.index_mut.result.now c.in_ok-widen.ensures.there) in
    added_longer c.args.lists.now.items c.widen.new.lists.items _ c.args.key c.push_case.new.out c.args.case.now k
    (record { there = c.in_ok-widen.ensures.there; same = c.in_ok-widen.ensures.same; now = refl })
    (c.in_ok-push_case.ensures.longer ∙ ap (λ es. length es + case_pairs c.args.case.now) at)

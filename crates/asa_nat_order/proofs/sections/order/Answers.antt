use Rattle.asa_nat_order.proofs.SectionLaws.{order_all, only_order}
use Rattle.asa_nat_order.proofs.sections.order.Goals as goal

pub returns-clause-order : goal.returns-clause-order
returns-clause-order c = record {
  objects = c.sort_by_rank.new.indexes.items;
  sections = rw (c.in_ok-extend_from_slice-2.ensures.items, c.deref-2.ensures.value, c.in_ok-extend_from_slice.ensures.items, c.deref.ensures.value, c.in_ok-indexes.ensures, c.in_ok-last.ensures);
  all = rw c.in_ok-objects.ensures at c.in_ok-sort_by_rank.ensures.same;
  sorted = c.in_ok-sort_by_rank.ensures.sorted;
}

pub returns-clause-only : goal.returns-clause-only
returns-clause-only c = λ other h. only_order c.args.keys.now other _ h (returns-clause-order c)

pub returns-clause-all : goal.returns-clause-all
returns-clause-all c = order_all c.args.keys.now c.requires.sections _ (returns-clause-order c)

use Rattle.std.proofs.Common.{◌≡◌, All, IfSome, Some, drop, length}
use Rattle.left_right.specs.Sides.{view}
use Rattle.asa_live.specs.Readers.{IsNew}
use Rattle.asa_live.proofs.start.open_readers.Given as goal

abbrev pub invariant-loop : goal.invariant-loop
invariant-loop g l = record {
  knows : view l.copies.desk.place ≡ Some l.front;
  shown : l.copies.desk.shown ≡ l.fn.copies.desk.shown;
  none : drop l.copies.behind l.copies.log.items ≡ drop l.fn.copies.behind l.fn.copies.log.items;
  count : length l.readers.items ≡ l.counter;
  new : All (λ r. IfSome r (IsNew l.front.seen.book)) l.readers.items;
}

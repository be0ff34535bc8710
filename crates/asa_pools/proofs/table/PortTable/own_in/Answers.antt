-- A search from above: each address that is found takes the place of the best so far.
use Rattle.std.specs.Option.{option_or}
use Rattle.std.proofs.Common.{◌≡◌, ◌-◌, Some, sym, subst, ◌∙◌, arith}
use Rattle.std.specs.List.{find, range_with_len}
use Rattle.asa_pools.specs.Pools.{IsBoundBetween, is_own}
use Rattle.asa_pools.proofs.NumberLaws.{best_found, best_stays, or_first}
use Rattle.asa_pools.proofs.table.PortTable.own_in.Goals as goal

pub loop-end-init : goal.loop-end-init
loop-end-init c = record {
  low = omega (arith, c.requires.order);
  high = omega arith;
  same = or_first (find (is_own c.args.self.now c.args.flow.now) (range_with_len c.args.first (c.args.stop - c.args.first)));
}

pub loop-end-preserved : goal.loop-end-preserved
loop-end-preserved c =
    let n = c.in-Some.number in
    let b = subst (IsBoundBetween c.args.self.now c.args.flow.now c.args.first (c.loop-end.end - 1)) c.in-Some.is c.bound_between.ensures in
    record {
      low = omega (arith, c.from-end.ensures, b.0);
      high = omega (arith, c.from-end.ensures, b.1, c.loop-end.invariant.high, c.loop-end-test.true);
      same = subst (λ x. option_or (find (is_own c.args.self.now c.args.flow.now) (range_with_len c.args.first (x - c.args.first))) (Some n)
          ≡ find (is_own c.args.self.now c.args.flow.now) (range_with_len c.args.first (c.args.stop - c.args.first))) (sym c.from-end.ensures)
          (sym (best_found (is_own c.args.self.now c.args.flow.now) c.args.first c.loop-end.end n c.loop-end.best b.0 (omega (arith, b.1, c.loop-end-test.true)) b.2) ∙ c.loop-end.invariant.same);
    }

pub returns-in-None : goal.returns-in-None
returns-in-None c =
    let b = subst (IsBoundBetween c.args.self.now c.args.flow.now c.args.first (c.loop-end.end - 1)) c.in-None.is c.bound_between.ensures in
    sym (best_stays (is_own c.args.self.now c.args.flow.now) c.args.first c.loop-end.end c.loop-end.best (λ i low high. b i low (omega (arith, high))))
    ∙ c.loop-end.invariant.same

pub returns : goal.returns
returns c =
    sym (best_stays (is_own c.args.self.now c.args.flow.now) c.args.first c.loop-end.end c.loop-end.best (λ i low high. absurd (omega (arith, low, high, c.loop-end-test.false))))
    ∙ c.loop-end.invariant.same

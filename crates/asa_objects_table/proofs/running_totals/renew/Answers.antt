use Rattle.std.proofs.Common.{◌≡◌, List, ℕ, Result, Ok, Err, arith, rules, sym, subst}
use Rattle.std.proofs.lemmas.List.{take_all}
use Rattle.asa_objects_table.specs.declared.running_totals.Renewed.{Renewed}
use Rattle.asa_objects_values.specs.declared.faults.ObjectFault.{ObjectFault}
use Rattle.asa_objects_table.specs.RunningTotals.{Renews}
use Rattle.asa_objects_table.specs.Renewals.{IsRenewed}
use Rattle.asa_objects_table.proofs.RenewLaws.{renew-at, renew-start, small-start, overfull-at, not-before}
use Rattle.asa_objects_table.proofs.SumLaws.{run-start, run-step, sums-at}
use Rattle.asa_objects_table.proofs.running_totals.renew.Goals as goal

pub loop-name-init : goal.loop-name-init
loop-name-init c = λ after told. (
  renew-start after c.args.index.now.ranks.entries c.args.index.now.stamp c.new-new.result.entries (search rules),
  small-start c.new-new.result.entries (search rules),
  run-start c.args.values.now.entries after c.args.index.now.ranks.entries c.args.changed.now c.args.told c.args.names.now told c.args.index.now.uses.entries c.args.index.now.stamp c.requires
      c.new-new.result.entries c.new-sums.result.entries (search rules) (search rules),
)

pub returns-in_err-totals : goal.returns-in_err-totals
returns-in_err-totals c = λ after told.
    let same : c.from_residual.result ≡ Err c.in_err-totals.field-0.0 = search rules in
    subst (λ (r : Result Renewed ObjectFault). Renews after c.args.index.now.ranks.entries c.args.index.now.stamp c.args.names.now r) (sym same)
    (overfull-at after c.args.index.now.ranks.entries c.args.index.now.stamp c.args.names.now c.loop-name.name-index c.name-item.result c.name-item.result c.loop-name.new.entries c.loop-name.label c.in_err-totals.field-0.0 (omega arith) (search rules) (c.loop-name.invariant after told).0
    (sums-at c.args.values.now.entries after c.args.index.now.ranks.entries c.args.changed.now c.args.told c.args.names.now told c.loop-name.new.entries c.loop-name.sums.entries c.args.index.now.stamp c.loop-name.name-index c.loop-name.label c.name-item.result (Err c.in_err-totals.field-0.0)
    (c.loop-name.invariant after told).0 (c.loop-name.invariant after told).2 c.in_err-totals.ensures.told c.in_err-totals.ensures.other))

pub loop-name-preserved : goal.loop-name-preserved
loop-name-preserved c = λ after told.
    let more = renew-at after c.args.index.now.ranks.entries told.order c.args.index.now.stamp c.args.names.now c.loop-name.name-index c.name-item.result c.name-item.result c.loop-name.new.entries c.put_rank.new.ranks.entries c.loop-name.label c.in_ok-label.label c.in_ok-totals.totals (omega arith) (search rules) told.laid
    ((c.loop-name.invariant after told).0, (c.loop-name.invariant after told).1)
    (sums-at c.args.values.now.entries after c.args.index.now.ranks.entries c.args.changed.now c.args.told c.args.names.now told c.loop-name.new.entries c.loop-name.sums.entries c.args.index.now.stamp c.loop-name.name-index c.loop-name.label c.name-item.result (Ok c.in_ok-totals.totals)
    (c.loop-name.invariant after told).0 (c.loop-name.invariant after told).2 c.in_ok-totals.ensures.told c.in_ok-totals.ensures.other)
    c.in_ok-put_rank.ensures.ok c.in_ok-label.ensures.ok in (
      more.0,
      more.1,
      run-step c.args.values.now.entries after c.args.index.now.ranks.entries c.args.changed.now c.args.told c.args.names.now told c.loop-name.new.entries c.put_rank.new.ranks.entries c.name-item.result
          (record { label = c.loop-name.label; totals = c.in_ok-totals.totals }) c.loop-name.sums.entries c.pass_on.new.sums.entries
          (not-before after c.args.index.now.ranks.entries told.order c.args.index.now.stamp c.args.names.now c.loop-name.name-index c.name-item.result c.name-item.result c.loop-name.new.entries c.loop-name.label (omega arith) (search rules) told.laid (c.loop-name.invariant after told).0)
          c.in_ok-put_rank.ensures.ok c.in_ok-pass_on.ensures.ok (c.loop-name.invariant after told).2,
    )

pub returns : goal.returns
returns c = λ after told. (
  subst (λ (ns : List (List ℕ)). IsRenewed after c.args.index.now.ranks.entries c.args.index.now.stamp ns c.loop-name.new.entries c.loop-name.label) (take_all c.loop-name.name-index c.args.names.now (omega arith))
      (c.loop-name.invariant after told).0,
  (c.loop-name.invariant after told).1,
)

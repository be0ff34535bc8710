use Rattle.std.proofs.Common.{◌≡◌, ◌≤◌, arith, length, Ok, Err}
use Rattle.asa_main.proofs.FindingLaws.{lists_on, lists_stopped, lists_end}
use Rattle.asa_main.proofs.findings.write_findings.Goals as goal

pub returns-in-Err-clause-writes : goal.returns-in-Err-clause-writes
returns-in-Err-clause-writes g c =
    c.loop-n.invariant.rest _ _ (Err c.in-Err.status)
    (lists_stopped c.args.config.now c.args.config.now.lists c.loop-n.n c.nth_list-list.result.now _ _ _ _ _ _ c.nth_list-list.ensures c.in-Err.ensures.writes)

pub loop-n-preserved : goal.loop-n-preserved
loop-n-preserved g c = record {
  rest = λ given faults r w. c.loop-n.invariant.rest given faults r
      (lists_on c.args.config.now c.args.config.now.lists c.loop-n.n c.nth_list-list.result.now c.loop-n.written c.in-Ok.now
      (g.K.Sink.given c.loop-n.output) (g.K.Sink.given c.write_list.new.output) given (g.K.Sink.faults c.loop-n.output) (g.K.Sink.faults c.write_list.new.output) faults r
      c.nth_list-list.ensures c.in-Ok.ensures.writes c.in-Ok.ensures.later w);
  later = omega (arith, c.loop-n.invariant.later, c.in-Ok.ensures.later);
}

pub returns-clause-writes : goal.returns-clause-writes
returns-clause-writes g c =
    let past : length c.args.config.now.lists ≤ c.loop-n.n = omega (arith, c.loop-n-test.false, c.list_count-count.ensures.value) in
    c.loop-n.invariant.rest (g.K.Sink.given c.loop-n.output) (g.K.Sink.faults c.loop-n.output) (Ok c.loop-n.written)
    (lists_end c.args.config.now c.args.config.now.lists c.loop-n.n c.loop-n.written (g.K.Sink.given c.loop-n.output) (g.K.Sink.faults c.loop-n.output) past)

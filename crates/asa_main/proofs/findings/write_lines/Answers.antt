use Rattle.std.proofs.Common.{◌≡◌, ◌≤◌, arith, length, Ok, Err}
use Rattle.asa_main.proofs.FindingLaws.{lines_on, lines_stopped, lines_end}
use Rattle.asa_main.proofs.findings.write_lines.Goals as goal

pub returns-in-Err-clause-writes : goal.returns-in-Err-clause-writes
returns-in-Err-clause-writes g c =
    c.loop-i.invariant.rest _ _ (Err c.in-Err.status)
    (lines_stopped c.args.name.now c.args.boxes.now c.args.lines.now c.loop-i.i c.index-lines-i.result c.line.result.now _ _ _ _ _ _ c.loop-i-test.true c.index-lines-i.is c.line.ensures
    c.in-Err.ensures.writes)

pub loop-i-preserved : goal.loop-i-preserved
loop-i-preserved g c = record {
  rest = λ given faults r w. c.loop-i.invariant.rest given faults r
      (lines_on c.args.name.now c.args.boxes.now c.args.lines.now c.loop-i.i c.index-lines-i.result c.line.result.now c.loop-i.written c.in-Ok.now
      (g.K.Sink.given c.loop-i.output) (g.K.Sink.given c.write_if_active.new.output) given (g.K.Sink.faults c.loop-i.output) (g.K.Sink.faults c.write_if_active.new.output) faults r
      c.loop-i-test.true c.index-lines-i.is c.line.ensures c.in-Ok.ensures.writes c.in-Ok.ensures.later w);
  later = omega (arith, c.loop-i.invariant.later, c.in-Ok.ensures.later);
}

pub returns-clause-writes : goal.returns-clause-writes
returns-clause-writes g c =
    let past : length c.args.lines.now ≤ c.loop-i.i = omega (arith, c.loop-i-test.false) in
    c.loop-i.invariant.rest (g.K.Sink.given c.loop-i.output) (g.K.Sink.faults c.loop-i.output) (Ok c.loop-i.written)
    (lines_end c.args.name.now c.args.boxes.now c.args.lines.now c.loop-i.i c.loop-i.written (g.K.Sink.given c.loop-i.output) (g.K.Sink.faults c.loop-i.output) past)

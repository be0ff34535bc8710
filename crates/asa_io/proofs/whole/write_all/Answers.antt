-- A write goes on where the last one stopped.
use Rattle.std.proofs.Common.{arith}
use Rattle.std.proofs.lemmas.Grind.{common_steps}
use Rattle.std.proofs.lemmas.List.{take_rest}
use Rattle.asa_io.proofs.PartLaws.{appends_more}
use Rattle.asa_io.proofs.whole.write_all.Goals as goal

pub loop-written-preserved : goal.loop-written-preserved
loop-written-preserved g c = record {
  within = grind (arith, common_steps);
  given = appends_more _ _ _ c.args.bytes.now c.loop-written.written c.in-Ok.n c.loop-written.invariant.given (rw take_rest at c.in-Ok.ensures.given);
  later = omega (arith, c.write.ensures.later);
}

-- One source more, with all destinations.
use Rattle.std.proofs.Common.{arith}
use Rattle.std.proofs.lemmas.Grind.{common_steps}
use Rattle.asa_access_entries.specs.Matches.{covering}
use Rattle.asa_access_entries.proofs.MatchLaws.{source_step, pairs_at}
use Rattle.asa_access_entries.proofs.entries.Ranked.push_pairs.Goals as goal

pub loop-source-preserved : goal.loop-source-preserved
loop-source-preserved c = record {
  first = λ p. grind (arith, common_steps, source_step, c.loop-source.invariant.first p, c.in_ok-push_dests.ensures.first p);
  covering = λ p. pairs_at (covering p.dst c.args.dests.now) p.src c.args.sources.now c.loop-source.source-index c.source-item.result _ _ _ c.loop-source-test.true c.source-item.is
      (c.in_ok-push_dests.ensures.covering p) (c.loop-source.invariant.covering p);
  longer = let a = c.in_ok-push_dests.ensures.longer in let b = c.loop-source.invariant.longer in grind (arith, a, b);
}

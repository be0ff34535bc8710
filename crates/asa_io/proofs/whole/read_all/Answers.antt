-- What the last call says of the bytes that it found is said of the bytes at the start.
use Rattle.std.proofs.Common.{◌++◌, take, arith, ◌∙◌}
use Rattle.std.proofs.lemmas.Grind.{common_steps}
use Rattle.asa_io.proofs.PartLaws.{consumes_more, exceeds_more}
use Rattle.asa_io.proofs.whole.read_all.Goals as goal

pub returns-in_err-n-clause-too_long : goal.returns-in_err-n-clause-too_long
returns-in_err-n-clause-too_long g c =
    λ h. exceeds_more _ _ _ c.loop-bytes.bytes.items c.args.limit c.len.result
    (c.len.ensures ∙ c.loop-bytes.bytes.ok.0) (omega (arith, c.len.ensures))
    c.loop-bytes.invariant.taken
    (c.read_within.ensures.too_long (grind arith))

pub returns-in_err-append-clause-memory : goal.returns-in_err-append-clause-memory
returns-in_err-append-clause-memory g c =
    λ h. (c.loop-bytes.bytes.items ++ take c.in_ok-n.n c.read_within.new.piece, grind (arith, common_steps), consumes_more _ _ _ _ _ c.loop-bytes.invariant.taken c.in_ok-n.ensures.given)

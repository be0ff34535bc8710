-- the place is the first that ends the run
use Rattle.std.proofs.Common.{◌==◌, sym, arith, rules}
use Rattle.std.proofs.lemmas.List.Sums.{position_or_len_is}
use Rattle.asa_text.proofs.runs.before_byte.Goals as goal

pub returns-then-b-stop-clause-value : goal.returns-then-b-stop-clause-value
returns-then-b-stop-clause-value c =
    sym (position_or_len_is (λ b. b == c.args.stop) c.args.bytes.now c.loop-i.i 0 (omega arith) c.loop-i.invariant (λ _. search rules))

pub returns-clause-value : goal.returns-clause-value
returns-clause-value c =
    sym (position_or_len_is (λ b. b == c.args.stop) c.args.bytes.now _ 0 (omega arith) (λ k h. c.loop-i.invariant k (omega arith)) (λ h. absurd (omega arith)))

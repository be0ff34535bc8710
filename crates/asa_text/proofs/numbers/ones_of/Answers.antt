-- the search over the counts, one count on
use Rattle.std.proofs.Common.{◌≡◌, ◌==◌, ◌+◌, ◌-◌, false, eq-eqb, sym, ◌∙◌, arith}
use Rattle.std.proofs.lemmas.Bool.Decides.{nat_tests}
use Rattle.asa_text.specs.Numbers.{mask_bits}
use Rattle.asa_text.proofs.NumberLaws.{find_here, find_on}
use Rattle.asa_text.proofs.numbers.ones_of.Goals as goal

pub returns-then-mask_bits-bits-clause-value : goal.returns-then-mask_bits-bits-clause-value
returns-then-mask_bits-bits-clause-value c =
    let ones = c.loop-ones.ones in
    sym (find_here (λ n. mask_bits n == c.args.bits) ones (33 - ones) (omega arith) (eq-eqb _ _ (sym c.mask_bits.ensures ∙ c.if-mask_bits-bits.true))) ∙ c.loop-ones.invariant

pub loop-ones-preserved : goal.loop-ones-preserved
loop-ones-preserved c =
    let ones = c.loop-ones.ones in
    let other : (mask_bits ones == c.args.bits) ≡ false = grind (arith, nat_tests) in
    sym (find_on (λ n. mask_bits n == c.args.bits) ones (33 - ones) (33 - (ones + 1)) (omega arith) other) ∙ c.loop-ones.invariant

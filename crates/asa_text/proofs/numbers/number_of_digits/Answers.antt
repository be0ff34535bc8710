-- a number that is too large already only grows
use Rattle.std.proofs.Common.{◌+◌, arith, take_all, ap, ◌∙◌}
use Rattle.std.specs.Str.Parse.{digits_value}
use Rattle.asa_text.proofs.NumberLaws.{value_more, value_le}
use Rattle.asa_text.proofs.numbers.number_of_digits.Goals as goal

pub returns-in-None : goal.returns-in-None
returns-in-None c =
    let word = c.args.word.now in
    let i = c.loop-b.b-index in
    λ small. c.in-None.ensures (omega (arith, value_more word i (omega arith), value_le word (i + 1), c.loop-b.invariant))

pub returns : goal.returns
returns c =
    let all = c.loop-b.invariant.1 ∙ ap (digits_value 10) (take_all c.loop-b.b-index c.args.word.now (omega arith)) in
    (omega (arith, all, c.loop-b.invariant), all)

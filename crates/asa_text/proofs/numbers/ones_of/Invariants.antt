-- no count so far was that of the mask
use Rattle.std.proofs.Common.{◌≡◌, ◌==◌, ◌-◌}
use Rattle.std.specs.List.{find, range_with_len}
use Rattle.asa_text.specs.Numbers.{mask_bits, ones_of}
use Rattle.asa_text.proofs.numbers.ones_of.Given as goal

abbrev pub invariant-loop-ones : goal.invariant-loop-ones
invariant-loop-ones l =
    find (λ ones. mask_bits ones == l.bits) (range_with_len l.ones (33 - l.ones)) ≡ ones_of l.bits

-- All ports but one are some.
use Rattle.std.proofs.Common.{◌≡◌, ℕ, ◌++◌, Ok, arith}
use Rattle.std.proofs.lemmas.Bool.Decides.{nat_tests}
use Rattle.asa_text.specs.Words.{Left}
use Rattle.asa_base.specs.Readers.{some_ports, ports_below, ports_above}

pub some_but : (column p : ℕ) (left : Left) → some_ports column (ports_below p ++ ports_above p) left ≡ Ok (ports_below p ++ ports_above p, left)
some_but column p left = grind (arith, nat_tests)

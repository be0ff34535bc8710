-- Ports that no pool gives.
use Rattle.std.specs.Prelude.{ℕ, Bool}
use Rattle.asa_text.specs.declared.numbers.Addr.{Addr}

-- a test over protocol, address and port
abbrev pub Test : Type 0
Test = ℕ → Addr → ℕ → Bool

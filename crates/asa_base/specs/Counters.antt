-- A counter's next value: one more, but for the last value of its type, at which it stands still.
use Rattle.std.specs.Prelude.{ℕ, ◌+◌, ◌-◌, ◌^◌, min}

abbrev pub tick : ℕ → ℕ
tick n = min (n + 1) (2 ^ 64 - 1)

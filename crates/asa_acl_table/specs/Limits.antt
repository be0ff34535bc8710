-- How many prefix pairs a refusal tells.
use Rattle.std.specs.Prelude.{ℕ, ◌^◌, ◌-◌, min}

-- a number as far as it fits 64 bits
abbrev pub capped : ℕ → ℕ
capped n = min n (2 ^ 64 - 1)

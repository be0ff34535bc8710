-- Counts that stand still at the last value of their type.
use Rattle.std.specs.Prelude.{ℕ, ◌+◌, ◌-◌, ◌^◌, ◌≤◌, min}

-- the count is greater than before, or stands at the last value; it didn't fall
pub record Rose (before now : ℕ) : Type 0 where
  pub rose : min (before + 1) (2 ^ 64 - 1) ≤ now
  pub never_falls : before ≤ now

-- Counts of failures. A counter that is full stands still at its type's last value.
use Rattle.std.specs.Prelude.{◌≡◌, ℕ, ◌+◌, ◌-◌, ◌^◌, ◌≤◌, min, Result, MatchResult, OnErr}

-- a counter's value after one more
abbrev pub one_more : ℕ → ℕ
one_more n = min (n + 1) (2 ^ 64 - 1)

-- the count rose: it is greater than before, or stands at a counter's last value
abbrev pub Rose : ℕ → ℕ → Type 0
Rose before now = one_more before ≤ now

-- an error came only where the count of faults rose
abbrev pub HasCause : {T E : Type 0} → Result T E → ℕ → ℕ → Type 0
HasCause result before now = OnErr result (Rose before now)

-- a count of the calls that fail, after this call
abbrev pub Counts : {T E : Type 0} → Result T E → ℕ → ℕ → Type 0
Counts result before now = MatchResult result (λ _. now ≡ before) (λ _. now ≡ one_more before)

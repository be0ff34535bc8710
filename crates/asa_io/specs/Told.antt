-- What a read to the end does to the bytes that a source tells as still to come. Of a source that tells none, nothing is said.
use Rattle.std.specs.Prelude.{◌≡◌, ℕ, ◌+◌, ◌≤◌, ◌<◌, ◌↔◌, List, [], length, drop, Option, Some, IfSome}
use Rattle.std.specs.Io.KnownBytes.{Consumes}

-- a read gives no byte exactly where none is left
abbrev pub EndsExactly : Option (List ℕ) → ℕ → Type 0
EndsExactly left n = IfSome left (λ bytes. (n ≡ 0) ↔ (bytes ≡ []))

-- these bytes are all that were left, and now none is
abbrev pub TakesAll : Option (List ℕ) → Option (List ℕ) → List ℕ → Type 0
TakesAll old new taken = IfSome old (λ bytes. (taken ≡ bytes) × (new ≡ Some []))

-- some of the first bytes were taken, at most so many
abbrev pub TakesAtMost : ℕ → Option (List ℕ) → Option (List ℕ) → Type 0
TakesAtMost most old new = (taken : List ℕ) × (length taken ≤ most) × Consumes old new taken

-- more bytes were left than the limit, and those up to one past it were taken
abbrev pub Exceeds : ℕ → Option (List ℕ) → Option (List ℕ) → Type 0
Exceeds limit old new = IfSome old (λ bytes. (limit < length bytes) × (new ≡ Some (drop (limit + 1) bytes)))

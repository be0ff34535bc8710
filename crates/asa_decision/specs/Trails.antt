-- The tests of a decision as a plain list, cut after the first drop, and what is lawful of the steps that were taken.
use Rattle.std.specs.Prelude.{◌≡◌, ℕ, Bool, true, false, List, [], ◌∷◌, ◌++◌, map, Result, Ok, Err}
use Rattle.std.specs.List.{list_any}
use Rattle.asa_flow.specs.declared.outcomes.Decision.{Decision}
use Rattle.asa_flow.specs.declared.outcomes.DropReason.{DropReason}
use Rattle.asa_flow.specs.declared.outcomes.Phase.{Phase}
use Rattle.asa_flow.specs.declared.outcomes.Phase.TheVariants as phase
use Rattle.asa_flow.specs.declared.outcomes.Detail.{Detail}
use Rattle.asa_flow.specs.declared.outcomes.Detail.TheVariants as detail
use Rattle.asa_flow.specs.declared.outcomes.Step.{Step}
use Rattle.asa_decision.specs.Steps.{Found}

-- a test: its phase, and what it finds
abbrev pub Test : Type 0
Test = Phase × Found

-- a trail that holds just the step FLOW-LOOKUP, which found no connection
abbrev pub IsBegun : List Step → Type 0
IsBegun steps = steps ≡ record { phase = phase.FlowLookup; detail = detail.None } ∷ []

-- a step that drops the packet
abbrev pub dropped : Phase → DropReason → Step
dropped at why = record { phase = at; detail = detail.Dropped why }

-- the step of a test, before those of the later tests: a drop is the last
abbrev pub step : Phase → Found → List Step → List Step
step at (Ok what) more = record { phase = at; detail = what } ∷ more
step at (Err why) more = dropped at why ∷ []

-- the steps of tests, up to the first drop
abbrev pub steps : List Test → List Step
steps [] = []
steps (t ∷ ts) = step t.0 t.1 (steps ts)

-- what comes of a test, and else of the later ones
abbrev pub unless : Found → Result Decision DropReason → Result Decision DropReason
unless (Ok _) end = end
unless (Err why) end = Err why

-- what comes of tests: the first drop, or the end where none drops
abbrev pub outcome : List Test → Result Decision DropReason → Result Decision DropReason
outcome [] end = end
outcome (t ∷ ts) end = unless t.1 (outcome ts end)

-- the detail that was found, where there is one
abbrev pub told : Found → Detail
told (Ok what) = what
told (Err why) = detail.None

-- a call noted what a test found
abbrev pub Checks : Phase → Found → Result (Unit {0}) DropReason → List Step → List Step → Type 0
Checks at found (Ok _) old new = (found ≡ Ok (told found)) × (new ≡ old ++ record { phase = at; detail = told found } ∷ [])
Checks at found (Err why) old new = (found ≡ Err why) × (new ≡ old ++ dropped at why ∷ [])

-- a call took the steps of tests and answered what comes of them
pub record Takes (ts : List Test) (end result : Result Decision DropReason) (old new : List Step) : Type 0 where
  pub outcome : result ≡ outcome ts end
  pub steps : new ≡ old ++ steps ts

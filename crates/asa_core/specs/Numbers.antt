-- How the serial run numbers its connections.
use Rattle.std.specs.Prelude.{◌≡◌, ◌+◌}
use Rattle.asa_core.specs.declared.history.Answer.{Answer}
use Rattle.asa_core.specs.declared.history.Answer.TheVariants as answer
use Rattle.asa_core.specs.declared.history.Given.{Given}

-- an opened connection has the number of entries before its own, plus 1, as its id: so each one that is answered is added
abbrev pub IsNumbered : Given → Type 0
IsNumbered g = of_answer g.answer
  where
    of_answer : Answer → Type 0
    of_answer (answer.Opened id _ _ _ _) = id ≡ g.number + 1
    of_answer (answer.Dropped _ _) = Unit {0}

-- The runs of a word between two bytes of one kind, and the four runs of an address.
use Rattle.std.specs.Prelude.{ℕ, ◌==◌, List, [], ◌∷◌}
use Rattle.std.specs.List.{slice_split}
use Rattle.asa_text.specs.declared.numbers.Runs.{Runs}

-- the runs of a word between the bytes that are `stop`
abbrev pub runs_between : ℕ → List ℕ → List (List ℕ)
runs_between stop word = slice_split (λ b. b == stop) word

-- the runs as a list
abbrev pub runs_of : Runs → List (List ℕ)
runs_of r = r.first.now ∷ r.second.now ∷ r.third.now ∷ r.fourth.now ∷ []

-- The one list of entries and the word that holds its length: what the word's rule keeps, and what a step on it tells.
use Rattle.std.specs.Prelude.{ℕ, ◌≡◌, true, List, [], ◌∷◌, ◌++◌, length}
use Rattle.logbook.specs.Pages.{Cell, Step, View, Book, Named}

-- the first of the two words is the length of the list, and the second stays 0
abbrev pub IsKept : {D : Type 0} → List Cell → List D → Type 0
IsKept cells log = cells ≡ (length log, true) ∷ (0, true) ∷ []

-- the first word of this book
abbrev pub head_of : Book → Named
head_of b = record { tracked = true; key = 0; book = b }

-- where the word was as long as expected, the entry was added to all that had been seen
abbrev pub Adds : {D : Type 0} → Step D → View D ℕ → ℕ → View D ℕ → Type 0
Adds s v found w = found ≡ s.old → w.0 ≡ v.0 ++ s.ask ∷ []

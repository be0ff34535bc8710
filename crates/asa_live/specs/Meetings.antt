-- What each answer of a meeting says: of what the reader had seen, the writer's history, what the reader has seen afterwards, and its two counts.
use Rattle.std.specs.Prelude.{ℕ, ◌≡◌, ◌<◌, List, length}
use mathlib.Core.List.{IsPrefix}
use Rattle.asa_live.specs.Counts.{Rose}
use Rattle.asa_live.specs.declared.meetings.Meeting.{Meeting}
use Rattle.asa_live.specs.declared.meetings.Meeting.TheVariants.{Within, Ahead, Away}

abbrev pub Tells : {D : Type 0} → List D → List D → List D → ℕ → ℕ → Meeting → Type 0
Tells seen history now before after Within = IsPrefix seen history × (now ≡ history)
Tells seen history now before after (Ahead reader writer) =
    (reader ≡ length seen) × (writer ≡ length history) × (writer < reader) × IsPrefix history seen × (now ≡ seen)
Tells seen history now before after Away = Rose before after × IsPrefix seen now × IsPrefix history now

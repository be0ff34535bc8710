-- What a reader's phase stands for: the opened state, the count of the times that the copy was not given, and what it knows of the list.
use Rattle.std.specs.Prelude.{ℕ, Option, Some, None}
use Rattle.left_right.specs.Sides.{view}
use Rattle.asa_live.specs.declared.front.Front.{Front}
use Rattle.asa_live.specs.declared.reader.Phase.{Phase}
use Rattle.asa_live.specs.declared.reader.Phase.TheVariants.{Out, In}

module _ {M S E L : Type 0} where
  abbrev pub opened_of : Phase M S E L → Option S
  opened_of (Out door) = None
  opened_of (In given) = Some given.reading.part.value.state

  abbrev pub aways_of : Phase M S E L → ℕ
  aways_of (Out door) = door.aways
  aways_of (In given) = given.aways

  abbrev pub known_of : Phase M S E L → Option (Front E L)
  known_of (Out door) = view door.seat.place
  known_of (In given) = view given.reading.place

-- The members of a name change.
use Rattle.std.specs.Prelude.{◌≡◌, ℕ, not, true, false, List, ◌++◌, Option, Some, None, Result, Ok, Err, is_some}
use Rattle.std.specs.List.{AllByRecursion, filter, list_any}
use Rattle.asa_objects_values.specs.declared.faults.ObjectFault.{ObjectFault}
use Rattle.asa_objects_values.specs.declared.faults.ObjectFault.TheVariants as fault
use Rattle.asa_objects_lines.specs.declared.statement.Item.{Item}
use Rattle.asa_objects_values.specs.Tables.{Entry, Table, entry_of, reaches, refers_to, with_entry, refs_in}
use Rattle.asa_objects_values.specs.Definition.{are_small}
use Rattle.asa_objects_values.specs.Drafts.{changed, changed_entry}
use Rattle.asa_objects_table.specs.Ranks.{Ranks, Uses, rank_of, has_name, users_of}
use Rattle.asa_objects_table.specs.Users.{AreUsed, AreUnused, unused_in}

-- what is kept of the users of names stays
abbrev pub SameUsers : Uses → Uses → Type 0
SameUsers old new = (q u : List ℕ) → has_name (users_of new q) u ≡ has_name (users_of old q) u

-- each of the names has a rank
abbrev pub AreRanked : Ranks → List (List ℕ) → Type 0
AreRanked ranks names = AllByRecursion (λ q. is_some (rank_of ranks q) ≡ true) names

-- a name came to refer to some names, then it no longer refers to others
abbrev pub UsersMove : Uses → Uses → List ℕ → List (List ℕ) → List (List ℕ) → Type 0
UsersMove old new name refs freed = (mid : Uses) × AreUsed old mid name (unused_in old refs name) × AreUnused mid new name freed

-- a name refers to exactly these
abbrev pub RefersTo : Uses → List ℕ → List (List ℕ) → Type 0
RefersTo uses name refs = (c : List ℕ) → has_name (users_of uses c) name ≡ has_name refs c

-- the table after a change of the members of a name, which stands for this
abbrev pub changed_in : Table → List ℕ → List Item → List Item → Option Entry → Table
changed_in t name gone added None = t
changed_in t name gone added (Some entry) = with_entry t name (changed_entry entry gone added)

-- the table after a change of the members of a name
abbrev pub changed_at : Table → List ℕ → List Item → List Item → Table
changed_at t name gone added = changed_in t name gone added (entry_of t name)

-- those of some names that none of these members refers to
abbrev pub freed_among : List Item → List (List ℕ) → List (List ℕ)
freed_among items names = filter (λ c. not (list_any (refers_to c) items)) names

-- the names that members refer to which go, unless one that stays or comes refers to them
abbrev pub freed_by : List Item → List Item → List Item → List (List ℕ)
freed_by former gone added = freed_among (changed former gone added) (refs_in gone)

-- the names that members refer to which come or go
abbrev pub moving : List Item → List Item → List (List ℕ)
moving gone added = refs_in added ++ refs_in gone

-- what a change of a name's value may answer, where the table would become this
abbrev pub Replaces : Table → Table → Table → Result (Unit {0}) ObjectFault → Type 0
Replaces old new changed (Ok _) = new ≡ changed
Replaces old new changed (Err fault.TooMany) = (are_small changed ≡ false) × (new ≡ old)
Replaces old new changed (Err fault.NoMemory) = new ≡ old
Replaces old new changed (Err _) = ⊥

-- the name that a new member refers to is there and doesn't lead back
abbrev pub Fits : Table → List ℕ → Option (List ℕ) → Type 0
Fits t name None = Unit {0}
Fits t name (Some c) = (is_some (entry_of t c) ≡ true) × (reaches t c name ≡ false)

-- What a call answers and what it did, against the step that its definition makes.
use Rattle.std.specs.Prelude.{◌≡◌, ℕ, List, Result, Ok, Err}
use Rattle.asa_text.specs.declared.lines.Line.{Line}
use Rattle.asa_text.specs.declared.readers.LineFault.{LineFault}
use Rattle.asa_text.specs.Words.{Left, line_left}
use Rattle.asa_text.specs.Readers.{Read}
use Rattle.asa_ifaces.specs.declared.iface.IfaceFault.{IfaceFault}
use Rattle.asa_ifaces.specs.declared.iface.IfaceFault.TheVariants as fault

-- what was read, without what is left of the line
abbrev pub value_read : {X : Type 0} → Read X → Result X LineFault
value_read (Ok read) = Ok read.0
value_read (Err f) = Err f

-- what a reader gives of a whole line's bytes
abbrev pub of_text : {X : Type 0} → (Left → Read X) → List ℕ → Result X LineFault
of_text reader text = value_read (reader (line_left text))

-- what a reader gives of a whole line
abbrev pub of_line : {X : Type 0} → (Left → Read X) → Line → Result X LineFault
of_line reader line = of_text reader line.text

-- what was read of line n of a block, counted from 1
abbrev pub at_line : {X : Type 0} → ℕ → Result X LineFault → Result X IfaceFault
at_line n (Ok x) = Ok x
at_line n (Err f) = Err (fault.Line n f)

-- go on with what is there so far; a refusal ends it
abbrev pub and_then : {X Y E : Type 0} → Result X E → (X → Result Y E) → Result Y E
and_then (Ok x) more = more x
and_then (Err refusal) more = Err refusal

-- what a change did to a value, where it takes no memory: the value is the step's, or the refusal is and the value is as it was
abbrev pub Changes : {X E : Type 0} → Result (Unit {0}) E → X → X → Result X E → Type 0
Changes (Ok _) old new step = step ≡ Ok new
Changes (Err refusal) old new step = (step ≡ Err refusal) × (new ≡ old)

-- the same of a change that may want memory, which leaves the value as it was too
abbrev pub Makes : {X : Type 0} → Result (Unit {0}) IfaceFault → X → X → Result X IfaceFault → Type 0
Makes (Ok _) old new step = step ≡ Ok new
Makes (Err fault.NoMemory) old new step = new ≡ old
Makes (Err (fault.Line n f)) old new step = (step ≡ Err (fault.Line n f)) × (new ≡ old)
Makes (Err (fault.NameTaken n)) old new step = (step ≡ Err (fault.NameTaken n)) × (new ≡ old)
Makes (Err fault.NoSuchLine) old new step = (step ≡ Err fault.NoSuchLine) × (new ≡ old)
Makes (Err fault.TooMany) old new step = (step ≡ Err fault.TooMany) × (new ≡ old)

-- How a block is judged: each test gives what it found or the refusal, and the first refusal in order is the answer.
use Rattle.std.specs.Prelude.{◌≡◌, ℕ, List, [], ◌∷◌, Result, Ok, Err}
use Rattle.asa_text.specs.declared.lines.Line.{Line}
use Rattle.asa_text.specs.declared.blocks.Block.{Block}
pub use Rattle.asa_text.specs.Blocks.{inner_lines, top_text}
use Rattle.asa_text.specs.declared.readers.LineFault.{LineFault}
use Rattle.asa_text.specs.declared.readers.LineFault.TheVariants as word
use Rattle.asa_text.specs.Words.{Left, line_left}
use Rattle.asa_text.specs.Readers.{Read, column_at}
use Rattle.asa_config_edit.specs.declared.fault.EditFault.{EditFault}
use Rattle.asa_config_edit.specs.declared.fault.EditFault.TheVariants.{Bad, Unsupported, Unknown, NoSuchInterface}
use Rattle.asa_config_edit.specs.declared.fault.EditRefusal.{EditRefusal}
use Rattle.asa_config_edit.specs.declared.fault.EditRefusal.TheVariants.{At, NoMemory}

-- what a test gives
abbrev pub Judged : Type 0 → Type 0
Judged X = Result X EditRefusal

infixl 10 ◌>>=◌
-- go on with what was found so far; a refusal ends it
abbrev pub ◌>>=◌ : {X Y : Type 0} → Judged X → (X → Judged Y) → Judged Y
(Ok x) >>= more = more x
(Err refusal) >>= more = Err refusal

-- a line of the block, counted from 1, is refused
abbrev pub refused : {X : Type 0} → ℕ → EditFault → Judged X
refused line fault = Err (At line fault)

-- the refusal of a line whose reader names a fault
abbrev pub line_refusal : ℕ → LineFault → EditRefusal
line_refusal line (word.Bad column) = At line (Bad column)
line_refusal line (word.Unsupported column) = At line (Unsupported column)
line_refusal line (word.Unknown column) = At line (Unknown column)
line_refusal line (word.NoSuchInterface column) = At line (NoSuchInterface column)
line_refusal line word.NoMemory = NoMemory

-- what a reader gave of a line of the block
abbrev pub of_line : {X : Type 0} → ℕ → Read X → Judged X
of_line line (Ok read) = Ok read.0
of_line line (Err fault) = Err (line_refusal line fault)

-- what a reader gives of the top line
abbrev pub top_read : {X : Type 0} → Block → (Left → Read X) → Judged X
top_read b reader = of_line 1 (reader (line_left (top_text b)))

-- the block has no indented line; one is Bad at its first word
abbrev pub alone : Block → Judged (Unit {0})
alone b = of_lines (inner_lines b)
  where
    of_lines : List Line → Judged (Unit {0})
    of_lines [] = Ok tt
    of_lines (l ∷ _) = refused 2 (Bad (column_at (line_left l.text)))

-- what a change did to the value: a refusal and want of memory leave it as it was
abbrev pub Makes : {X : Type 0} → Result (Unit {0}) EditRefusal → X → X → Judged X → Type 0
Makes (Ok _) old new s = s ≡ Ok new
Makes (Err NoMemory) old new s = new ≡ old
Makes (Err (At line fault)) old new s = (s ≡ Err (At line fault)) × (new ≡ old)

-- what a call that leaves the value and gives a further one answered; want of memory may come at any time
abbrev pub Gives : {X : Type 0} → Judged X → Judged X → Type 0
Gives (Ok x) s = s ≡ Ok x
Gives (Err NoMemory) s = Unit {0}
Gives (Err (At line fault)) s = s ≡ Err (At line fault)

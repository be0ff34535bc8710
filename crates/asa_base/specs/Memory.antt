-- Readers that may want memory.
use Rattle.std.specs.Prelude.{◌≡◌, Result, Ok, Err}
use Rattle.asa_text.specs.declared.readers.LineFault.{LineFault}
use Rattle.asa_text.specs.declared.readers.LineFault.TheVariants.{Bad, Unsupported, Unknown, NoSuchInterface, NoMemory}
use Rattle.asa_text.specs.Words.{Left}
use Rattle.asa_text.specs.Readers.{Read}

-- the fault is the definition's; of want of memory nothing is said
abbrev pub MayFault : {X : Type 0} → LineFault → Read X → Type 0
MayFault (Bad column) r = r ≡ Err (Bad column)
MayFault (Unsupported column) r = r ≡ Err (Unsupported column)
MayFault (Unknown column) r = r ≡ Err (Unknown column)
MayFault (NoSuchInterface column) r = r ≡ Err (NoSuchInterface column)
MayFault NoMemory r = Unit {0}

-- the contract of a reader that may want memory
abbrev pub MayRead : {X : Type 0} → Result X LineFault → Left → Read X → Type 0
MayRead (Ok x) left r = r ≡ Ok (x, left)
MayRead (Err fault) left r = MayFault fault r

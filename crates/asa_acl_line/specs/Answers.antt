-- The contract of a call that reads a whole line and may want memory.
use Rattle.std.specs.Prelude.{◌≡◌, Result, Ok, Err}
use Rattle.asa_text.specs.declared.readers.LineFault.{LineFault}
use Rattle.asa_text.specs.declared.readers.LineFault.TheVariants.{Bad, Unsupported, Unknown, NoSuchInterface, NoMemory}

-- the answer is the definition's; of want of memory nothing is said
abbrev pub MayParse : {X : Type 0} → Result X LineFault → Result X LineFault → Type 0
MayParse (Ok x) r = r ≡ Ok x
MayParse (Err (Bad column)) r = r ≡ Err (Bad column)
MayParse (Err (Unsupported column)) r = r ≡ Err (Unsupported column)
MayParse (Err (Unknown column)) r = r ≡ Err (Unknown column)
MayParse (Err (NoSuchInterface column)) r = r ≡ Err (NoSuchInterface column)
MayParse (Err NoMemory) r = Unit {0}

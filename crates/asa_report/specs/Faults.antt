-- The texts of refusals, and the lines that tell of them.
use Rattle.std.specs.Prelude.{ℕ, List, ◌++◌, codes, decimal}
use Rattle.asa_config_edit.specs.declared.fault.EditFault.{EditFault}
use Rattle.asa_config_edit.specs.declared.fault.EditFault.TheVariants as fault
use Rattle.asa_session.specs.declared.session.SessionKind.{SessionKind}
use Rattle.asa_session.specs.declared.session.SessionKind.TheVariants as kind

-- why a block is refused: its word, then what the word speaks of
unfoldable pub fault_text : EditFault → List ℕ
fault_text (fault.Bad column) = codes "bad " ++ decimal column
fault_text (fault.Unsupported column) = codes "unsupported " ++ decimal column
fault_text (fault.Unknown column) = codes "unknown " ++ decimal column
fault_text (fault.NoSuchInterface column) = codes "no-such-interface " ++ decimal column
fault_text fault.NameTaken = codes "name-taken"
fault_text fault.NotAfterStartup = codes "not-after-startup"
fault_text fault.NoSuchLine = codes "no-such-line"
fault_text fault.NotBound = codes "not-bound"
fault_text (fault.InUse name) = codes "in-use " ++ name
fault_text fault.Cycle = codes "cycle"
fault_text fault.TooMany = codes "too-many"
fault_text (fault.SizeDiffers real mapped) = codes "size-differs " ++ decimal real ++ codes " " ++ decimal mapped
fault_text fault.SubnetPool = codes "subnet-pool"
fault_text (fault.TooLarge pairs) = codes "too-large " ++ decimal pairs
fault_text fault.NotBuilt = codes "not-built"

-- why a session is refused
unfoldable pub kind_text : SessionKind → List ℕ
kind_text (kind.Startup why) = fault_text why
kind_text kind.Syntax = codes "syntax"
kind_text kind.UnknownInterface = codes "unknown-interface"
kind_text kind.BadNumber = codes "bad-number"
kind_text kind.TooManyLanes = codes "too-many-lanes"
kind_text kind.TooManyLines = codes "too-many-lines"
kind_text kind.NoEnd = codes "no-end"
kind_text kind.NotBuilt = codes "not-built"

-- the line that names a refused line and why it is refused
unfoldable pub refused_line : ℕ → List ℕ → List ℕ
refused_line line reason = codes "asa: line " ++ decimal line ++ codes ": " ++ reason ++ codes "\n"

-- the line after a write that failed, with the number of bytes that were written before it
unfoldable pub write_failed_line : ℕ → List ℕ
write_failed_line count = codes "asa: write failed after " ++ decimal count ++ codes " bytes\n"

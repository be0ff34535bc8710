-- The startup part: its blocks, and the configuration that those make which aren't passed over.
use Rattle.std.specs.Prelude.{ℕ, ◌-◌, Bool, true, false, not, List, [], ◌∷◌, filter, count_by, Option, Some, None, slice_get, Result, Ok, Err, if◌then◌else◌}
use Rattle.asa_text.specs.declared.lines.Line.{Line}
use Rattle.asa_text.specs.declared.blocks.Block.{Block}
use Rattle.asa_config_edit.specs.declared.fault.EditRefusal.{EditRefusal}
use Rattle.asa_config_edit.specs.declared.fault.EditRefusal.TheVariants as refusal
use Rattle.asa_config_edit.specs.declared.class.Class.{Class}
use Rattle.asa_config_edit.specs.declared.class.Class.TheVariants.{Passed}
use Rattle.asa_config_edit.specs.Classes.{class_of}
use Rattle.asa_config.specs.Settings.{Settings}
use Rattle.asa_config.specs.Steps.{step}
use Rattle.asa_session.specs.declared.session.SessionKind.TheVariants.{Startup}
use Rattle.asa_session.specs.declared.session.SessionError.{SessionError}
use Rattle.asa_session.specs.declared.session.SessionError.TheVariants.{At, NoMemory}
use Rattle.asa_session.specs.Refusals.{and_then}

-- the number that line n of a block (counted from 1) has in the text
abbrev pub number_in_text : Block → ℕ → ℕ
number_in_text b n = of_line (slice_get b.lines (n - 1))
  where
    of_line : Option Line → ℕ
    of_line None = 0
    of_line (Some l) = l.number

-- a refusal of a block, at the number that the refused line has in the text
abbrev pub in_text : Block → Result Settings EditRefusal → Result Settings SessionError
in_text b (Ok next) = Ok next
in_text b (Err (refusal.At n why)) = Err (At (number_in_text b n) (Startup why))
in_text b (Err refusal.NoMemory) = Err NoMemory

-- the configuration after one more block that isn't passed over
unfoldable pub startup_step : Settings → Block → Result Settings SessionError
startup_step c b = in_text b (step c b true)

-- blocks of this class aren't passed over
abbrev pub is_kept_class : Class → Bool
is_kept_class Passed = false
is_kept_class _ = true

-- the block isn't passed over
abbrev pub is_kept : Block → Bool
is_kept b = is_kept_class (class_of b)

-- the blocks that aren't passed over
abbrev pub kept_of : List Block → List Block
kept_of bs = filter is_kept bs

-- how many blocks are passed over
abbrev pub passed_count : List Block → ℕ
passed_count bs = count_by (λ b. not (is_kept b)) bs

-- the configuration after these blocks, none of which is passed over
abbrev pub startup_config : Settings → List Block → Result Settings SessionError
startup_config c [] = Ok c
startup_config c (b ∷ bs) = and_then (startup_step c b) (λ next. startup_config next bs)

-- The opening of a text: its startup part, which ends with the line `: end`, and the lines after that one.
use Rattle.std.specs.Prelude.{◌≡◌, ℕ, ◌+◌, List, length, Option, Some, None, Result, Ok, Err}
use Rattle.asa_text.specs.declared.lines.Line.{Line}
use Rattle.asa_text.specs.declared.blocks.Block.{Block}
use Rattle.asa_text.specs.declared.blocks.BlockFault.{BlockFault}
use Rattle.asa_text.specs.Lines.{before_end, after_end}
use Rattle.asa_text.specs.Blocks.{blocks_of}
use Rattle.asa_config.specs.Settings.{Settings, nothing}
use Rattle.asa_session.specs.declared.opening.Opening.{Opening}
use Rattle.asa_session.specs.declared.session.SessionKind.TheVariants.{NoEnd}
use Rattle.asa_session.specs.declared.session.SessionError.{SessionError}
use Rattle.asa_session.specs.declared.session.SessionError.TheVariants.{At, NoMemory}
use Rattle.asa_session.specs.Refusals.{and_then, out_of_form}
use Rattle.asa_session.specs.Startup.{kept_of, passed_count, startup_config}

pub record OpenedText : Type 0 where
  -- the blocks that aren't passed over
  pub kept : List Block
  -- how many blocks are passed over
  pub passed : ℕ
  -- the configuration of the blocks that aren't passed over
  pub config : Settings
  -- the lines after `: end`
  pub rest : List Line

abbrev pub opened_text : List Block → ℕ → Settings → List Line → OpenedText
opened_text kept passed c rest = record { kept = kept; passed = passed; config = c; rest = rest }

-- the blocks of the startup part; an indented line before any of them is out of form
abbrev pub startup_blocks : Result (List Block) BlockFault → Result (List Block) SessionError
startup_blocks (Err early) = out_of_form early.line
startup_blocks (Ok bs) = Ok bs

-- the opening with accepted startup blocks and with the lines after `: end`, where it stands among so many lines
abbrev pub opened : ℕ → List Block → Option (List Line) → Settings → Result OpenedText SessionError
opened count bs None c = Err (At (count + 1) NoEnd)
opened count bs (Some rest) c = Ok (opened_text (kept_of bs) (passed_count bs) c rest)

-- the opening of lines, or the refusal of the least refused line
unfoldable pub opening_of : List Line → Result OpenedText SessionError
opening_of ls = and_then (startup_blocks (blocks_of (before_end ls)))
    (λ bs. and_then (startup_config nothing (kept_of bs)) (opened (length ls) bs (after_end ls)))

-- an answer, with the lines that are left, is the opening, unless memory ran out
abbrev pub Opens : Result Opening SessionError → List Line → Result OpenedText SessionError → Type 0
Opens (Ok o) rest d = d ≡ Ok (opened_text o.startup.kept o.startup.passed o.config rest)
Opens (Err (At line why)) rest d = d ≡ Err (At line why)
Opens (Err NoMemory) rest d = Unit {0}

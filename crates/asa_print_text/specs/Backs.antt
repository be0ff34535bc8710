-- What it means that printed text is read back.
use Rattle.std.specs.Prelude.{◌≡◌, ℕ, List, [], ◌∷◌, ◌++◌, Result, Ok, Err}
use Rattle.asa_text.specs.declared.blocks.Block.{Block}
use Rattle.asa_text.specs.Words.{Left}
use Rattle.asa_text.specs.Readers.{Read}
use Rattle.asa_print_text.specs.Spelling.{left_of}
use Rattle.asa_print_text.specs.Paragraphs.{Paragraph, block_at}

-- a reader that comes to these words takes them, gives x, and leaves the words behind them
abbrev pub Spells : {X : Type 0} → (Left → Read X) → List (List ℕ) → X → Type 0
Spells reader front x = (n end : ℕ) (ws : List (List ℕ)) → (m : ℕ) × (reader (left_of n end (front ++ ws)) ≡ Ok (x, left_of m end ws))

-- what holds of each value that a reader gives
abbrev pub Passes : {X : Type 0} → (X → Type 0) → Read X → Type 0
Passes P (Ok read) = P read.0
Passes P (Err fault) = Unit {0}

-- a step over blocks takes this block, at whatever line it stands, and leads from one state to another
pub record Takes {S E : Type 0} (step : S → Block → Result S E) (c : S) (p : Paragraph) (d : S) : Type 0 where
  pub took : (n : ℕ) → step c (block_at n p) ≡ Ok d

-- the same of blocks after one another
abbrev pub Leads : {S E : Type 0} → (S → Block → Result S E) → S → List Paragraph → S → Type 0
Leads step c [] d = c ≡ d
Leads {S} step c (p ∷ ps) d = (mid : S) × Takes step c p mid × Leads step mid ps d

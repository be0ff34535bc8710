-- What is written: parts, each written before the next is made, and a last part.
use Rattle.std.specs.Prelude.{◌≡◌, ℕ, ◌+◌, ◌≤◌, List, [], ◌∷◌, ◌++◌, length, take, Option, Result, Ok, Err}
use Rattle.std.specs.List.{flat_map}
use Rattle.std.specs.Io.KnownBytes.{Appends}
use Rattle.asa_io.specs.Faults.{Rose}
use Rattle.asa_main.specs.declared.statuses.Status.{Status}
use Rattle.asa_main.specs.declared.statuses.Status.TheVariants as status

pub record Output : Type 0 where
  pub parts : List (List ℕ)
  pub last : List ℕ

-- texts one after another
abbrev pub joined : List (List ℕ) → List ℕ
joined texts = flat_map (λ t. t) texts

-- all that is written
abbrev pub whole : Output → List ℕ
whole o = joined o.parts ++ o.last

-- a text is written after so many bytes: all of it, with the number of bytes then written, or its first bytes, or nothing
abbrev pub WritesText : List ℕ → ℕ → Option (List ℕ) → Option (List ℕ) → ℕ → ℕ → Result ℕ Status → Type 0
WritesText text before given given' faults faults' (Ok written) = (written ≡ before + length text) × Appends given given' text
WritesText text before given given' faults faults' (Err (status.WriteFault written)) =
    Rose faults faults' × (n : ℕ) × (n ≤ length text) × (written ≡ before + n) × Appends given given' (take n text)
WritesText text before given given' faults faults' (Err status.Memory) = given' ≡ given
WritesText text before given given' faults faults' (Err _) = ⊥

-- texts are written one after another: where memory runs out, some of them are
abbrev pub WritesTexts : List (List ℕ) → ℕ → Option (List ℕ) → Option (List ℕ) → ℕ → ℕ → Result ℕ Status → Type 0
WritesTexts texts before given given' faults faults' (Ok written) = (written ≡ before + length (joined texts)) × Appends given given' (joined texts)
WritesTexts texts before given given' faults faults' (Err (status.WriteFault written)) =
    Rose faults faults' × (n : ℕ) × (n ≤ length (joined texts)) × (written ≡ before + n) × Appends given given' (take n (joined texts))
WritesTexts texts before given given' faults faults' (Err status.Memory) = (n : ℕ) × (n ≤ length texts) × Appends given given' (joined (take n texts))
WritesTexts texts before given given' faults faults' (Err _) = ⊥

-- all is written, or its first bytes, or, where memory runs out, some of the parts
abbrev pub Writes : Output → Option (List ℕ) → Option (List ℕ) → ℕ → ℕ → Status → Type 0
Writes o given given' faults faults' status.Done = Appends given given' (whole o)
Writes o given given' faults faults' (status.WriteFault written) =
    Rose faults faults' × (written ≤ length (whole o)) × Appends given given' (take written (whole o))
Writes o given given' faults faults' status.Memory = (n : ℕ) × Appends given given' (joined (take n o.parts))
Writes o given given' faults faults' _ = ⊥

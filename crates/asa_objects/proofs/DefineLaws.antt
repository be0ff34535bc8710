-- What a block makes of a name that is in the table.
use Rattle.std.proofs.Common.{◌≡◌, ℕ, ◌+◌, ◌<◌, ◌≤◌, Bool, true, false, ◌&&◌, nat_le, if◌then◌else◌, List, [], ◌∷◌, length, Option, None, Some, is_some, IsSomeAnd, Result, Ok, Err, OnOk, refl, sym, ap, subst, ◌∙◌, arith}
use Rattle.std.specs.List.{list_all}
use Rattle.std.proofs.lemmas.Bool.{le-leb, leb-true}
use Rattle.asa_text.specs.declared.blocks.Block.{Block}
use Rattle.asa_objects_lines.specs.declared.kinds.BlockKind.{BlockKind}
use Rattle.asa_objects_lines.specs.declared.statement.Item.{Item}
use Rattle.asa_objects_lines.specs.declared.top.Top.{Top}
use Rattle.asa_objects_values.specs.declared.draft.Change.{Change}
use Rattle.asa_objects_values.specs.declared.faults.ObjectFault.{ObjectFault}
use Rattle.asa_objects_values.specs.declared.faults.ObjectFault.TheVariants as fault
use Rattle.asa_objects_values.specs.Tables.{Entry, Table, entry_of, items_in, items_of, with_entry, services_of_name}
use Rattle.asa_objects_table.specs.Ranks.{IsSound, Ranks, Uses}
use Rattle.asa_objects_table.specs.Changes.{Replaces, changed_at, changed_in}
use Rattle.asa_objects_values.specs.Definition.{Defines, Judges, and_then, are_small, changed_by, lacks_value, limited, missing_column, replaced, stated_by, with_value}
use Rattle.asa_objects.specs.BlockChanges.{after_change, Drafteds, IsRead, Reads}
use Rattle.asa_objects_values.specs.Drafts.{changed}
use Rattle.asa_objects_table.proofs.RankLaws.{kept-members, kept-services}

module _ (t : Table) (b : Block) (top : Top) (items : List Item) (drafted : stated_by t b top ≡ Ok items) where
  to-valued : changed_by t b top ≡ and_then (with_value top (missing_column b) items) (λ valued. replaced t top valued)
  unfolding changed_by
  to-valued = ap (λ r. and_then r (λ xs. and_then (with_value top (missing_column b) xs) (λ valued. replaced t top valued))) drafted

  -- what follows where it is known whether an object lacks a value
  abbrev after : Bool → Result Table ObjectFault
  after lacks = and_then (if lacks then Err (fault.NoValue (missing_column b)) else Ok items) (λ valued. replaced t top valued)

  -- a new object has no value
  pub define-lacks : lacks_value top.block items ≡ true → changed_by t b top ≡ Err (fault.NoValue (missing_column b))
  define-lacks lacks = to-valued ∙ ap after lacks

  to-limited : lacks_value top.block items ≡ false → changed_by t b top ≡ limited (length t) (with_entry t top.name (record { block = top.block; items = items }))
  to-limited lacks = to-valued ∙ ap after lacks

  many : (n : ℕ) → 16384 < n → nat_le n 16384 ≡ false
  many n h = by (nat_le n 16384) (leb-true n 16384)
    where
      by : (x : Bool) → (x ≡ true → n ≤ 16384) → x ≡ false
      by false f = refl
      by true f = let le = f refl in absurd (omega arith)

  -- there are too many names
  pub define-many : lacks_value top.block items ≡ false → 16384 < length t → changed_by t b top ≡ Err fault.TooMany
  define-many lacks h = to-limited lacks
      ∙ ap (λ (x : Bool). if x && are_small (with_entry t top.name (record { block = top.block; items = items })) then Ok (with_entry t top.name (record { block = top.block; items = items })) else Err fault.TooMany) (many (length t) h)

  few : length t ≤ 16384 → changed_by t b top ≡ limited (length t) (with_entry t top.name (record { block = top.block; items = items }))
      → changed_by t b top ≡ (if are_small (with_entry t top.name (record { block = top.block; items = items })) then Ok (with_entry t top.name (record { block = top.block; items = items })) else Err fault.TooMany)
  few h e = e ∙ ap (λ (x : Bool). if x && are_small (with_entry t top.name (record { block = top.block; items = items })) then Ok (with_entry t top.name (record { block = top.block; items = items })) else Err fault.TooMany) (le-leb (length t) 16384 h)

  -- what the replacement of the value answers
  pub define-replaced : (made : Entry) → made ≡ record { block = top.block; items = items } → lacks_value top.block items ≡ false → length t ≤ 16384
      → (new : Table) (result : Result (Unit {0}) ObjectFault) → OnOk result (are_small new ≡ true) → Replaces t new (with_entry t top.name made) result
      → Defines result t new (changed_by t b top)
  define-replaced made is lacks h new (Ok u) small replaces =
      let same : new ≡ with_entry t top.name (record { block = top.block; items = items }) = replaces ∙ ap (with_entry t top.name) is in
      few h (to-limited lacks)
      ∙ ap (λ (x : Bool). if x then Ok (with_entry t top.name (record { block = top.block; items = items })) else Err fault.TooMany) (ap are_small (sym same) ∙ small)
      ∙ ap Ok (sym same)
  define-replaced made is lacks h new (Err fault.TooMany) small replaces = (
    few h (to-limited lacks)
        ∙ ap (λ (x : Bool). if x then Ok (with_entry t top.name (record { block = top.block; items = items })) else Err fault.TooMany) (ap (λ m. are_small (with_entry t top.name m)) (sym is) ∙ replaces.0),
    replaces.1,
  )
  define-replaced made is lacks h new (Err fault.NoMemory) small replaces = replaces
  define-replaced made is lacks h new (Err fault.NameTaken) small replaces = absurd replaces
  define-replaced made is lacks h new (Err (fault.Unknown l c)) small replaces = absurd replaces
  define-replaced made is lacks h new (Err (fault.Bad l c)) small replaces = absurd replaces
  define-replaced made is lacks h new (Err (fault.Unsupported l c)) small replaces = absurd replaces
  define-replaced made is lacks h new (Err (fault.Cycle l)) small replaces = absurd replaces
  define-replaced made is lacks h new (Err (fault.NoSuchMember l)) small replaces = absurd replaces
  define-replaced made is lacks h new (Err (fault.NoValue l)) small replaces = absurd replaces

-- a line is refused
pub define-refused : (t : Table) (b : Block) (top : Top) (f : ObjectFault) → Drafteds t b top (Err f) → Reads t b top (Err f)
unfolding changed_by
define-refused t b top fault.NoMemory h = tt
define-refused t b top fault.TooMany h = ap (λ r. and_then r (λ xs. and_then (with_value top (missing_column b) xs) (λ valued. replaced t top valued))) h
define-refused t b top fault.NameTaken h = ap (λ r. and_then r (λ xs. and_then (with_value top (missing_column b) xs) (λ valued. replaced t top valued))) h
define-refused t b top (fault.Unknown l c) h = ap (λ r. and_then r (λ xs. and_then (with_value top (missing_column b) xs) (λ valued. replaced t top valued))) h
define-refused t b top (fault.Bad l c) h = ap (λ r. and_then r (λ xs. and_then (with_value top (missing_column b) xs) (λ valued. replaced t top valued))) h
define-refused t b top (fault.Unsupported l c) h = ap (λ r. and_then r (λ xs. and_then (with_value top (missing_column b) xs) (λ valued. replaced t top valued))) h
define-refused t b top (fault.Cycle l) h = ap (λ r. and_then r (λ xs. and_then (with_value top (missing_column b) xs) (λ valued. replaced t top valued))) h
define-refused t b top (fault.NoSuchMember l) h = ap (λ r. and_then r (λ xs. and_then (with_value top (missing_column b) xs) (λ valued. replaced t top valued))) h
define-refused t b top (fault.NoValue l) h = ap (λ r. and_then r (λ xs. and_then (with_value top (missing_column b) xs) (λ valued. replaced t top valued))) h

-- and so it is judged
pub judge-refused : (t : Table) (b : Block) (top : Top) (f : ObjectFault) → Drafteds t b top (Err f) → Judges (Err f) (stated_by t b top)
judge-refused t b top fault.NoMemory h = tt
judge-refused t b top fault.TooMany h = h
judge-refused t b top fault.NameTaken h = h
judge-refused t b top (fault.Unknown l c) h = h
judge-refused t b top (fault.Bad l c) h = h
judge-refused t b top (fault.Unsupported l c) h = h
judge-refused t b top (fault.Cycle l) h = h
judge-refused t b top (fault.NoSuchMember l) h = h
judge-refused t b top (fault.NoValue l) h = h

-- and with it the block
pub read-refused : (t : Table) (b : Block) (top : Top) (f : ObjectFault) → Reads t b top (Err f) → Defines (Err f) t t (changed_by t b top)
read-refused t b top fault.NoMemory h = refl
read-refused t b top fault.TooMany h = (h, refl)
read-refused t b top fault.NameTaken h = (h, refl)
read-refused t b top (fault.Unknown l c) h = (h, refl)
read-refused t b top (fault.Bad l c) h = (h, refl)
read-refused t b top (fault.Unsupported l c) h = (h, refl)
read-refused t b top (fault.Cycle l) h = (h, refl)
read-refused t b top (fault.NoSuchMember l) h = (h, refl)
read-refused t b top (fault.NoValue l) h = (h, refl)

abbrev pub made_of : BlockKind → List Item → Entry
made_of kind items = record { block = kind; items = items }

-- a refusal of a table that was like another is a refusal of that
pub refused-of : (t begun after : Table) (s : Result Table ObjectFault) (f : ObjectFault) → Defines (Err f) begun after s → Defines (Err f) t t s
refused-of t begun after s fault.NoMemory h = refl
refused-of t begun after s fault.TooMany h = (h.0, refl)
refused-of t begun after s fault.NameTaken h = (h.0, refl)
refused-of t begun after s (fault.Unknown l c) h = (h.0, refl)
refused-of t begun after s (fault.Bad l c) h = (h.0, refl)
refused-of t begun after s (fault.Unsupported l c) h = (h.0, refl)
refused-of t begun after s (fault.Cycle l) h = (h.0, refl)
refused-of t begun after s (fault.NoSuchMember l) h = (h.0, refl)
refused-of t begun after s (fault.NoValue l) h = (h.0, refl)

-- and leaves the table
pub refused-same : (begun after : Table) (s : Result Table ObjectFault) (f : ObjectFault) → Defines (Err f) begun after s → after ≡ begun
refused-same begun after s fault.NoMemory h = h
refused-same begun after s fault.TooMany h = h.1
refused-same begun after s fault.NameTaken h = h.1
refused-same begun after s (fault.Unknown l c) h = h.1
refused-same begun after s (fault.Bad l c) h = h.1
refused-same begun after s (fault.Unsupported l c) h = h.1
refused-same begun after s (fault.Cycle l) h = h.1
refused-same begun after s (fault.NoSuchMember l) h = h.1
refused-same begun after s (fault.NoValue l) h = h.1

-- a change of a name's members leaves what its block defines
pub taken-is : (t : Table) (name : List ℕ) (kind : BlockKind) (gone added : List Item) → IsSomeAnd (entry_of t name) (λ e. e.block ≡ kind)
    → changed_at t name gone added ≡ with_entry t name (made_of kind (changed (items_of t name) gone added))
taken-is t name kind gone added there = by (entry_of t name) there
  where
    by : (o : Option Entry) → IsSomeAnd o (λ e. e.block ≡ kind) → changed_in t name gone added o ≡ with_entry t name (made_of kind (changed (items_in o) gone added))
    by None h = absurd h
    by (Some e) h = ap (λ b. with_entry t name (made_of b (changed e.items gone added))) h

-- what the change of the members that a block asks for answers
pub read-replaced : (t : Table) (b : Block) (top : Top) (c : Change) → IsRead t b top c → IsSomeAnd (entry_of t top.name) (λ e. e.block ≡ top.block)
    → (new : Table) (result : Result (Unit {0}) ObjectFault) → OnOk result (are_small new ≡ true) → Replaces t new (changed_at t top.name c.gone.keys c.added) result
    → Defines result t new (changed_by t b top)
read-replaced t b top c read there new result small replaces =
    define-replaced t b top (after_change t top.name c) read.members (made_of top.block (after_change t top.name c)) refl read.has read.few new result small
    (subst (λ x. Replaces t new x result) (taken-is t top.name top.block c.gone.keys c.added there) replaces)

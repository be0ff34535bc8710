-- What a block of an object or of a group makes of the table, or why it is refused: line by line, then the missing value of
-- a new object, then the limits.
use Rattle.std.specs.Prelude.{◌≡◌, ℕ, ◌+◌, Bool, not, true, false, ◌&&◌, nat_le, List, [], ◌∷◌, ◌++◌, length, Option, Some, None, Result, Ok, Err, if◌then◌else◌}
use Rattle.std.specs.List.{filter, list_all, list_any}
use Rattle.asa_text.specs.declared.lines.Line.{Line}
use Rattle.asa_text.specs.declared.blocks.Block.{Block}
use Rattle.asa_text.specs.declared.readers.LineFault.{LineFault}
use Rattle.asa_text.specs.declared.readers.LineFault.TheVariants as word
use Rattle.asa_text.specs.Blocks.{inner_lines, top_text}
use Rattle.asa_text.specs.Words.{line_left}
use Rattle.asa_text.specs.Readers.{Read}
use Rattle.asa_objects_lines.specs.declared.kinds.BlockKind.{BlockKind}
use Rattle.asa_objects_lines.specs.declared.kinds.BlockKind.TheVariants as block
use Rattle.asa_objects_lines.specs.declared.statement.Item.{Item}
use Rattle.asa_objects_lines.specs.declared.statement.Item.TheVariants as item
use Rattle.asa_objects_lines.specs.declared.statement.ObjectValue.{ObjectValue}
use Rattle.asa_objects_lines.specs.declared.statement.ObjectValue.TheVariants as value
use Rattle.asa_objects_lines.specs.declared.statement.Statement.{Statement}
use Rattle.asa_objects_lines.specs.declared.statement.Statement.TheVariants as says
use Rattle.asa_objects_lines.specs.declared.top.Top.{Top}
use Rattle.asa_objects_lines.specs.contracts.kinds.BlockKindPartialEq.TheImpl as same_kinds
use Rattle.asa_objects_lines.specs.contracts.statement.ItemPartialEq.TheImpl as same_items
use Rattle.asa_objects_lines.specs.Tops.{top_at}
use Rattle.asa_objects_lines.specs.Groups.{statement_at}
use Rattle.asa_objects_values.specs.declared.faults.ObjectFault.{ObjectFault}
use Rattle.asa_objects_values.specs.declared.faults.ObjectFault.TheVariants as fault
use Rattle.asa_objects_values.specs.Tables.{Entry, Table, entry_of, with_entry, items_of, named, members_of, services_of_name, reaches, known_of}

-- two members are equal
abbrev pub same_item : Item → Item → Bool
same_item = (same_items.ghosts).eq

-- two blocks define the same: a group of ports with another word of ports is something else
abbrev pub same_block : BlockKind → BlockKind → Bool
same_block = (same_kinds.ghosts).eq

-- a fault of a word, in this line of the block
abbrev pub at_line : ℕ → LineFault → ObjectFault
at_line n (word.Bad column) = fault.Bad n column
at_line n (word.Unsupported column) = fault.Unsupported n column
at_line n (word.Unknown column) = fault.Unknown n column
at_line n (word.NoSuchInterface column) = fault.Unknown n column
at_line n word.NoMemory = fault.NoMemory

-- go on where nothing is refused
abbrev pub and_then : {X Y : Type 0} → Result X ObjectFault → (X → Result Y ObjectFault) → Result Y ObjectFault
and_then (Ok x) more = more x
and_then (Err refusal) more = Err refusal

-- an object's value as its one member
abbrev pub item_of_value : ObjectValue → Item
item_of_value (value.Network member) = item.Network member
item_of_value (value.Service service) = item.Service service

-- the member is there
abbrev pub has_item : List Item → Item → Bool
has_item items i = list_any (same_item i) items

-- the member refers to a name that is this name or leads to it
abbrev pub leads_to : Table → List ℕ → Item → Bool
leads_to t name i = of_ref (named i)
  where
    of_ref : Option (List ℕ) → Bool
    of_ref None = false
    of_ref (Some other) = reaches t other name

-- a further member goes to the end; one that is there already isn't added twice
abbrev pub with_item : List Item → Item → List Item
with_item items i = if has_item items i then items else items ++ i ∷ []

-- the members without this one
abbrev pub without_item : List Item → Item → List Item
without_item items i = filter (λ j. not (same_item i j)) items

-- the members of a name after line n of its block, of which the statement is told; lines `nat ..` and `no nat ..` don't change
-- them
abbrev pub stated : Table → List ℕ → ℕ → List Item → Statement → Result (List Item) ObjectFault
stated t name n items (says.Value v) = Ok (item_of_value v ∷ [])
stated t name n items (says.Member i) = if leads_to t name i then Err (fault.Cycle n) else Ok (with_item items i)
stated t name n items (says.Removed i) = if has_item items i then Ok (without_item items i) else Err (fault.NoSuchMember n)
stated t name n items says.Nothing = Ok items
stated t name n items says.Nat = Ok items
stated t name n items says.NoNat = Ok items

-- what a reader gave of line n
abbrev pub read_at : {X : Type 0} → ℕ → Read X → Result X ObjectFault
read_at n (Ok read) = Ok read.0
read_at n (Err f) = Err (at_line n f)

-- the members of a name after line n of its block
abbrev pub after_line : Table → List ℕ → BlockKind → ℕ → List Item → Line → Result (List Item) ObjectFault
after_line t name kind n items l = and_then (read_at n (statement_at (known_of t) kind (line_left l.text))) (λ s. stated t name n items s)

-- the members of a name after the indented lines of its block, of which the first is line n; the name is defined for them
unfoldable pub after_lines : Table → List ℕ → BlockKind → ℕ → List Item → List Line → Result (List Item) ObjectFault
after_lines t name kind n items [] = Ok items
after_lines t name kind n items (l ∷ ls) =
    and_then (after_line t name kind n items l) (λ next. after_lines t name kind (n + 1) next ls)

-- a name's expansion is within the limit
abbrev pub is_small : Table → List ℕ → Bool
is_small t name = nat_le (length (members_of t name)) 65536 && nat_le (length (services_of_name t name)) 65536

-- each name's expansion is within the limit
unfoldable pub are_small : Table → Bool
are_small t = list_all (λ e. is_small t e.0) t

-- a table with so many names is within the limits: on names, and on the members of each name
abbrev pub is_within : ℕ → Table → Bool
is_within names t = nat_le names 16384 && are_small t

-- an object must have a value
abbrev pub lacks_value : BlockKind → List Item → Bool
lacks_value (block.Group _) items = false
lacks_value _ [] = true
lacks_value _ (_ ∷ _) = false

-- this table, where one with so many names is within the limits
abbrev pub limited : ℕ → Table → Result Table ObjectFault
limited names t = if is_within names t then Ok t else Err fault.TooMany

-- the members, where an object has a value; `missing` is the column of a missing word of line 1
abbrev pub with_value : Top → ℕ → List Item → Result (List Item) ObjectFault
with_value top missing items = if lacks_value top.block items then Err (fault.NoValue missing) else Ok items

-- the table in which the name, which is there, has these members, where that is within the limits
abbrev pub replaced : Table → Top → List Item → Result Table ObjectFault
replaced t top items = limited (length t) (with_entry t top.name (record { block = top.block; items = items }))

-- a name that is defined from the first line on
abbrev pub begun : Table → Top → Table
begun t top = with_entry t top.name (record { block = top.block; items = [] })

-- the table in which the first line's name is defined, where the name stands for this already
abbrev pub opened_from : Table → Top → Option Entry → Result Table ObjectFault
opened_from t top None = Ok (begun t top)
opened_from t top (Some entry) = if same_block entry.block top.block then Ok t else Err fault.NameTaken

-- the table in which the first line's name is defined: as it was, or new
abbrev pub opened : Table → Top → Result Table ObjectFault
opened t top = opened_from t top (entry_of t top.name)

-- the column of a missing word of the first line
abbrev pub missing_column : Block → ℕ
missing_column b = length (top_text b) + 1

-- the members that the indented lines of a block give the name, which is defined already
abbrev pub stated_by : Table → Block → Top → Result (List Item) ObjectFault
stated_by t b top = after_lines t top.name top.block 2 (items_of t top.name) (inner_lines b)

-- the table in which the name of the first line is defined already, after the block: faults of its lines come first, then a
-- missing value, then the limits
unfoldable pub changed_by : Table → Block → Top → Result Table ObjectFault
changed_by t b top = and_then (stated_by t b top) (λ items. and_then (with_value top (missing_column b) items) (λ valued. replaced t top valued))

-- the table after the block whose first line is told
abbrev pub defined_by : Table → Block → Top → Result Table ObjectFault
defined_by t b top = and_then (opened t top) (λ begun_. changed_by begun_ b top)

-- the table after a block of an object or of a group
unfoldable pub defined : Table → Block → Result Table ObjectFault
defined t b = and_then (read_at 1 (top_at (line_left (top_text b)))) (λ top. defined_by t b top)

-- the members that the lines of a block give its name, where the first line is told
abbrev pub judged_by : Table → Block → Top → Result (List Item) ObjectFault
judged_by t b top = and_then (opened t top) (λ begun_. stated_by begun_ b top)

-- the members that the lines of a block give its name, or the first fault of a line
unfoldable pub judged : Table → Block → Result (List Item) ObjectFault
judged t b = and_then (read_at 1 (top_at (line_left (top_text b)))) (λ top. judged_by t b top)

-- the line that a fault is of; a missing value, the limits and want of memory come after all lines
abbrev pub line_of : ObjectFault → Option ℕ
line_of fault.NameTaken = Some 1
line_of (fault.Unknown line column) = Some line
line_of (fault.Bad line column) = Some line
line_of (fault.Unsupported line column) = Some line
line_of (fault.Cycle line) = Some line
line_of (fault.NoSuchMember line) = Some line
line_of (fault.NoValue column) = None
line_of fault.TooMany = None
line_of fault.NoMemory = None

-- what judging the lines of a block may answer
abbrev pub Judges : {X : Type 0} → Result (Unit {0}) ObjectFault → Result X ObjectFault → Type 0
Judges {X} (Ok _) s = (x : X) × (s ≡ Ok x)
Judges (Err fault.NoMemory) s = Unit {0}
Judges (Err f) s = s ≡ Err f

-- what a change did to the table: a refusal and want of memory leave it as it was
abbrev pub Defines : {X : Type 0} → Result (Unit {0}) ObjectFault → X → X → Result X ObjectFault → Type 0
Defines (Ok _) old new s = s ≡ Ok new
Defines (Err fault.NoMemory) old new s = new ≡ old
Defines (Err f) old new s = (s ≡ Err f) × (new ≡ old)

-- what reading a line did to a draft of the members: after a fault nothing is said of it
abbrev pub Takes : {X : Type 0} → Result (Unit {0}) ObjectFault → X → Result X ObjectFault → Type 0
Takes (Ok _) new s = s ≡ Ok new
Takes (Err fault.NoMemory) new s = Unit {0}
Takes (Err f) new s = s ≡ Err f

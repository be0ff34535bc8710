-- The block of an interface: `interface HARDWARE`, and indented lines of which each replaces what an earlier one stated.
use Rattle.std.specs.Prelude.{ℕ, ◌+◌, Bool, true, false, not, ◌&&◌, ◌||◌, ◌==◌, nat_lt, List, [], ◌∷◌, ◌++◌, length, codes, Option, Some, None, is_some, Result, Ok, Err, if◌then◌else◌}
use Rattle.std.specs.List.{list_any}
use Rattle.std.specs.Str.{bytes_eq}
use Rattle.asa_text.specs.declared.lines.Line.{Line}
use Rattle.asa_text.specs.declared.blocks.Block.{Block}
use Rattle.asa_text.specs.declared.readers.LineFault.TheVariants.{Bad}
use Rattle.asa_text.specs.Blocks.{top_text, inner_lines}
use Rattle.asa_text.specs.Words.{Left}
use Rattle.asa_text.specs.Readers.{Read, ◌>>=◌, word_at, after_one, next_is, unsupported_next, keyword_at, number_at, address_at, mask_at, end_at}
use Rattle.asa_base.specs.Names.{is_name, name_at}
use Rattle.asa_ifaces.specs.declared.iface.Iface.{Iface}
use Rattle.asa_ifaces.specs.declared.iface.IfaceFault.{IfaceFault}
use Rattle.asa_ifaces.specs.declared.iface.IfaceFault.TheVariants.{NameTaken, TooMany}
use Rattle.asa_ifaces.specs.declared.stated.Stated.{Stated}
use Rattle.asa_ifaces.specs.Interfaces.{Interfaces, number_among}
use Rattle.asa_ifaces.specs.Answers.{of_text, of_line, at_line, and_then}

-- no line of the block has stated anything
abbrev pub unstated : Stated
unstated = record { name = None; level = None; addr = None; shutdown = false }

-- a comma or a parenthesis, which the pairs of interfaces in NAT lines are written with
abbrev pub is_pair_mark : ℕ → Bool
is_pair_mark b = (b == 44) || (b == 40) || (b == 41)

-- a byte of the word is such a mark
abbrev pub has_pair_mark : List ℕ → Bool
has_pair_mark word = list_any is_pair_mark word

-- the word that stands for every interface
abbrev pub is_any : List ℕ → Bool
is_any word = bytes_eq word (codes "any")

-- a name that an interface may have: neither `any` nor one with a comma or a parenthesis
abbrev pub is_interface_name : List ℕ → Bool
is_interface_name n = is_name n && not (is_any n) && not (has_pair_mark n)

-- the name of an interface; another word is Bad
unfoldable pub interface_name_at : Left → Read (List ℕ)
interface_name_at left = word_at left >>= λ (w, rest). if is_interface_name w.word then Ok (w.word, rest) else Err (Bad w.column)

-- nothing more in the line, after which this is stated
unfoldable pub stated_at : Stated → Left → Read Stated
stated_at s left = end_at left >>= λ (_, rest). Ok (s, rest)

-- `nameif N`, after its first word
unfoldable pub nameif_line : Stated → Left → Read Stated
nameif_line s left = do
  (name, left) ← interface_name_at left
  stated_at (record s { name = Some name }) left

-- `security-level L`, after its first word
unfoldable pub level_line : Stated → Left → Read Stated
level_line s left = do
  (level, left) ← number_at 0 100 left
  stated_at (record s { level = Some level }) left

-- `standby A`, which is read and not kept, or nothing
unfoldable pub standby_at : Left → Read (Unit {0})
standby_at left = if next_is (codes "standby") left then (address_at (after_one left) >>= λ (_, rest). Ok (tt, rest)) else Ok (tt, left)

-- an address that the interface gets from elsewhere
abbrev pub is_leased : Left → Bool
is_leased left = next_is (codes "dhcp") left || next_is (codes "pppoe") left

-- `A M [standby A]`; the address may have host bits
unfoldable pub own_address_line : Stated → Left → Read Stated
own_address_line s left = do
  (addr, left) ← address_at left
  (ones, left) ← mask_at left
  (_, left) ← standby_at left
  stated_at (record s { addr = Some (addr, ones) }) left

-- `ip address ..`, after its first two words
unfoldable pub address_line : Stated → Left → Read Stated
address_line s left = if is_leased left then Err (unsupported_next left) else own_address_line s left

-- the next two words are `ip address`
abbrev pub is_ip_address : Left → Bool
is_ip_address left = next_is (codes "ip") left && next_is (codes "address") (after_one left)

-- a line that begins with `no`, after that word: what it names is no longer stated; every other such line is ignored
unfoldable pub no_line : Stated → Left → Read Stated
no_line s left =
    if next_is (codes "nameif") left then stated_at (record s { name = None }) (after_one left)
    else (if next_is (codes "security-level") left then stated_at (record s { level = None }) (after_one left)
    else (if is_ip_address left then stated_at (record s { addr = None }) (after_one (after_one left))
    else (if next_is (codes "shutdown") left then stated_at (record s { shutdown = false }) (after_one left)
    else Ok (s, left))))

-- an indented line, by its first words; a line that begins with none of these is ignored
unfoldable pub inner_line : Stated → Left → Read Stated
inner_line s left =
    if next_is (codes "nameif") left then nameif_line s (after_one left)
    else (if next_is (codes "security-level") left then level_line s (after_one left)
    else (if is_ip_address left then address_line s (after_one (after_one left))
    else (if next_is (codes "shutdown") left then stated_at (record s { shutdown = true }) (after_one left)
    else (if next_is (codes "no") left then no_line s (after_one left)
    else Ok (s, left)))))

-- one of the interfaces has the name that is stated
abbrev pub states_taken : List Iface → Stated → Bool
states_taken ifaces s = of_name s.name
  where
    of_name : Option (List ℕ) → Bool
    of_name None = false
    of_name (Some name) = is_some (number_among ifaces name)

-- a name that an interface has already is NameTaken at the line that states it, also where a later line would replace it
abbrev pub free_name : List Iface → ℕ → Stated → Result Stated IfaceFault
free_name ifaces n s = if states_taken ifaces s then Err (NameTaken n) else Ok s

-- what is stated after line n of the block
unfoldable pub stated_after : List Iface → ℕ → Stated → Line → Result Stated IfaceFault
stated_after ifaces n s l = and_then (at_line n (of_line (inner_line s) l)) (free_name ifaces n)

-- what the indented lines state in order, of which the first is line n of the block
unfoldable pub stated_by : List Iface → ℕ → Stated → List Line → Result Stated IfaceFault
stated_by ifaces n s [] = Ok s
stated_by ifaces n s (l ∷ ls) = and_then (stated_after ifaces n s l) (λ more. stated_by ifaces (n + 1) more ls)

-- the level of a name where no line states it
abbrev pub default_level : List ℕ → ℕ
default_level name = if bytes_eq name (codes "inside") then 100 else 0

-- the level: the stated one, or else that of the name; an interface without a name takes no part, and its level is 0
abbrev pub level_of : Option (List ℕ) → Option ℕ → ℕ
level_of None _ = 0
level_of (Some name) None = default_level name
level_of (Some name) (Some level) = level

-- the interface that a block describes
abbrev pub described : List ℕ → Stated → Iface
described hardware s = record { hardware = hardware; name = s.name; level = level_of s.name s.level; addr = s.addr; shutdown = s.shutdown }

-- one of the interfaces has that hardware name
abbrev pub has_hardware : List Iface → List ℕ → Bool
has_hardware ifaces hardware = list_any (λ i. bytes_eq i.hardware hardware) ifaces

-- `interface HARDWARE`
unfoldable pub hardware_line : Left → Read (List ℕ)
hardware_line left = do
  (_, left) ← keyword_at (codes "interface") left
  (hardware, left) ← name_at left
  (_, left) ← end_at left
  Ok (hardware, left)

-- a hardware name that an interface has already is NameTaken at the top line
abbrev pub free_hardware : List Iface → List ℕ → Result (List ℕ) IfaceFault
free_hardware ifaces hardware = if has_hardware ifaces hardware then Err (NameTaken 1) else Ok hardware

-- the hardware name that the top line of a block states
unfoldable pub hardware_of : List Iface → Block → Result (List ℕ) IfaceFault
hardware_of ifaces b = and_then (at_line 1 (of_text hardware_line (top_text b))) (free_hardware ifaces)

-- the interface that a block describes, which is to be beside these
unfoldable pub interface_of_block : List Iface → Block → Result Iface IfaceFault
interface_of_block ifaces b = and_then (hardware_of ifaces b)
    (λ hardware. and_then (stated_by ifaces 2 unstated (inner_lines b)) (λ s. Ok (described hardware s)))

-- what is configured after an interface has gone to the end
abbrev pub with_interface : Interfaces → Iface → Interfaces
with_interface i iface = record i { ifaces = i.ifaces ++ iface ∷ [] }

-- the same with the limit: the 65th is one too many
unfoldable pub interface_added : Interfaces → Iface → Result Interfaces IfaceFault
interface_added i iface = if nat_lt (length i.ifaces) 64 then Ok (with_interface i iface) else Err TooMany

-- what is configured after an interface block
unfoldable pub interface_step : Interfaces → Block → Result Interfaces IfaceFault
interface_step i b = and_then (interface_of_block i.ifaces b) (interface_added i)

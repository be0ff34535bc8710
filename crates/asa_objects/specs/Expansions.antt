-- What a name stands for, as the calls that list it answer.
use Rattle.std.specs.Prelude.{◌≡◌, ℕ, Bool, true, false, nat_lt, List, length, Option, Some, None, Result, Ok, Err, if◌then◌else◌}
use Rattle.asa_base.specs.declared.range.Member.{Member}
use Rattle.asa_base.specs.declared.boxes.Service.{Service}
use Rattle.asa_objects_lines.specs.declared.kinds.BlockKind.{BlockKind}
use Rattle.asa_objects_lines.specs.declared.kinds.BlockKind.TheVariants as block
use Rattle.asa_objects_lines.specs.declared.kinds.GroupKind.TheVariants as group
use Rattle.asa_objects.specs.declared.expansion.ExpandFault.{ExpandFault}
use Rattle.asa_objects.specs.declared.expansion.ExpandFault.TheVariants as fault
use Rattle.asa_objects_values.specs.Tables.{Entry, Table, entry_of, members_of, services_of_name}

-- a network object or a group of such
abbrev pub has_members : BlockKind → Bool
has_members block.NetObject = true
has_members (block.Group group.Network) = true
has_members _ = false

-- at most 65,536 of them
abbrev pub limited : {X : Type 0} → List X → Result (List X) ExpandFault
limited xs = if nat_lt 65536 (length xs) then Err fault.TooMany else Ok xs

-- the addresses of a name of a network object or group
abbrev pub network_of : Table → List ℕ → Result (List Member) ExpandFault
network_of t name = of_entry (entry_of t name)
  where
    of_entry : Option Entry → Result (List Member) ExpandFault
    of_entry None = Err fault.Unknown
    of_entry (Some e) = if has_members e.block then limited (members_of t name) else Err fault.WrongKind

-- the services of a name of every other kind
abbrev pub service_of : Table → List ℕ → Result (List Service) ExpandFault
service_of t name = of_entry (entry_of t name)
  where
    of_entry : Option Entry → Result (List Service) ExpandFault
    of_entry None = Err fault.Unknown
    of_entry (Some e) = if has_members e.block then Err fault.WrongKind else limited (services_of_name t name)

-- what a call that lists a name answers; want of memory may come at any time
abbrev pub Expands : {X : Type 0} → Result X ExpandFault → Result X ExpandFault → Type 0
Expands (Ok x) s = s ≡ Ok x
Expands (Err fault.NoMemory) s = Unit {0}
Expands (Err f) s = s ≡ Err f

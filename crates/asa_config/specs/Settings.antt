-- A configuration as plain lists.
use Rattle.std.specs.Prelude.{ℕ, ◌+◌, ◌*◌, Bool, ◌&&◌, ◌==◌, nat_lt, List, [], Option, Some, None, if◌then◌else◌}
use Rattle.std.proofs.Math.Bool.{beq}
use Rattle.std.specs.Map.{lookup}
use Rattle.asa_ifaces.specs.Interfaces.{Interfaces}
use Rattle.asa_ifaces.specs.Interfaces as ifaces
use Rattle.asa_acl.specs.Acls.{AccessLines}
use Rattle.asa_objects_values.specs.Tables.{Table}
pub use Rattle.asa_acl_table.specs.Lists.{has_name, list_among}

pub record Settings : Type 0 where
  -- the interfaces, the routes, the times, and what is permitted between interfaces of one level
  pub net : Interfaces
  -- the objects and groups by name
  pub objects : Table
  -- the access lists in order of first definition
  pub lists : List AccessLines
  -- the access groups of interfaces, by rising side: the number of an interface and whether its inbound side, with the name
  -- of the list
  pub bound : List ((ℕ × Bool) × List ℕ)
  -- the name of the list that is bound to the inbound side of every interface
  pub global : Option (List ℕ)

-- nothing is configured
abbrev pub nothing : Settings
nothing = record { net = ifaces.nothing; objects = []; lists = []; bound = []; global = None }

-- the list that has this name
abbrev pub list_named : Settings → List ℕ → Option AccessLines
list_named c name = list_among c.lists name

-- the two sides of interfaces are the same
abbrev pub same_side : ℕ × Bool → ℕ × Bool → Bool
same_side a b = (a.0 == b.0) && beq a.1 b.1

-- the place of a side in their order: interface by interface, inbound before outbound
abbrev pub side_place : ℕ × Bool → ℕ
side_place side = 2 * side.0 + (if side.1 then 0 else 1)

-- one side stands before another
abbrev pub is_side_before : ℕ × Bool → ℕ × Bool → Bool
is_side_before a b = nat_lt (side_place a) (side_place b)

-- the name of the list that is bound to a side of an interface
abbrev pub bound_to : List ((ℕ × Bool) × List ℕ) → ℕ × Bool → Option (List ℕ)
bound_to bound side = lookup (same_side side) bound

-- the list that a binding names, where there is a binding
abbrev pub list_bound : Settings → Option (List ℕ) → Option AccessLines
list_bound c None = None
list_bound c (Some name) = list_named c name

-- the list that is bound to the inbound or the outbound side of an interface
abbrev pub list_on : Settings → ℕ → Bool → Option AccessLines
list_on c ifc inbound = list_bound c (bound_to c.bound (ifc, inbound))

-- the list that is bound to the inbound side of every interface
abbrev pub global_list : Settings → Option AccessLines
global_list c = list_bound c c.global

-- What the lists that are bound at an interface, and the levels, say of a packet.
use Rattle.std.specs.Prelude.{ℕ, Bool, true, false, List, Option, Some, None, if◌then◌else◌}
use Rattle.asa_base.specs.declared.flow.AccessBy.{AccessBy}
use Rattle.asa_base.specs.declared.flow.AccessBy.TheVariants as by
use Rattle.asa_access.specs.declared.verdict.AccessVerdict.{AccessVerdict}
use Rattle.asa_access.specs.declared.verdict.AccessVerdict.TheVariants.{Permit, Deny}

-- a list that is bound: its name, and the first line of it that holds the packet, with whether that line permits
pub record Match : Type 0 where
  pub name : List ℕ
  pub first : Option (ℕ × Bool)

-- what a line says
abbrev pub verdict : Bool → AccessBy → AccessVerdict
verdict true who = Permit who
verdict false who = Deny who

-- what a line of a bound list says
abbrev pub by_line : List ℕ → ℕ → Bool → AccessVerdict
by_line name line permit = verdict permit (by.List name line)

-- without a list, traffic to a higher level is denied and all other is permitted
abbrev pub level_verdict : Bool → AccessVerdict
level_verdict rises = if rises then Deny by.Level else Permit by.Level

-- the global list, where there is one: its first match decides, else the implicit deny
abbrev pub after_own : Option Match → AccessVerdict → AccessVerdict
after_own None otherwise = otherwise
after_own (Some list) otherwise = of_first list.name list.first
  where
    of_first : List ℕ → Option (ℕ × Bool) → AccessVerdict
    of_first name None = Deny by.Implicit
    of_first name (Some line) = verdict line.1 (by.Global name line.0)

-- the inbound side: the first match of the interface's own list decides; then that of the global list; then, where either
-- list is there, the implicit deny; else the levels
abbrev pub inbound_by : Option Match → Option Match → Bool → AccessVerdict
inbound_by None global rises = after_own global (level_verdict rises)
inbound_by (Some own) global rises = of_first own.name own.first
  where
    of_first : List ℕ → Option (ℕ × Bool) → AccessVerdict
    of_first name None = after_own global (Deny by.Implicit)
    of_first name (Some line) = by_line name line.0 line.1

-- the outbound side: without a list everything passes; with one its first match decides, else the implicit deny
abbrev pub outbound_by : Option Match → AccessVerdict
outbound_by None = Permit by.NoList
outbound_by (Some list) = of_first list.name list.first
  where
    of_first : List ℕ → Option (ℕ × Bool) → AccessVerdict
    of_first name None = Deny by.Implicit
    of_first name (Some line) = by_line name line.0 line.1

-- The pool of a dynamic rule: `[ADDRESS or N] [pat-pool N [extended] [flat] [include-reserve]] [interface]`.
use Rattle.std.specs.Prelude.{ℕ, Bool, true, false, ◌||◌, List, codes, Option, Some, None, Ok, if◌then◌else◌}
use Rattle.asa_text.specs.Words.{Left}
use Rattle.asa_text.specs.Readers.{Read, ◌>>=◌, after_one, next_is}
use Rattle.asa_base.specs.Kinds.{Known}
use Rattle.asa_pool_values.specs.declared.pool.PortRule.{PortRule}
use Rattle.asa_pool_values.specs.declared.pool.PortRule.TheVariants as ports
use Rattle.asa_nat_lines.specs.declared.rule.PoolRef.{PoolRef}
use Rattle.asa_nat_lines.specs.declared.rule.PoolRef.TheVariants as pool
use Rattle.asa_nat_lines.specs.declared.rule.MappedRef.{MappedRef}
use Rattle.asa_nat_lines.specs.declared.rule.MappedRef.TheVariants as mapped
use Rattle.asa_nat_lines.specs.declared.pool.PatPart.{PatPart}
use Rattle.asa_nat_lines.specs.Mapped.{network_name_at, address_or_name_at, interface_word_at}

-- the name that stands first in the pool of a manual rule
unfoldable pub first_name_at : Known → Left → Read (Option PoolRef)
first_name_at known left = network_name_at known left >>= λ (name, rest). Ok (Some (pool.Named name), rest)

-- the address or the name that stands first in the pool of an object's rule
unfoldable pub first_of_own_at : Known → Left → Read (Option PoolRef)
first_of_own_at known left = address_or_name_at known left >>= λ (first, rest). Ok (Some first, rest)

-- the pool has nothing before `pat-pool` and `interface`
abbrev pub begins_later : Left → Bool
begins_later left = next_is (codes "pat-pool") left || next_is (codes "interface") left

-- `[ADDRESS or N]`: an address stands in an object's rule alone; where neither `pat-pool` nor `interface` comes next,
-- something has to stand there
unfoldable pub first_at : Known → Bool → Left → Read (Option PoolRef)
first_at known manual left =
    if begins_later left then Ok (None, left)
    else (if manual then first_name_at known left else first_of_own_at known left)

-- an optional word stands there, and what is left after it
abbrev pub after_if : List ℕ → Left → Left
after_if word left = if next_is word left then after_one left else left

-- `include-reserve` means the same with and without `flat` before it
abbrev pub port_rule : Bool → Bool → PortRule
port_rule flat true = ports.FlatReserve
port_rule true false = ports.Flat
port_rule false false = ports.Plain

-- the parts that `flat` and `include-reserve` state
abbrev pub port_rule_at : Left → PortRule
port_rule_at left = port_rule (next_is (codes "flat") left) (next_is (codes "include-reserve") (after_if (codes "flat") left))

-- what is left after them
abbrev pub after_port_rule : Left → Left
after_port_rule left = after_if (codes "include-reserve") (after_if (codes "flat") left)

-- no `pat-pool`
abbrev pub no_pat_pool : PatPart
no_pat_pool = record { name = None; ports = ports.Plain; extended = false }

-- `N [extended] [flat] [include-reserve]` after `pat-pool`
unfoldable pub pat_pool_at : Known → Left → Read PatPart
pat_pool_at known left = network_name_at known left >>= λ (name, rest).
    Ok (
      record { name = Some name; ports = port_rule_at (after_if (codes "extended") rest); extended = next_is (codes "extended") rest },
      after_port_rule (after_if (codes "extended") rest),
    )

-- `[pat-pool N [extended] [flat] [include-reserve]]`
unfoldable pub pat_part_at : Known → Left → Read PatPart
pat_part_at known left = if next_is (codes "pat-pool") left then pat_pool_at known (after_one left) else Ok (no_pat_pool, left)

-- `[interface]`
unfoldable pub last_at : Known → Option ℕ → Left → Read Bool
last_at known mapped_ifc left =
    if next_is (codes "interface") left then (interface_word_at known mapped_ifc left >>= λ (_, rest). Ok (true, rest))
    else Ok (false, left)

-- the pool
unfoldable pub pool_at : Known → Bool → Option ℕ → Left → Read MappedRef
pool_at known manual mapped_ifc left = do
  (first, left) ← first_at known manual left
  (pat, left) ← pat_part_at known left
  (last, left) ← last_at known mapped_ifc left
  Ok (mapped.Pool first pat.name last pat.ports pat.extended, left)

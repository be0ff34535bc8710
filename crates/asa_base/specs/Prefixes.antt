-- A range of addresses as networks, taken greedily: each is the largest aligned block of addresses that begins at the first
-- address not yet covered and doesn't pass the last of the range.
use Rattle.std.specs.Prelude.{ℕ, zero, suc, ◌+◌, ◌-◌, ◌%◌, ◌^◌, Bool, ◌&&◌, ◌==◌, nat_lt, nat_le, List, [], ◌∷◌, length, if◌then◌else◌}
use Rattle.asa_base.specs.Networks.{Network}
use Rattle.asa_base.specs.Members.{member_range}
use Rattle.asa_base.specs.Ranges.{AddressSpan}
use Rattle.asa_base.specs.declared.range.Member.{Member}

-- 2 ^ level addresses begin at a multiple of their number, and end before the end
abbrev pub block_fits : ℕ → ℕ → ℕ → Bool
block_fits level at end = (at % 2 ^ level == 0) && nat_le (at + 2 ^ level) end

-- the greatest level, up to a greatest, at which the block fits
unfoldable pub greatest_level : ℕ → ℕ → ℕ → ℕ
greatest_level zero at end = 0
greatest_level (suc level) at end = if block_fits (suc level) at end then suc level else greatest_level level at end

-- the level of the largest block that begins at an address and ends before the end
abbrev pub level_at : ℕ → ℕ → ℕ
level_at at end = greatest_level 32 at end

-- the network of 2 ^ level addresses
abbrev pub block : ℕ → ℕ → Network
block at level = record { addr = record { 0 = at }; len = 32 - level }

-- the largest blocks, one after another, as far as there are addresses; no more than a number of them
unfoldable pub blocks : ℕ → ℕ → ℕ → List Network
blocks zero at end = []
blocks (suc count) at end = if nat_lt at end then block at (level_at at end) ∷ blocks count (at + 2 ^ level_at at end) end else []

-- the networks of the addresses from one up to an end
unfoldable pub prefixes_between : ℕ → ℕ → List Network
prefixes_between at end = blocks (end - at) at end

-- the networks of a range
unfoldable pub prefixes_of_span : AddressSpan → List Network
prefixes_of_span s = prefixes_between s.first.0 (s.last.0 + 1)

-- how many networks a member has
abbrev pub member_prefix_count : Member → ℕ
member_prefix_count m = length (prefixes_of_span (member_range m))

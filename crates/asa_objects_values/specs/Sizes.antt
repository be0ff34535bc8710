-- How much a network object's or group's member has.
use Rattle.std.specs.Prelude.{ℕ, ◌+◌, ◌-◌, Bool, true, false, cond}
use Rattle.asa_base.specs.declared.range.Member.{Member}
use Rattle.asa_base.specs.declared.range.Member.TheVariants.{Host, Span, Subnet}
use Rattle.asa_base.specs.Members.{member_range}

-- how many addresses a member has
abbrev pub member_address_count : Member → ℕ
member_address_count m = (member_range m).last.0 + 1 - (member_range m).first.0

-- the member is a network
abbrev pub is_subnet : Member → Bool
is_subnet (Host _) = false
is_subnet (Span _) = false
is_subnet (Subnet _) = true

-- how many networks a member is
abbrev pub subnet_count : Member → ℕ
subnet_count m = cond (is_subnet m) 1 0

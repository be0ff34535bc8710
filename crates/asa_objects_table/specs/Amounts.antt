-- How much a name stands for once it is expanded.
use Rattle.std.specs.Prelude.{ℕ}

pub record Amounts : Type 0 where
  -- members that are addresses
  pub members : ℕ
  -- the prefixes of these members
  pub prefixes : ℕ
  -- the addresses of these members, each member counted by itself
  pub addresses : ℕ
  -- those of these members that are networks
  pub subnets : ℕ
  pub services : ℕ

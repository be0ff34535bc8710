-- What holds of every configuration.
use Rattle.std.specs.Prelude.{◌≡◌, ℕ, ◌≤◌, Bool, true, ◌&&◌, nat_lt, List, [], ◌∷◌, length, Option, Some, None, is_some}
use Rattle.std.specs.List.{list_all}
use Rattle.asa_ifaces.specs.Interfaces.{Interfaces}
use Rattle.asa_acl.specs.Acls.{AccessLines}
use Rattle.asa_objects_values.specs.Tables.{Table}
use Rattle.asa_acl_table.specs.Names.{meanings_in, pairs_of_lists}
use Rattle.asa_config.specs.Settings.{list_among, is_side_before}

-- each binding is that of one of n interfaces
abbrev pub all_within : ℕ → List ((ℕ × Bool) × List ℕ) → Bool
all_within n bound = list_all (λ b. nat_lt b.0.0 n) bound

-- the list of each binding is defined
abbrev pub all_defined : List AccessLines → List ((ℕ × Bool) × List ℕ) → Bool
all_defined lists bound = list_all (λ b. is_some (list_among lists b.1)) bound

-- the global list, where one is bound, is defined
abbrev pub is_global_defined : List AccessLines → Option (List ℕ) → Bool
is_global_defined lists None = true
is_global_defined lists (Some name) = is_some (list_among lists name)

-- the sides of bindings rise
abbrev pub sides_rise : List ((ℕ × Bool) × List ℕ) → Bool
sides_rise [] = true
sides_rise (b ∷ bs) = list_all (λ c. is_side_before b.0 c.0) bs && sides_rise bs

-- what holds of the parts of a configuration
pub record IsKept (objects : Table) (net : Interfaces) (lists : List AccessLines) (pairs : ℕ) (bound : List ((ℕ × Bool) × List ℕ)) (global : Option (List ℕ)) : Type 0 where
  -- the pairs are those of the lists, and they are few
  pub counted : pairs ≡ pairs_of_lists (meanings_in objects net.ifaces) lists
  pub few : pairs ≤ 262144
  -- each binding is that of an interface and of a list that are there, and no side has two
  pub within : all_within (length net.ifaces) bound ≡ true
  pub defined : all_defined lists bound ≡ true
  pub rising : sides_rise bound ≡ true
  pub global_defined : is_global_defined lists global ≡ true

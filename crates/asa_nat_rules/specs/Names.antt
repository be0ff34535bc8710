-- The names that a rule uses.
use Rattle.std.specs.Prelude.{ℕ, Bool, ◌||◌, List, [], ◌∷◌, ◌++◌, Option, Some, None}
use Rattle.std.specs.List.{list_any}
use Rattle.std.specs.Str.{bytes_eq}
use Rattle.asa_nat_lines.specs.declared.rule.RealRef.{RealRef}
use Rattle.asa_nat_lines.specs.declared.rule.RealRef.TheVariants as real
use Rattle.asa_nat_lines.specs.declared.rule.PoolRef.{PoolRef}
use Rattle.asa_nat_lines.specs.declared.rule.PoolRef.TheVariants as pool
use Rattle.asa_nat_lines.specs.declared.rule.MappedRef.{MappedRef}
use Rattle.asa_nat_lines.specs.declared.rule.MappedRef.TheVariants as mapped
use Rattle.asa_nat_lines.specs.declared.rule.ServicePart.{ServicePart}
use Rattle.asa_nat_lines.specs.declared.rule.ServicePart.TheVariants as service
use Rattle.asa_nat_lines.specs.declared.rule.RuleFields.{RuleFields}

-- a name, where one stands there
abbrev pub name_if_any : Option (List ℕ) → List (List ℕ)
name_if_any None = []
name_if_any (Some name) = name ∷ []

-- the real name
abbrev pub real_name : RealRef → Option (List ℕ)
real_name real.Any = None
real_name (real.Named name) = Some name

abbrev pub first_name : Option PoolRef → Option (List ℕ)
first_name None = None
first_name (Some (pool.Addr _)) = None
first_name (Some (pool.Named name)) = Some name

-- the mapped name, or the one that stands first in the pool
abbrev pub mapped_name : MappedRef → Option (List ℕ)
mapped_name mapped.Any = None
mapped_name mapped.Interface = None
mapped_name (mapped.Addr _) = None
mapped_name (mapped.Named name) = Some name
mapped_name (mapped.Pool first _ _ _ _) = first_name first

-- the name of `pat-pool`
abbrev pub pat_name : MappedRef → Option (List ℕ)
pat_name (mapped.Pool _ pat_pool _ _ _) = pat_pool
pat_name _ = None

-- the mapped, then the real destination
abbrev pub dest_names : Option (List ℕ × List ℕ) → List (List ℕ)
dest_names None = []
dest_names (Some (to, from)) = to ∷ from ∷ []

-- the network objects and groups that a rule names: real, mapped or first of the pool, `pat-pool`, mapped destination, real
-- destination
unfoldable pub names_of : RuleFields → List (List ℕ)
names_of f = name_if_any (real_name f.real) ++ (name_if_any (mapped_name f.mapped) ++ (name_if_any (pat_name f.mapped) ++ dest_names f.dest))

-- the service objects that a rule names
abbrev pub service_names : ServicePart → List (List ℕ)
service_names service.None = []
service_names (service.Ports _ _ _) = []
service_names (service.Named first second) = first ∷ second ∷ []

-- this name stands there
abbrev pub is_named : List ℕ → Option (List ℕ) → Bool
is_named name None = Bool.false
is_named name (Some other) = bytes_eq name other

-- a rule uses the object or group of this name, of networks or of services
unfoldable pub uses : List ℕ → RuleFields → Bool
uses name f = is_named name (real_name f.real) || is_named name (mapped_name f.mapped) || is_named name (pat_name f.mapped)
    || list_any (bytes_eq name) (dest_names f.dest) || list_any (bytes_eq name) (service_names f.service)

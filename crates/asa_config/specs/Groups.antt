-- Access groups: which list is bound where.
use Rattle.std.specs.Prelude.{ℕ, ◌<◌, Bool, ◌||◌, List, [], ◌∷◌, Option, Some, None, Ok, if◌then◌else◌}
use Rattle.std.specs.List.{list_any}
use Rattle.std.specs.Str.{bytes_eq}
use Rattle.asa_text.specs.declared.blocks.Block.{Block}
use Rattle.asa_config_edit.specs.declared.fault.EditFault.TheVariants.{NotBound}
use Rattle.asa_config_edit.specs.Refusals.{Judged, ◌>>=◌, refused, top_read, alone}
use Rattle.asa_config.specs.declared.places.Place.{Place}
use Rattle.asa_config.specs.declared.places.Place.TheVariants.{Side, Global}
use Rattle.asa_config.specs.declared.places.Binding.{Binding}
use Rattle.asa_config.specs.Settings.{Settings, same_side, is_side_before, bound_to}
use Rattle.asa_config.specs.Grammar.{binding_line, old_binding_line}

-- a list takes the place of the earlier one of that side, or goes before the later sides
abbrev pub with_side : List ((ℕ × Bool) × List ℕ) → ℕ × Bool → List ℕ → List ((ℕ × Bool) × List ℕ)
with_side [] side name = (side, name) ∷ []
with_side (b ∷ bs) side name =
    if same_side side b.0 then (side, name) ∷ bs
    else (if is_side_before side b.0 then (side, name) ∷ b ∷ bs
    else b ∷ with_side bs side name)

-- nothing is bound to that side any more
abbrev pub without_side : List ((ℕ × Bool) × List ℕ) → ℕ × Bool → List ((ℕ × Bool) × List ℕ)
without_side [] side = []
without_side (b ∷ bs) side = if same_side side b.0 then bs else b ∷ without_side bs side

-- a place at one of n interfaces
abbrev pub IsWithin : ℕ → Place → Type 0
IsWithin n (Side ifc inbound) = ifc < n
IsWithin n Global = Unit {0}

-- the configuration after a list is bound to a place
abbrev pub bind : Settings → Place → List ℕ → Settings
bind c (Side ifc inbound) name = record c { bound = with_side c.bound (ifc, inbound) name }
bind c Global name = record c { global = Some name }

-- the configuration after nothing is bound to a place any more
abbrev pub unbind : Settings → Place → Settings
unbind c (Side ifc inbound) = record c { bound = without_side c.bound (ifc, inbound) }
unbind c Global = record c { global = None }

-- the name is there, and it is this one
abbrev pub is_name_there : List ℕ → Option (List ℕ) → Bool
is_name_there name None = Bool.false
is_name_there name (Some other) = bytes_eq name other

-- the list with this name is bound to that place
abbrev pub is_bound_at : Settings → Place → List ℕ → Bool
is_bound_at c (Side ifc inbound) name = is_name_there name (bound_to c.bound (ifc, inbound))
is_bound_at c Global name = is_name_there name c.global

-- one of the bindings is of the list with this name
abbrev pub binds : List ((ℕ × Bool) × List ℕ) → List ℕ → Bool
binds bound name = list_any (λ b. bytes_eq name b.1) bound

-- the list with this name is bound somewhere
abbrev pub is_bound : Settings → List ℕ → Bool
is_bound c name = binds c.bound name || is_name_there name c.global

-- `access-group N ..`; it takes the place of the earlier binding there
unfoldable pub group_step : Settings → Block → Judged Settings
group_step c b = do
  binding ← top_read b (binding_line c)
  _ ← alone b
  Ok (bind c binding.place binding.list)

-- a binding that is there; another is a fault of the line that removes it
abbrev pub known_binding : Settings → Binding → Judged (Unit {0})
known_binding c binding = if is_bound_at c binding.place binding.list then Ok tt else refused 1 NotBound

-- `no access-group N ..`
unfoldable pub no_group_step : Settings → Block → Judged Settings
no_group_step c b = do
  binding ← top_read b (old_binding_line c)
  _ ← known_binding c binding
  _ ← alone b
  Ok (unbind c binding.place)

-- The table: a tally of ports, bindings and what each of them stands for.
use Rattle.std.specs.Prelude.{◌≡◌, ℕ, ◌*◌, ◌≤◌, ◌^◌, Bool, List, [], ◌∷◌, ◌++◌}
use Rattle.std.proofs.Math.ListN.{replicate}
use Rattle.asa_text.specs.declared.numbers.Addr.{Addr}
use Rattle.asa_pools.specs.declared.held.Held.{Held}
use Rattle.asa_pools.specs.declared.held.Binding.{Binding}
use Rattle.asa_pools.specs.declared.key.Port.{Port}
use Rattle.asa_pools.specs.declared.key.Key.{Key}
use Rattle.asa_pools.specs.declared.key.Key.TheVariants as key
use Rattle.asa_pools.specs.declared.tally.Row.{Row}
use Rattle.asa_pools.specs.declared.table.PortTable.TheInside.{Inside}
use Rattle.asa_pools.specs.Keys.{on_address, on_binding, on_held, on_port}
use Rattle.asa_pools.specs.declared.held.Mapped.{Mapped}
use Rattle.asa_pools.specs.declared.held.Mapped.TheVariants as mapped
use Rattle.asa_pools.specs.Pools.{Ports, binding_of, held_of}
use Rattle.asa_pools.specs.Tally.{Tallied, times, total}

-- so many of a key's held port, or of its binding
abbrev pub held_in : Key → ℕ → List Held
held_in (key.Held h) n = replicate n h
held_in (key.Port p) n = []
held_in (key.Address a) n = []
held_in (key.Binding b) n = []

abbrev pub bound_in : Key → ℕ → List Binding
bound_in (key.Held h) n = []
bound_in (key.Port p) n = []
bound_in (key.Address a) n = []
bound_in (key.Binding b) n = replicate n b

-- the held ports, and the bindings, of rows
abbrev pub held_list : List Row → List Held
held_list [] = []
held_list (r ∷ rs) = held_in r.key r.count ++ held_list rs

abbrev pub bound_list : List Row → List Binding
bound_list [] = []
bound_list (r ∷ rs) = bound_in r.key r.count ++ bound_list rs

abbrev pub port_of : Held → Port
port_of h = record { proto = h.proto; addr = h.addr; port = h.port }

-- what callers see of a table
abbrev pub ports_of : Inside → Ports
ports_of s = record { held = held_list s.tally.rows; bound = bound_list s.tally.rows; room = s.capacity }

-- a port is counted with each that holds it, and an address with each of its bindings
pub record AreCounted (rows : List Row) : Type 0 where
  pub ports : (t : Port → Bool) → times (on_port t) rows ≡ times (on_held (λ h. t (port_of h))) rows
  pub addresses : (t : Addr → Bool) → times (on_address t) rows ≡ times (on_binding (λ b. t b.addr)) rows

pub record IsTable (s : Inside) : Type 0 where
  pub room : s.tally.room ≡ 2 * s.capacity
  pub few : s.capacity ≤ 2 ^ 20
  pub used : total s.tally.rows ≡ 2 * s.used
  pub counted : AreCounted s.tally.rows

-- what is counted with a value: the held port, or the binding
abbrev pub key_of : Mapped → ℕ → ℕ → Addr → Key
key_of (mapped.Pat a n to) ifc proto src = key.Held (held_of proto a n to)
key_of (mapped.Bound a) ifc proto src = key.Binding (binding_of a ifc src)

-- what is counted with a value beside: the port, or the address
abbrev pub part_of : Mapped → ℕ → Key
part_of (mapped.Pat a n to) proto = key.Port (record { proto = proto; addr = a; port = n })
part_of (mapped.Bound a) proto = key.Address a

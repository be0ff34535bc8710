-- What the table counts: tests of keys, and their hashes.
use Rattle.std.specs.Prelude.{ℕ, ◌+◌, ◌*◌, ◌%◌, Bool, true, false, ◌&&◌, ◌==◌, nat_le, Option, Some, None}
use Rattle.asa_text.specs.declared.numbers.Addr.{Addr}
use Rattle.asa_pools.specs.declared.held.Held.{Held}
use Rattle.asa_pools.specs.declared.held.Binding.{Binding}
use Rattle.asa_pools.specs.declared.key.Port.{Port}
use Rattle.asa_pools.specs.declared.key.Key.{Key}
use Rattle.asa_pools.specs.declared.key.Key.TheVariants as key
use Rattle.asa_pools.specs.declared.key.Wanted.{Wanted}
use Rattle.asa_pools.specs.declared.key.Wanted.TheVariants as wanted

-- whether two ends are the same: the real destination and its port, or none
abbrev pub same_end : Option (Addr × ℕ) → Option (Addr × ℕ) → Bool
same_end None None = true
same_end (Some a) (Some b) = (a.0.0 == b.0.0) && (a.1 == b.1)
same_end None (Some b) = false
same_end (Some a) None = false

-- whether two held ports are the same in each field
abbrev pub same_held : Held → Held → Bool
same_held a b = (a.proto == b.proto) && (a.addr.0 == b.addr.0) && (a.port == b.port) && same_end a.to b.to

-- whether two ports are the same in each field
abbrev pub same_port : Port → Port → Bool
same_port a b = (a.proto == b.proto) && (a.addr.0 == b.addr.0) && (a.port == b.port)

-- whether two bindings are the same in each field
abbrev pub same_binding : Binding → Binding → Bool
same_binding a b = (a.addr.0 == b.addr.0) && (a.ifc == b.ifc) && (a.src.0 == b.src.0)

-- a test of held ports, of ports, of addresses and of bindings, which no key of another kind passes
abbrev pub on_held : (Held → Bool) → Key → Bool
on_held t (key.Held h) = t h
on_held t (key.Port p) = false
on_held t (key.Address a) = false
on_held t (key.Binding b) = false

abbrev pub on_port : (Port → Bool) → Key → Bool
on_port t (key.Held h) = false
on_port t (key.Port p) = t p
on_port t (key.Address a) = false
on_port t (key.Binding b) = false

abbrev pub on_address : (Addr → Bool) → Key → Bool
on_address t (key.Held h) = false
on_address t (key.Port p) = false
on_address t (key.Address a) = t a
on_address t (key.Binding b) = false

abbrev pub on_binding : (Binding → Bool) → Key → Bool
on_binding t (key.Held h) = false
on_binding t (key.Port p) = false
on_binding t (key.Address a) = false
on_binding t (key.Binding b) = t b

-- whether two keys are the same
abbrev pub same_key : Key → Key → Bool
same_key (key.Held h) k = on_held (same_held h) k
same_key (key.Port p) k = on_port (same_port p) k
same_key (key.Address a) k = on_address (λ b. a.0 == b.0) k
same_key (key.Binding b) k = on_binding (same_binding b) k

-- whether a key is a binding of this input and source to an address between two, which both count
abbrev pub is_between : ℕ → Addr → Addr → Addr → Key → Bool
is_between ifc src first last k =
    on_binding (λ b. (b.ifc == ifc) && (b.src.0 == src.0) && nat_le first.0 b.addr.0 && nat_le b.addr.0 last.0) k

-- whether a key is one that is wanted
abbrev pub passes : Wanted → Key → Bool
passes (wanted.Key j) k = same_key j k
passes (wanted.Between ifc src first last) k = is_between ifc src first last k

-- a hash with one more number in it, below a prime
unfoldable pub stir : ℕ → ℕ → ℕ
stir hash number = (hash * 16777619 + number) % 4294967291

-- the hash of four numbers
unfoldable pub hash_of : ℕ → ℕ → ℕ → ℕ → ℕ
hash_of kind addr other port = stir (stir (stir (stir 0 kind) addr) other) port

-- the hash of a held port
abbrev pub held_hash_to : ℕ → ℕ → Option (Addr × ℕ) → ℕ
held_hash_to kind addr None = hash_of kind addr 0 0
held_hash_to kind addr (Some end) = hash_of kind addr end.0.0 end.1

abbrev pub held_hash : Held → ℕ
held_hash h = held_hash_to (h.proto * 65536 + h.port) h.addr.0 h.to

-- the hash of a binding, the same for each of one input and source
abbrev pub source_hash : ℕ → Addr → ℕ
source_hash ifc src = hash_of ifc src.0 0 1

-- the hash of a key
abbrev pub key_hash : Key → ℕ
key_hash (key.Held h) = held_hash h
key_hash (key.Port p) = hash_of (p.proto * 65536 + p.port) p.addr.0 1 1
key_hash (key.Address a) = hash_of 16777216 a.0 0 0
key_hash (key.Binding b) = source_hash b.ifc b.src

-- the hash of all keys that are wanted
abbrev pub wanted_hash : Wanted → ℕ
wanted_hash (wanted.Key k) = key_hash k
wanted_hash (wanted.Between ifc src first last) = source_hash ifc src

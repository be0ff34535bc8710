-- The buckets of keys.
use Rattle.std.specs.Prelude.{ℕ, ◌+◌, ◌*◌, ◌%◌}
use Rattle.asa_base.specs.declared.flow.Key.{Key}

-- a hash with one more number in it, below a prime
unfoldable pub stir : ℕ → ℕ → ℕ
stir hash number = (hash * 16777619 + number) % 4294967291

-- the hash of all fields of a key
unfoldable pub key_hash : Key → ℕ
key_hash k = stir (stir (stir (stir 0 (k.ifc * 65536 + k.proto * 256 + k.kind)) k.src.0) k.dst.0) (k.sport * 65536 + k.dport)

-- the bucket of a key among so many
abbrev pub key_bucket : Key → ℕ → ℕ
key_bucket k buckets = key_hash k % buckets

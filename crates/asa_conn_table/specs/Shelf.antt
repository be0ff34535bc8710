-- Slots with four rings over their places: by each key, by id, and all of them by rising id.
use Rattle.std.specs.Prelude.{◌≡◌, ℕ, ◌<◌, ◌%◌, Bool, false, true, List, length, Option, Some, None}
use Rattle.asa_rings.specs.Rings.{Rings, In, bucket, stamp}
use Rattle.asa_conn_table.specs.declared.conn.Conn.{Conn}
use Rattle.asa_conn_table.specs.declared.shelf.Shelf.TheInside.{Inside}
use Rattle.asa_conn_table.specs.Hash.{key_bucket}
use Rattle.asa_conn_table.specs.Slots.{Slots, slot, slot_passes}

-- a place is in the ring of its connection's bucket with the id as its stamp, and in none without a connection
abbrev pub IsMirrored : (Conn → ℕ) → Option Conn → ℕ → ℕ → Type 0
IsMirrored f None stamped home = stamped ≡ 0
IsMirrored f (Some c) stamped home = (0 < c.id) × (stamped ≡ c.id) × (home ≡ f c)

-- rings mirror slots, where `f` gives a connection's bucket among so many
pub record Mirrors (f : Conn → ℕ → ℕ) (r : Rings) (xs : List (Option Conn)) : Type 0 where
  pub places : r.places ≡ length xs
  pub buckets : 0 < r.buckets
  pub each : (p : ℕ) → p < length xs → IsMirrored (λ c. f c r.buckets) (slot xs p) (stamp r p) (bucket r p)

-- what callers see of a shelf
abbrev pub slots_of : Inside → Slots
slots_of s = record { slots = s.slots.items }

-- all four rings mirror the slots
pub record IsShelf (s : Inside) : Type 0 where
  pub forward : Mirrors (λ c. key_bucket c.forward) s.forward s.slots.items
  pub reply : Mirrors (λ c. key_bucket c.reply) s.reply s.slots.items
  pub ids : Mirrors (λ c buckets. c.id % buckets) s.ids s.slots.items
  pub order : Mirrors (λ _ _. 0) s.order s.slots.items

-- a place of a bucket's ring whose connection passes a test; none where no connection of the ring passes
abbrev pub IsInRing : (Conn → Bool) → Rings → ℕ → List (Option Conn) → Option ℕ → Type 0
IsInRing t r c xs (Some p) = (p < length xs) × (slot_passes t (slot xs p) ≡ true)
IsInRing t r c xs None = (q : ℕ) → In r c q → slot_passes t (slot xs q) ≡ false

-- Connections in slots, by no order.
use Rattle.std.specs.Prelude.{◌≡◌, ◌≢◌, ℕ, ◌+◌, ◌<◌, ◌≤◌, Bool, false, true, nat_lt, if◌then◌else◌, List, [], ◌∷◌, length, get_or, slice_index, Option, Some, None}
use Rattle.asa_conn_table.specs.declared.conn.Conn.{Conn}
use Rattle.asa_conn_table.specs.declared.wanted.Wanted.{Wanted}
use Rattle.asa_conn_table.specs.declared.wanted.Wanted.TheVariants as wanted
use Rattle.asa_conn_table.specs.Conns.{AreApart, has_id, is_idle, same_key}

-- the slots of a shelf
pub record Slots : Type 0 where
  pub slots : List (Option Conn)

-- what stands in a slot; nothing in one that isn't there
abbrev pub slot : List (Option Conn) → ℕ → Option Conn
slot xs p = get_or xs p None

-- a list by rising id with one more connection
abbrev pub inserted : Conn → List Conn → List Conn
inserted c [] = c ∷ []
inserted c (d ∷ ds) = if nat_lt c.id d.id then c ∷ d ∷ ds else d ∷ inserted c ds

-- the connections that stand in slots, by rising id
abbrev pub in_order : List (Option Conn) → List Conn
in_order [] = []
in_order (None ∷ xs) = in_order xs
in_order (Some c ∷ xs) = inserted c (in_order xs)

-- whether a connection is one that is wanted
abbrev pub passes : Wanted → Conn → Bool
passes (wanted.Id id) c = has_id id c
passes (wanted.Forward k) c = same_key k c.forward
passes (wanted.Reply k) c = same_key k c.reply
passes (wanted.Above id) c = nat_lt id c.id
passes (wanted.Idle t now) c = is_idle t now c

-- whether a connection that passes a test stands in a slot
abbrev pub slot_passes : (Conn → Bool) → Option Conn → Bool
slot_passes t None = false
slot_passes t (Some c) = t c

-- a slot whose connection passes a test; none where no connection passes
abbrev pub IsPlace : (Conn → Bool) → List (Option Conn) → Option ℕ → Type 0
IsPlace t xs (Some p) = (p < length xs) × (slot_passes t (slot xs p) ≡ true)
IsPlace t xs None = (q : ℕ) (d : Conn) → slot xs q ≡ Some d → t d ≡ false

-- of the connections that pass a test, the one in this slot has the least id
pub record IsLeastPlace (t : Conn → Bool) (xs : List (Option Conn)) (p : ℕ) : Type 0 where
  pub within : p < length xs
  pub here : slot_passes t (slot xs p) ≡ true
  pub least : (q : ℕ) (c d : Conn) → slot xs p ≡ Some c → slot xs q ≡ Some d → t d ≡ true → c.id ≤ d.id

-- the slot of the connection with the least id that passes a test; none where no connection passes
abbrev pub IsLeast : (Conn → Bool) → List (Option Conn) → Option ℕ → Type 0
IsLeast t xs (Some p) = IsLeastPlace t xs p
IsLeast t xs None = (q : ℕ) (d : Conn) → slot xs q ≡ Some d → t d ≡ false

-- the highest id in slots
pub record IsHighest (xs : List (Option Conn)) (id : ℕ) : Type 0 where
  pub here : (q : ℕ) × (d : Conn) × (slot xs q ≡ Some d) × (d.id ≡ id)
  pub most : (q : ℕ) (d : Conn) → slot xs q ≡ Some d → d.id ≤ id

-- the highest id in slots; none where all are free
abbrev pub IsLatest : List (Option Conn) → Option ℕ → Type 0
IsLatest xs (Some id) = IsHighest xs id
IsLatest xs None = (q : ℕ) (d : Conn) → slot xs q ≡ Some d → ⊥

-- connections in two slots have different ids and keys, and no connection has one key twice
pub record AreDistinct (xs : List (Option Conn)) : Type 0 where
  pub ids : (p q : ℕ) (c d : Conn) → slot xs p ≡ Some c → slot xs q ≡ Some d → p ≢ q → c.id ≢ d.id
  pub apart : (p q : ℕ) (c d : Conn) → slot xs p ≡ Some c → slot xs q ≡ Some d → p ≢ q → AreApart c d
  pub own : (p : ℕ) (c : Conn) → slot xs p ≡ Some c → same_key c.forward c.reply ≡ false

-- the free slots, each once
pub record AreFree (xs : List (Option Conn)) (free : List ℕ) : Type 0 where
  pub all : length free + length (in_order xs) ≡ length xs
  pub within : (i : ℕ) → i < length free → slice_index free i < length xs
  pub empty : (i : ℕ) → i < length free → slot xs (slice_index free i) ≡ None
  pub distinct : (i j : ℕ) → i < j → j < length free → slice_index free i ≢ slice_index free j

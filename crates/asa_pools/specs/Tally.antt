-- Rows of keys with their counts, and the ring by which they are found.
use Rattle.std.specs.Prelude.{◌≡◌, ◌≢◌, ℕ, ◌+◌, ◌%◌, ◌<◌, ◌≤◌, ◌^◌, Bool, true, false, if◌then◌else◌, List, length, get_or, Option, Some, None}
use Rattle.std.specs.List.{sum_by}
use Rattle.std.specs.Vec.{vec_capacity}
use Rattle.asa_rings.specs.Rings.{Rings, In, Present, bucket, stamp}
use Rattle.asa_pools.specs.declared.key.Key.{Key}
use Rattle.asa_pools.specs.declared.key.Key.TheVariants as key
use Rattle.asa_pools.specs.declared.key.Wanted.{Wanted}
use Rattle.asa_pools.specs.declared.tally.Row.{Row}
use Rattle.asa_pools.specs.declared.tally.Tally.TheInside.{Inside}
use Rattle.asa_pools.specs.Keys.{key_hash, passes}

-- keys with their counts by no order, and how many keys there is room for
pub record Tallied : Type 0 where
  pub rows : List Row
  pub room : ℕ

-- a row that isn't there
abbrev pub no_row : Row
no_row = record { key = key.Address (record { 0 = 0 }); count = 0 }

abbrev pub row_at : List Row → ℕ → Row
row_at rows p = get_or rows p no_row

-- what a row counts for a test
abbrev pub weight : (Key → Bool) → Row → ℕ
weight t r = if t r.key then r.count else 0

-- how often keys are counted that pass a test
abbrev pub times : (Key → Bool) → List Row → ℕ
times t rows = sum_by (weight t) rows

-- how often a key counts for a test
abbrev pub once : (Key → Bool) → Key → ℕ
once t k = if t k then 1 else 0

-- how often all keys are counted
abbrev pub total : List Row → ℕ
total rows = times (λ _. true) rows

-- each row is in the ring of its key's bucket, stamped with its place and one, and no other place is in a ring
pub record Mirrors (r : Rings) (rows : List Row) : Type 0 where
  pub long : length rows ≤ r.places
  pub buckets : 0 < r.buckets
  pub stamps : (p : ℕ) → p < length rows → stamp r p ≡ p + 1
  pub homes : (p : ℕ) → p < length rows → bucket r p ≡ key_hash (row_at rows p).key % r.buckets
  pub free : (p : ℕ) → p < r.places → length rows ≤ p → stamp r p ≡ 0

-- no key has two rows, and each row counts something
pub record AreRows (rows : List Row) : Type 0 where
  pub counts : (p : ℕ) → p < length rows → 0 < (row_at rows p).count
  pub distinct : (p q : ℕ) → p < q → q < length rows → (row_at rows p).key ≡ (row_at rows q).key → ⊥

-- what callers see of a tally
abbrev pub tallied_of : Inside → Tallied
tallied_of s = record { rows = s.rows.items; room = s.ring.places }

pub record IsTally (s : Inside) : Type 0 where
  pub reserved : s.ring.places ≤ vec_capacity s.rows
  pub few : s.ring.places + s.ring.buckets < 2 ^ 32
  pub mirrors : Mirrors s.ring s.rows.items
  pub rows : AreRows s.rows.items

-- a row whose key is wanted; none where no row's is
abbrev pub IsFound : Wanted → List Row → Option ℕ → Type 0
IsFound w rows (Some p) = (p < length rows) × (passes w (row_at rows p).key ≡ true)
IsFound w rows None = (q : ℕ) → q < length rows → passes w (row_at rows q).key ≡ false

-- `above` is where a place with this stamp joins a ring: the next above it, or the end
pub record IsAbove (r : Rings) (c mark above : ℕ) : Type 0 where
  pub there : Present r above
  pub home : bucket r above ≡ c
  pub lower : above < r.places → mark < stamp r above
  pub upper : (q : ℕ) → In r c q → (above < r.places → stamp r q < stamp r above) → stamp r q ≤ mark

-- a place left its ring, and so did the last one, which joined the ring of a hash at that place, if it is another
pub record IsMoved (place last hash : ℕ) (r t : Rings) : Type 0 where
  pub places : t.places ≡ r.places
  pub buckets : t.buckets ≡ r.buckets
  pub stamps : (q : ℕ) → q ≢ place → q ≢ last → stamp t q ≡ stamp r q
  pub homes : (q : ℕ) → q ≢ place → q ≢ last → bucket t q ≡ bucket r q
  pub gone : stamp t last ≡ 0
  pub stamp_here : place < last → stamp t place ≡ place + 1
  pub home_here : place < last → bucket t place ≡ hash % r.buckets

-- Rings of places: each bucket has a ring of the places that are joined to it, from the newest stamp to the oldest.
use Rattle.std.specs.Prelude.{◌≡◌, ◌≢◌, ℕ, ◌+◌, ◌<◌, ◌≤◌, ◌^◌, List, length, slice_index}

-- The rings of `buckets` buckets over `places` places, as four lists over the places, then the ends of the buckets: the
-- stamp of each, 0 for a place in no ring and for an end; its bucket; the one below it in its ring; the one above it.
pub record Rings : Type 0 where
  pub places : ℕ
  pub buckets : ℕ
  pub stamps : List ℕ
  pub homes : List ℕ
  pub olders : List ℕ
  pub newers : List ℕ

abbrev pub stamp : Rings → ℕ → ℕ
stamp r x = slice_index r.stamps x

abbrev pub bucket : Rings → ℕ → ℕ
bucket r x = slice_index r.homes x

-- the end of a bucket's ring
abbrev pub end_of : Rings → ℕ → ℕ
end_of r c = r.places + c

-- a place in a ring, or the end of one
pub record IsPresent (n m : ℕ) (s : ℕ → ℕ) (x : ℕ) : Type 0 where
  pub within : x < n + m
  pub live : x < n → 0 < s x

-- place `q` is in a ring of this bucket
pub record IsIn (n : ℕ) (s b : ℕ → ℕ) (c q : ℕ) : Type 0 where
  pub place : q < n
  pub joined : 0 < s q
  pub home : b q ≡ c

-- What is known of a place in a ring, or of an end, by stamps, buckets and the two neighbours: the ring goes down by stamp
-- and misses no place of its bucket.
pub record IsLinked (n m : ℕ) (s b o w : ℕ → ℕ) (x : ℕ) : Type 0 where
  pub older_there : IsPresent n m s (o x)
  pub newer_there : IsPresent n m s (w x)
  pub older_bucket : b (o x) ≡ b x
  pub newer_bucket : b (w x) ≡ b x
  pub back : w (o x) ≡ x
  pub forth : o (w x) ≡ x
  pub falls : o x < n → x < n → s (o x) < s x
  pub bounded : b x < m
  pub end_bucket : n ≤ x → x ≡ n + b x
  pub end_stamp : n ≤ x → s x ≡ 0
  pub next_there : (q : ℕ) → IsIn n s b (b x) q → (x < n → s q < s x) → o x < n
  pub next_most : (q : ℕ) → IsIn n s b (b x) q → (x < n → s q < s x) → q ≢ o x → s q < s (o x)

pub record AreLinked (n m : ℕ) (s b o w : ℕ → ℕ) : Type 0 where
  pub at : (x : ℕ) → IsPresent n m s x → IsLinked n m s b o w x

-- what the four lists keep
pub record IsRing (n m : ℕ) (ss bs os ws : List ℕ) : Type 0 where
  pub few : n + m < 2 ^ 32
  pub stamps_long : length ss ≡ n + m
  pub homes_long : length bs ≡ n + m
  pub olders_long : length os ≡ n + m
  pub newers_long : length ws ≡ n + m
  pub links : AreLinked n m (slice_index ss) (slice_index bs) (slice_index os) (slice_index ws)

-- a place in a ring of these, or the end of one
abbrev pub Present : Rings → ℕ → Type 0
Present r x = IsPresent r.places r.buckets (stamp r) x

-- place `q` is in the ring of bucket `c`
abbrev pub In : Rings → ℕ → ℕ → Type 0
In r c q = IsIn r.places (stamp r) (bucket r) c q

-- the sizes stay
pub record SameSizes (r t : Rings) : Type 0 where
  pub places : t.places ≡ r.places
  pub buckets : t.buckets ≡ r.buckets

-- all other places keep their stamps and buckets
pub record OthersStay (p : ℕ) (r t : Rings) : Type 0 where
  pub stamps : (x : ℕ) → x ≢ p → stamp t x ≡ stamp r x
  pub buckets : (x : ℕ) → x ≢ p → bucket t x ≡ bucket r x

-- place `p` joined bucket `c` with this stamp
pub record IsJoined (p mark c : ℕ) (r t : Rings) : Type 0 where
  pub sizes : SameSizes r t
  pub others : OthersStay p r t
  pub stamp_here : stamp t p ≡ mark
  pub bucket_here : bucket t p ≡ c

-- place `p` left its ring
pub record IsParted (p : ℕ) (r t : Rings) : Type 0 where
  pub sizes : SameSizes r t
  pub others : OthersStay p r t
  pub stamp_here : stamp t p ≡ 0

-- `y` is the next below `x` in the ring of bucket `c`: the end where no place of the ring is below it
pub record IsNextOlder (r : Rings) (c x y : ℕ) : Type 0 where
  pub there : Present r y
  pub home : bucket r y ≡ c
  pub falls : y < r.places → x < r.places → stamp r y < stamp r x
  pub ends : r.places ≤ y → y ≡ end_of r c
  pub most : (q : ℕ) → In r c q → q ≢ x → (x < r.places → stamp r q ≤ stamp r x) → (y < r.places) × (stamp r q ≤ stamp r y)

-- `y` is the next above `x` in the ring of bucket `c`: the end where no place of the ring is above it
pub record IsNextNewer (r : Rings) (c x y : ℕ) : Type 0 where
  pub there : Present r y
  pub home : bucket r y ≡ c
  pub rises : y < r.places → x < r.places → stamp r x < stamp r y
  pub ends : r.places ≤ y → y ≡ end_of r c
  pub least : (q : ℕ) → In r c q → q ≢ x → (x < r.places → stamp r x ≤ stamp r q) → (y < r.places) × (stamp r y ≤ stamp r q)

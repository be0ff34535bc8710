-- What a shelf's rings keep where a connection comes or goes, by the slots that callers see.
use Rattle.std.proofs.Common.{◌≡◌, ℕ, zero, suc, ◌<◌, ◌≤◌, List, [], ◌∷◌, refl, length, set, Option, Some, None, nat_lt, sym, ap, subst, arith}
use Rattle.asa_rings.specs.Rings.{Rings, In, IsJoined, IsParted, IsNextNewer, IsNextOlder, bucket, end_of, stamp}
use Rattle.asa_conn_table.specs.declared.conn.Conn.{Conn}
use Rattle.asa_conn_table.specs.declared.shelf.Shelf.TheInside.{Inside}
use Rattle.asa_conn_table.specs.declared.conn.Side.{Side}
use Rattle.asa_conn_table.specs.Conns.{marked}
use Rattle.asa_conn_table.specs.Slots.{IsHighest, IsLatest, IsLeast, IsLeastPlace, Slots, slot}
use Rattle.asa_conn_table.specs.Shelf.{IsShelf, Mirrors, slots_of}
use Rattle.asa_conn_table.proofs.MirrorLaws.{mirror_in, mirror_live, mirror_newest, mirror_same, mirror_put, mirror_take, mirror_taken, next_none, next_some}

module _ (s : Inside) (v : Slots) (is : slots_of s ≡ v) where
  seen : s.slots.items ≡ v.slots
  seen = ap (λ (x : Slots). x.slots) is

  module _ (k : IsShelf s) (p : ℕ) (c : Conn) (y : ℕ) (here : slot v.slots p ≡ Some c) (next : (b : ℕ) → bucket s.order p ≡ b → IsNextNewer s.order b p y) where
    here_inside : slot s.slots.items p ≡ Some c
    here_inside = subst (λ xs. slot xs p ≡ Some c) (sym seen) here

    pub next_is_some : y < s.order.places → IsLeastPlace (λ d. nat_lt c.id d.id) v.slots y
    next_is_some lt = subst (λ xs. IsLeastPlace (λ d. nat_lt c.id d.id) xs y) seen
        (next_some k.order p c here_inside y (next 0 (mirror_taken k.order p c here_inside).2) lt)

    pub next_is_none : s.order.places ≤ y → IsLeast (λ d. nat_lt c.id d.id) v.slots None
    next_is_none ge = subst (λ xs. IsLeast (λ d. nat_lt c.id d.id) xs None) seen
        (next_none k.order p c here_inside y (next 0 (mirror_taken k.order p c here_inside).2) ge)

  module _ (k : IsShelf s) (x y : ℕ) (end : x ≡ end_of s.order 0) (next : IsNextOlder s.order 0 x y) where
    below_last : (q : ℕ) (d : Conn) → slot v.slots q ≡ Some d → (y < s.order.places) × (d.id ≤ stamp s.order y)
    below_last q d e =
        let i = mirror_in k.order q d (subst (λ xs. slot xs q ≡ Some d) (sym seen) e) in
        let m = next.most q i (λ same. omega (arith, same, end, i.place)) (λ lt. absurd (omega (arith, lt, end))) in
        (m.0, omega (arith, m.1, (mirror_taken k.order q d (subst (λ xs. slot xs q ≡ Some d) (sym seen) e)).1))

    pub latest_is_some : y < s.order.places → (id : ℕ) → id ≡ stamp s.order y → IsHighest v.slots id
    latest_is_some lt id read =
        let l = mirror_live k.order y (omega (arith, lt, k.order.places)) (next.there.live lt) in
        record {
          here = (y, l.0, subst (λ xs. slot xs y ≡ Some l.0) seen l.1, omega (arith, read, (mirror_taken k.order y l.0 l.1).1));
          most = λ q d e. omega (arith, read, (below_last q d e).1);
        }

    pub latest_is_none : s.order.places ≤ y → IsLatest v.slots None
    latest_is_none ge = λ q d e. absurd (omega (arith, ge, (below_last q d e).0))

  module _ {f : Conn → ℕ → ℕ} {r : Rings} (k : Mirrors f r s.slots.items) where
    pub stamps_below : (id : ℕ) → ((q : ℕ) (d : Conn) → slot v.slots q ≡ Some d → d.id < id) → (b q : ℕ) → In r b q → stamp r q < id
    stamps_below id newest b q i = mirror_newest k id b q (λ p d e. newest p d (subst (λ xs. slot xs p ≡ Some d) seen e)) i

    pub put_mirrors : (p : ℕ) (c : Conn) (t : Rings) (b : ℕ) → b ≡ f c r.buckets → p < length v.slots → 0 < c.id → IsJoined p c.id b r t → Mirrors f t (set s.slots.items p (Some c))
    put_mirrors p c t b home within first j =
        mirror_put k p c t (omega (arith, within, ap length seen)) first (subst (λ n. IsJoined p c.id n r t) home j)

    pub take_mirrors : (p : ℕ) (t : Rings) (o : Option Conn) → o ≡ None → p < length v.slots → IsParted p r t → Mirrors f t (set s.slots.items p o)
    take_mirrors p t o none within j = subst (λ x. Mirrors f t (set s.slots.items p x)) (sym none) (mirror_take k p t (omega (arith, within, ap length seen)) j)

-- a slot that is written as it is
pub set_slot_same : (xs : List (Option Conn)) (p : ℕ) → set xs p (slot xs p) ≡ xs
set_slot_same [] p = refl
set_slot_same (x ∷ xs) zero = refl
set_slot_same (x ∷ xs) (suc p) = ap (λ ys. x ∷ ys) (set_slot_same xs p)

module _ {f : Conn → ℕ → ℕ} {r : Rings} {xs : List (Option Conn)} (k : Mirrors f r xs) (p : ℕ) where
  pub marked_mirrors : (c d : Conn) (from : Side) (now : ℕ) → slot xs p ≡ Some c → d ≡ marked c.id from now c → f (marked c.id from now c) r.buckets ≡ f c r.buckets → Mirrors f r (set xs p (Some d))
  marked_mirrors c d from now here same home = subst (λ x. Mirrors f r (set xs p (Some x))) (sym same) (mirror_same k p c (marked c.id from now c) here refl home)

  pub kept_mirrors : (o : Option Conn) → o ≡ slot xs p → Mirrors f r (set xs p o)
  kept_mirrors o same = subst (λ x. Mirrors f r (set xs p x)) (sym same) (subst (λ ys. Mirrors f r ys) (sym (set_slot_same xs p)) k)

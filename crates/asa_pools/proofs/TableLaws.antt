-- What the lists of a table are, by the counts of its rows.
use Rattle.std.proofs.Common.{◌≡◌, ℕ, ◌+◌, ◌*◌, ◌<◌, ◌≤◌, ⊎_elim, Bool, true, false, not, cond, ◌&&◌, ◌||◌, nat_lt, List, [], ◌∷◌, ◌++◌, length, Option, Some, None, refl, sym, ap, subst, ◌∙◌, arith}
use Rattle.std.proofs.Math.ListN.{replicate}
use Rattle.std.specs.Prelude.{◌==◌}
use Rattle.std.specs.List.{count_by, sum_by}
use Rattle.std.proofs.lemmas.List.Folds.{sum_by-replicate}
use Rattle.std.proofs.lemmas.List.Sums.{sum_by-append, sum_by-cons, sum_by-swap_remove}
use Rattle.asa_text.specs.declared.numbers.Addr.{Addr}
use Rattle.asa_pools.specs.declared.held.Held.{Held}
use Rattle.asa_pools.specs.declared.held.Binding.{Binding}
use Rattle.asa_pools.specs.declared.key.Port.{Port}
use Rattle.asa_pools.specs.declared.key.Key.{Key}
use Rattle.asa_pools.specs.declared.key.Key.TheVariants as key
use Rattle.asa_pools.specs.declared.tally.Row.{Row}
use Rattle.asa_pools.specs.Keys.{is_between, on_address, on_binding, on_held, on_port, same_binding, same_end, same_held, same_key, same_port}
use Rattle.asa_pools.specs.declared.held.Mapped.{Mapped}
use Rattle.asa_pools.specs.declared.held.Mapped.TheVariants as mapped
use Rattle.asa_pools.specs.declared.table.PortTable.TheInside.{Inside}
use Rattle.asa_pools.specs.Pools.{HasMore, HasSame, IsBoundBetween, OneMore, Ports, addr_of, binding_of, counts_for, fits, held_of, is_at, is_held, is_open, is_own, is_untaken, may_share, size}
use Rattle.asa_pools.specs.Table.{AreCounted, IsTable, bound_in, bound_list, held_in, held_list, key_of, part_of, port_of, ports_of}
use Rattle.asa_pools.specs.Tally.{AreRows, IsFound, no_row, once, row_at, times, total, weight}
use Rattle.asa_pools.proofs.CountLaws.{all_not, and_or, any_counted, any_or, count_part, not_or, not_shared, shared, some_counted}
use Rattle.asa_pools.proofs.KeyLaws.{binding_key, same_binding_is}
use Rattle.asa_pools.proofs.TallyLaws.{times_none}
use Rattle.asa_pools.specs.declared.held.Flow.{Flow}
use Rattle.asa_pools.specs.declared.key.Wanted.TheVariants as wanted
use Rattle.std.specs.List.{list_all, list_any}
use Rattle.std.proofs.lemmas.Bool.{and_from, and_parts, cases_Bool, eq-eqb, eqb-true, false≢true, le-leb, leb-true, lt-ltb, ltb-true}

count_copies : {A : Type 0} (t : A → Bool) (n : ℕ) (x : A) → count_by t (replicate n x) ≡ cond (t x) n 0
count_copies {A} t n x = sum_by-replicate (λ y. cond (t y) 1 0) n x ∙ by (t x)
  where
    by : (b : Bool) → n * cond b 1 0 ≡ cond b n 0
    by true = omega arith
    by false = omega arith

-- the lists' counts are those of the rows
pub held_count : (t : Held → Bool) (rows : List Row) → count_by t (held_list rows) ≡ times (on_held t) rows
held_count t [] = refl
held_count t (r ∷ rs) =
    sum_by-append (λ y. cond (t y) 1 0) (held_in r.key r.count) (held_list rs)
    ∙ ap (λ n. n + count_by t (held_list rs)) (one r.key r.count)
    ∙ ap (λ n. cond (on_held t r.key) r.count 0 + n) (held_count t rs)
    ∙ sym (sum_by-cons (weight (on_held t)) r rs)
  where
    one : (k : Key) (n : ℕ) → count_by t (held_in k n) ≡ cond (on_held t k) n 0
    one (key.Held h) n = count_copies t n h
    one (key.Port p) n = refl
    one (key.Address a) n = refl
    one (key.Binding b) n = refl

pub bound_count : (t : Binding → Bool) (rows : List Row) → count_by t (bound_list rows) ≡ times (on_binding t) rows
bound_count t [] = refl
bound_count t (r ∷ rs) =
    sum_by-append (λ y. cond (t y) 1 0) (bound_in r.key r.count) (bound_list rs)
    ∙ ap (λ n. n + count_by t (bound_list rs)) (one r.key r.count)
    ∙ ap (λ n. cond (on_binding t r.key) r.count 0 + n) (bound_count t rs)
    ∙ sym (sum_by-cons (weight (on_binding t)) r rs)
  where
    one : (k : Key) (n : ℕ) → count_by t (bound_in k n) ≡ cond (on_binding t k) n 0
    one (key.Held h) n = refl
    one (key.Port p) n = refl
    one (key.Address a) n = refl
    one (key.Binding b) n = count_copies t n b

-- each row is of one kind
pub kinds : (rows : List Row) → total rows ≡ times (on_held (λ _. true)) rows + times (on_port (λ _. true)) rows + times (on_address (λ _. true)) rows + times (on_binding (λ _. true)) rows
kinds [] = refl
kinds (r ∷ rs) = omega (
  arith,
  kinds rs,
  one r.key r.count,
  sum_by-cons (weight (λ _. true)) r rs,
  sum_by-cons (weight (on_held (λ _. true))) r rs,
  sum_by-cons (weight (on_port (λ _. true))) r rs,
  sum_by-cons (weight (on_address (λ _. true))) r rs,
  sum_by-cons (weight (on_binding (λ _. true))) r rs,
)
  where
    one : (k : Key) (n : ℕ) → n ≡ cond (on_held (λ _. true) k) n 0 + cond (on_port (λ _. true) k) n 0 + cond (on_address (λ _. true) k) n 0 + cond (on_binding (λ _. true) k) n 0
    one (key.Held h) n = omega arith
    one (key.Port p) n = omega arith
    one (key.Address a) n = omega arith
    one (key.Binding b) n = omega arith

count_all : {A : Type 0} (xs : List A) → count_by (λ _. true) xs ≡ length xs
count_all [] = refl
count_all (x ∷ xs) = sum_by-cons (λ _. 1) x xs ∙ omega (arith, count_all xs)

-- the lists hold half of what is counted
pub size_is : (rows : List Row) → AreCounted rows → total rows ≡ 2 * (length (held_list rows) + length (bound_list rows))
size_is rows k = omega (
  arith,
  kinds rows,
  k.ports (λ _. true),
  k.addresses (λ _. true),
  held_count (λ _. true) rows,
  bound_count (λ _. true) rows,
  count_all (held_list rows),
  count_all (bound_list rows),
)

-- some rows count a held port and its port more than others
module _ (less more : List Row) (h : Held) (each : (t : Key → Bool) → times t more ≡ times t less + once t (key.Held h) + once t (key.Port (port_of h))) where
  pub held_more : HasMore h (held_list less) (held_list more)
  held_more t = omega (arith, held_count t less, held_count t more, each (on_held t))

  pub held_bound : HasSame (bound_list less) (bound_list more)
  held_bound t = omega (arith, bound_count t less, bound_count t more, each (on_binding t))

  pub held_counted : AreCounted less → AreCounted more
  held_counted k = record {
    ports = λ t. omega (arith, k.ports t, each (on_port t), each (on_held (λ i. t (port_of i))));
    addresses = λ t. omega (arith, k.addresses t, each (on_address t), each (on_binding (λ b. t b.addr)));
  }

  pub held_uncounted : AreCounted more → AreCounted less
  held_uncounted k = record {
    ports = λ t. omega (arith, k.ports t, each (on_port t), each (on_held (λ i. t (port_of i))));
    addresses = λ t. omega (arith, k.addresses t, each (on_address t), each (on_binding (λ b. t b.addr)));
  }

-- some rows count a binding and its address more than others
module _ (less more : List Row) (b : Binding) (each : (t : Key → Bool) → times t more ≡ times t less + once t (key.Binding b) + once t (key.Address b.addr)) where
  pub bound_more : HasMore b (bound_list less) (bound_list more)
  bound_more t = omega (arith, bound_count t less, bound_count t more, each (on_binding t))

  pub bound_held : HasSame (held_list less) (held_list more)
  bound_held t = omega (arith, held_count t less, held_count t more, each (on_held t))

  pub bound_counted : AreCounted less → AreCounted more
  bound_counted k = record {
    ports = λ t. omega (arith, k.ports t, each (on_port t), each (on_held (λ i. t (port_of i))));
    addresses = λ t. omega (arith, k.addresses t, each (on_address t), each (on_binding (λ c. t c.addr)));
  }

  pub bound_uncounted : AreCounted more → AreCounted less
  bound_uncounted k = record {
    ports = λ t. omega (arith, k.ports t, each (on_port t), each (on_held (λ i. t (port_of i))));
    addresses = λ t. omega (arith, k.addresses t, each (on_address t), each (on_binding (λ c. t c.addr)));
  }

-- a value is counted by two keys
module _ (ifc proto : ℕ) (src : Addr) (less more : List Row) where
  pub one_more : (m : Mapped) (room : ℕ) → ((t : Key → Bool) → times t more ≡ times t less + once t (key_of m ifc proto src) + once t (part_of m proto))
      → OneMore m ifc proto src (record { held = held_list less; bound = bound_list less; room = room }) (record { held = held_list more; bound = bound_list more; room = room })
  one_more (mapped.Pat a n to) room each = (held_more less more (held_of proto a n to) each, held_bound less more (held_of proto a n to) each)
  one_more (mapped.Bound a) room each = (bound_more less more (binding_of a ifc src) each, bound_held less more (binding_of a ifc src) each)

  pub counted_more : (m : Mapped) → ((t : Key → Bool) → times t more ≡ times t less + once t (key_of m ifc proto src) + once t (part_of m proto)) → AreCounted less → AreCounted more
  counted_more (mapped.Pat a n to) each = held_counted less more (held_of proto a n to) each
  counted_more (mapped.Bound a) each = bound_counted less more (binding_of a ifc src) each

  pub counted_less : (m : Mapped) → ((t : Key → Bool) → times t more ≡ times t less + once t (key_of m ifc proto src) + once t (part_of m proto)) → AreCounted more → AreCounted less
  counted_less (mapped.Pat a n to) each = held_uncounted less more (held_of proto a n to) each
  counted_less (mapped.Bound a) each = bound_uncounted less more (binding_of a ifc src) each

-- what is seen of a table
module _ (s : Inside) (v : Ports) (is : ports_of s ≡ v) (k : IsTable s) where
  pub used_is : s.used ≡ size v
  used_is = omega (arith, k.used, size_is s.tally.rows k.counted, ap size is)

  pub room_is : s.capacity ≡ v.room
  room_is = ap (λ (t : Ports). t.room) is

  pub has_room : nat_lt (size v) v.room ≡ true → (s.used < s.capacity) × (total s.tally.rows + 1 < s.tally.room)
  has_room h =
      let lt : s.used < s.capacity = omega (arith, ltb-true (size v) v.room h, used_is, room_is) in
      (lt, omega (arith, lt, k.used, k.room))

-- a held value is counted
held_counts : (m : Mapped) (ifc proto : ℕ) (src : Addr) (rows : List Row) (room : ℕ) → nat_lt 0 (times (same_key (key_of m ifc proto src)) rows)
    ≡ is_held (record { held = held_list rows; bound = bound_list rows; room = room }) m ifc proto src
held_counts (mapped.Pat a n to) ifc proto src rows room =
    any_counted (same_held (held_of proto a n to)) (held_list rows) (times (same_key (key.Held (held_of proto a n to))) rows) (sym (held_count (same_held (held_of proto a n to)) rows))
held_counts (mapped.Bound a) ifc proto src rows room =
    any_counted (same_binding (binding_of a ifc src)) (bound_list rows) (times (same_key (key.Binding (binding_of a ifc src))) rows) (sym (bound_count (same_binding (binding_of a ifc src)) rows))

pub counts_held : (s : Inside) (v : Ports) → ports_of s ≡ v → (m : Mapped) (ifc proto : ℕ) (src : Addr)
    → nat_lt 0 (times (same_key (key_of m ifc proto src)) s.tally.rows) ≡ is_held v m ifc proto src
counts_held s v is m ifc proto src = held_counts m ifc proto src s.tally.rows s.capacity ∙ ap (λ (t : Ports). is_held t m ifc proto src) is

-- and so is what it stands for
pub part_counts : (m : Mapped) (ifc proto : ℕ) (src : Addr) (rows : List Row) → AreCounted rows
    → times (same_key (key_of m ifc proto src)) rows ≤ times (same_key (part_of m proto)) rows
part_counts (mapped.Pat a n to) ifc proto src rows k = omega (
  arith,
  held_count (same_held (held_of proto a n to)) rows,
  held_count (is_at proto a n) rows,
  k.ports (same_port (record { proto = proto; addr = a; port = n })),
  count_part (is_at proto a n) (same_held (held_of proto a n to)) (λ h e. (and_parts _ _ e).0) (held_list rows),
)
part_counts (mapped.Bound a) ifc proto src rows k = omega (
  arith,
  bound_count (same_binding (binding_of a ifc src)) rows,
  bound_count (λ b. a.0 == b.addr.0) rows,
  k.addresses (λ b. a.0 == b.0),
  count_part (λ b. a.0 == b.addr.0) (same_binding (binding_of a ifc src)) (λ b e. (and_parts _ _ (and_parts _ _ e).0).0) (bound_list rows),
)

-- once the key of a value is taken out, its other key is still counted
pub part_left : (m : Mapped) (ifc proto : ℕ) (src : Addr) (rows less : List Row) → AreCounted rows → 0 < times (same_key (key_of m ifc proto src)) rows
    → ((t : Key → Bool) → times t rows ≡ times t less + once t (key_of m ifc proto src)) → 0 < times (same_key (part_of m proto)) less
part_left (mapped.Pat a n to) ifc proto src rows less k pos each =
    omega (arith, pos, part_counts (mapped.Pat a n to) ifc proto src rows k, each (same_key (part_of (mapped.Pat a n to) proto)))
part_left (mapped.Bound a) ifc proto src rows less k pos each =
    omega (arith, pos, part_counts (mapped.Bound a) ifc proto src rows k, each (same_key (part_of (mapped.Bound a) proto)))

-- an extended port is open where it is held neither plainly nor to the same end
pub open_to : (held : List Held) (proto : ℕ) (a : Addr) (n : ℕ) (end : Addr × ℕ)
    → (not (list_any (same_held (held_of proto a n None)) held) && not (list_any (same_held (held_of proto a n (Some end))) held)) ≡ is_open held proto true end a n
open_to held proto a n end =
    sym (not_or (list_any (same_held (held_of proto a n None)) held) (list_any (same_held (held_of proto a n (Some end))) held))
    ∙ ap not (sym (any_or (same_held (held_of proto a n None)) (same_held (held_of proto a n (Some end))) (λ h. is_at proto a n h && counts_for true end h)
    (λ h. and_or (is_at proto a n h) (same_end None h.to) (same_end (Some end) h.to)) held))

pub plain_untaken : (held : List Held) (proto : ℕ) (a : Addr) (n : ℕ)
    → not (list_any (is_at proto a n) held) ≡ list_all (λ h. not (is_at proto a n h) || may_share None h) held
plain_untaken held proto a n = sym (all_not (λ h. not (is_at proto a n h) || may_share None h) (is_at proto a n) (λ h. not_shared (is_at proto a n h)) held)

pub extended_untaken : (held : List Held) (proto : ℕ) (a : Addr) (n : ℕ) (end : Addr × ℕ)
    → is_open held proto true end a n ≡ list_all (λ h. not (is_at proto a n h) || may_share (Some end) h) held
extended_untaken held proto a n end = sym (all_not (λ h. not (is_at proto a n h) || may_share (Some end) h) (λ h. is_at proto a n h && counts_for true end h)
    (λ h. shared (is_at proto a n h) (same_end None h.to) (same_end (Some end) h.to)) held)

-- a row that counts for a test
row_counts : (t : Key → Bool) (rows : List Row) (p : ℕ) → p < length rows → t (row_at rows p).key ≡ true → (row_at rows p).count ≤ times t rows
row_counts t rows p h e =
    omega (arith, sum_by-swap_remove (weight t) rows p no_row h, ap (λ b. cond b (row_at rows p).count 0) e)

-- a binding of the flow's own between two addresses is wanted
own_between : (ifc n first last : ℕ) (src : Addr) (k : Key) → first ≤ n → n ≤ last → on_binding (same_binding (binding_of (addr_of n) ifc src)) k ≡ true
    → is_between ifc src (addr_of first) (addr_of last) k ≡ true
own_between ifc n first last src k low high e =
    let s = binding_key (same_binding (binding_of (addr_of n) ifc src)) k e in
    let is : k ≡ key.Binding (binding_of (addr_of n) ifc src) = s.1 ∙ ap key.Binding (sym (same_binding_is (binding_of (addr_of n) ifc src) s.0 s.2)) in
    ap (is_between ifc src (addr_of first) (addr_of last)) is
    ∙ and_from _ _ (and_from _ _ (and_from _ _ (eq-eqb ifc ifc refl) (eq-eqb src.0 src.0 refl)) (le-leb first n low)) (le-leb n last high)

module _ (s : Inside) (v : Ports) (is : ports_of s ≡ v) (k : IsTable s) (f : Flow) (first last : ℕ) where
  own_seen : (n : ℕ) → is_own (ports_of s) f n ≡ is_own v f n
  own_seen n = ap (λ t. is_own t f n) is

  pub bound_none : (o : Option ℕ) → IsFound (wanted.Between f.ifc f.src (addr_of first) (addr_of last)) s.tally.rows o → o ≡ None → IsBoundBetween v f first last None
  bound_none o found none = λ n low high.
      let t = same_binding (binding_of (addr_of n) f.ifc f.src) in
      let miss = subst (IsFound (wanted.Between f.ifc f.src (addr_of first) (addr_of last)) s.tally.rows) none found in
      sym (own_seen n)
      ∙ sym (any_counted t (bound_list s.tally.rows) 0 (sym (bound_count t s.tally.rows ∙ times_none (on_binding t) s.tally.rows (λ q h. ⊎_elim
      (λ (pass : on_binding t (row_at s.tally.rows q).key ≡ true).
      absurd (false≢true (sym (miss q h) ∙ own_between f.ifc n first last f.src (row_at s.tally.rows q).key low high pass)))
      (λ (no : on_binding t (row_at s.tally.rows q).key ≡ false). no)
      (cases_Bool (on_binding t (row_at s.tally.rows q).key))))))

  pub bound_some : (rows_are : AreRows s.tally.rows) (o : Option ℕ) (p : ℕ) (b : Binding) → IsFound (wanted.Between f.ifc f.src (addr_of first) (addr_of last)) s.tally.rows o → o ≡ Some p
      → (row_at s.tally.rows p).key ≡ key.Binding b → (first ≤ b.addr.0) × (b.addr.0 ≤ last) × (is_own v f b.addr.0 ≡ true)
  bound_some rows_are o p b found some here =
      let hit = subst (IsFound (wanted.Between f.ifc f.src (addr_of first) (addr_of last)) s.tally.rows) some found in
      let pass : is_between f.ifc f.src (addr_of first) (addr_of last) (key.Binding b) ≡ true = ap (is_between f.ifc f.src (addr_of first) (addr_of last)) (sym here) ∙ hit.1 in
      let s3 = and_parts _ _ pass in
      let s2 = and_parts _ _ s3.0 in
      let s1 = and_parts _ _ s2.0 in
      let t = same_binding (binding_of (addr_of b.addr.0) f.ifc f.src) in
      let own : t b ≡ true = and_from _ _ (and_from _ _ (eq-eqb b.addr.0 b.addr.0 refl) (eq-eqb f.ifc b.ifc (sym (eqb-true b.ifc f.ifc s1.0)))) (eq-eqb f.src.0 b.src.0 (sym (eqb-true b.src.0 f.src.0 s1.1))) in
      let counted = row_counts (on_binding t) s.tally.rows p hit.0 (ap (on_binding t) here ∙ own) in (
        leb-true first b.addr.0 s2.1,
        leb-true b.addr.0 last s3.1,
        sym (own_seen b.addr.0) ∙ sym (some_counted t (bound_list s.tally.rows))
            ∙ lt-ltb 0 (count_by t (bound_list s.tally.rows)) (omega (arith, counted, rows_are.counts p hit.0, bound_count t s.tally.rows)),
      )

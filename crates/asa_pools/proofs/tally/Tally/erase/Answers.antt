-- The last row takes the place of the one that goes.
use Rattle.std.proofs.Common.{◌≡◌, ◌+◌, ◌-◌, ◌<◌, ◌∙◌, ap, sym, subst, length, arith}
use Rattle.std.specs.Vec.{vec_len}
use Rattle.asa_pools.specs.Keys.{key_hash}
use Rattle.asa_pools.specs.Tally.{AreRows, IsMoved, Mirrors, Tallied, no_row, row_at}
use Rattle.asa_pools.proofs.TallyLaws.{length_gone, mirrors_moved, rows_moved}
use Rattle.asa_pools.proofs.tally.Tally.erase.Goals as goal

pub returns-clause-room : goal.returns-clause-room
returns-clause-room c = c.move_place.ensures.places ∙ ap (λ (t : Tallied). t.room) c.self.view_is

pub invariant_of-self : goal.invariant_of-self
invariant_of-self c =
    let rows = c.self.inside.rows.items in
    let less = c.swap_remove.new.self.items in
    let p = c.args.place in
    let last = c.len.result - 1 in
    let many : vec_len c.self.inside.rows ≡ length rows = sym c.deref.ensures.len ∙ ap length c.deref.ensures.value in
    let within : p < length rows = omega (arith, c.requires.within, ap (λ (t : Tallied). length t.rows) c.self.view_is) in
    let long : length less + 1 ≡ length rows = ap (λ xs. length xs + 1) c.swap_remove.ensures.items ∙ length_gone rows p c.swap_remove.result within in
    let end : last + 1 ≡ length rows = omega (arith, c.len.ensures, many, within) in
    let moved = subst (λ k. IsMoved p last (key_hash k) c.self.inside.ring c.move_place.new.ring)
    (c.key_at-moved.ensures ∙ ap (λ xs. (row_at xs last).key) c.deref.ensures.value) c.move_place.ensures in
    record {
      reserved = omega (arith, c.self.invariant.reserved, c.swap_remove.ensures.capacity, c.move_place.ensures.places);
      few = omega (arith, c.self.invariant.few, c.move_place.ensures.places, c.move_place.ensures.buckets);
      mirrors = mirrors_moved p last long end within
          (λ lt. c.swap_remove.ensures.by_index.0 no_row (omega (arith, lt, end, many)) ∙ ap (row_at rows) (omega (arith, many, end)))
          (λ q ne lt. c.swap_remove.ensures.by_index.1 q no_row ne (omega (arith, lt, end, many))) c.self.invariant.mirrors moved;
      rows = rows_moved p last long end within
          (λ lt. c.swap_remove.ensures.by_index.0 no_row (omega (arith, lt, end, many)) ∙ ap (row_at rows) (omega (arith, many, end)))
          (λ q ne lt. c.swap_remove.ensures.by_index.1 q no_row ne (omega (arith, lt, end, many))) c.self.invariant.rows;
    }

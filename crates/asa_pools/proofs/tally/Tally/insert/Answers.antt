-- The first free place gets the key.
use Rattle.std.proofs.Common.{◌≡◌, ◌+◌, ◌%◌, length, refl, sym, ap, subst, ◌∙◌, arith}
use Rattle.asa_pools.specs.Keys.{key_hash}
use Rattle.asa_pools.specs.Tally.{AreRows, Mirrors}
use Rattle.asa_pools.proofs.KeyLaws.{same_key_self}
use Rattle.asa_pools.proofs.TallyLaws.{joined_last, mirrors_pushed, new_inside, room_left, rows_pushed}
use Rattle.asa_pools.proofs.tally.Tally.insert.Goals as goal

pub join-requires-clause-within : goal.join-requires-clause-within
join-requires-clause-within c = omega (arith, c.row_count-place.ensures, ap length c.deref.ensures.value, room_left c.self.inside c.args.self.now c.self.view_is c.self.invariant c.requires.few)

pub join-requires-clause-free : goal.join-requires-clause-free
join-requires-clause-free c = c.self.invariant.mirrors.free c.row_count-place.result
    (omega (arith, c.row_count-place.ensures, ap length c.deref.ensures.value, room_left c.self.inside c.args.self.now c.self.view_is c.self.invariant c.requires.few)) (omega (arith, c.row_count-place.ensures, ap length c.deref.ensures.value))

pub push_reserved-requires : goal.push_reserved-requires
push_reserved-requires c = omega (arith, room_left c.self.inside c.args.self.now c.self.view_is c.self.invariant c.requires.few, c.self.invariant.reserved, c.deref.ensures.len, ap length c.deref.ensures.value)

pub invariant_of-self : goal.invariant_of-self
invariant_of-self c =
    let rows = c.self.inside.rows.items in
    let room = room_left c.self.inside c.args.self.now c.self.view_is c.self.invariant c.requires.few in
    let joined = joined_last {r = c.self.inside.ring} {t = c.join.new.self} (length rows) (key_hash c.args.key % c.self.inside.ring.buckets) c.row_count-place.result (c.from.result + 1) c.bucket-bucket.result
    (c.row_count-place.ensures ∙ ap length c.deref.ensures.value) (omega (arith, c.from.ensures, c.row_count-place.ensures, ap length c.deref.ensures.value)) (c.bucket-bucket.ensures.value ∙ ap (λ n. key_hash c.args.key % n) c.buckets.ensures.value) c.join.ensures in
    record {
      reserved = omega (arith, c.self.invariant.reserved, c.push_reserved.ensures.capacity, c.join.ensures.sizes.places);
      few = omega (arith, c.self.invariant.few, c.join.ensures.sizes.places, c.join.ensures.sizes.buckets);
      mirrors = subst (Mirrors c.join.new.self) (sym c.push_reserved.ensures.items)
          (mirrors_pushed c.self.invariant.mirrors c.args.key c.join.new.self room joined (record { key = c.args.key; count = 1 }) refl);
      rows = subst AreRows (sym c.push_reserved.ensures.items)
          (rows_pushed rows c.args.key c.self.invariant.rows (new_inside c.self.inside c.args.self.now c.self.view_is c.self.invariant c.args.key c.requires.new) (same_key_self c.args.key));
    }

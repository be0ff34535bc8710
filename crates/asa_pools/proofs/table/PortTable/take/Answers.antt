-- Both keys of the value are counted once more.
use Rattle.std.proofs.Common.{◌≡◌, ◌+◌, Bool, true, ap, subst, ◌∙◌, arith}
use Rattle.std.proofs.lemmas.Bool.{and_parts}
use Rattle.asa_pools.specs.declared.key.Key.{Key}
use Rattle.asa_pools.specs.Pools.{OneMore}
use Rattle.asa_pools.specs.Table.{bound_list, held_list, key_of, part_of}
use Rattle.asa_pools.specs.Tally.{once, times}
use Rattle.asa_pools.proofs.TableLaws.{counted_more, has_room, one_more}
use Rattle.asa_pools.proofs.table.PortTable.take.Goals as goal

pub add-requires : goal.add-requires
add-requires c = record { few = omega (arith, (has_room c.self.inside c.args.self.now c.self.view_is c.self.invariant (and_parts _ _ c.requires).0).1) }

pub add-requires-2 : goal.add-requires-2
add-requires-2 c = record {
  few = omega (
    arith,
    (has_room c.self.inside c.args.self.now c.self.view_is c.self.invariant (and_parts _ _ c.requires).0).1,
    c.add.ensures.each (λ _. true),
    c.add.ensures.room,
  );
}

pub overflow_add-self : goal.overflow_add-self
overflow_add-self c = omega (arith, (has_room c.self.inside c.args.self.now c.self.view_is c.self.invariant (and_parts _ _ c.requires).0).0, c.self.invariant.few)

pub invariant_of-self : goal.invariant_of-self
invariant_of-self c =
    let rows = c.self.inside.tally.rows in
    let m = c.args.m.now in
    let each : (t : Key → Bool) → times t c.add-2.new.self.rows ≡ times t rows + once t (key_of m c.args.ifc c.args.proto c.args.src) + once t (part_of m c.args.proto) =
    λ t. omega (arith, c.add.ensures.each t, c.add-2.ensures.each t, ap (once t) c.key_of.ensures, ap (once t) c.part_of.ensures) in
    record {
      room = c.add-2.ensures.room ∙ c.add.ensures.room ∙ c.self.invariant.room;
      few = c.self.invariant.few;
      used = omega (arith, c.self.invariant.used, each (λ _. true));
      counted = counted_more c.args.ifc c.args.proto c.args.src rows c.add-2.new.self.rows m each c.self.invariant.counted;
    }

pub returns-clause-lists : goal.returns-clause-lists
returns-clause-lists c =
    let rows = c.self.inside.tally.rows in
    let more = c.add-2.new.self.rows in
    let m = c.args.m.now in
    subst (λ v. OneMore m c.args.ifc c.args.proto c.args.src v (record { held = held_list more; bound = bound_list more; room = c.self.inside.capacity })) c.self.view_is
    (one_more c.args.ifc c.args.proto c.args.src rows more m c.self.inside.capacity
    (λ t. omega (arith, c.add.ensures.each t, c.add-2.ensures.each t, ap (once t) c.key_of.ensures, ap (once t) c.part_of.ensures)))

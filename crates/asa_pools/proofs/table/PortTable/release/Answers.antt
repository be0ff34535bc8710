-- Both keys of the value are counted once less.
use Rattle.std.proofs.Common.{◌≡◌, ◌+◌, ◌<◌, Bool, true, nat_lt, sym, ap, subst, ◌∙◌, arith}
use Rattle.std.proofs.lemmas.Bool.{ltb-true}
use Rattle.asa_pools.specs.declared.key.Key.{Key}
use Rattle.asa_pools.specs.Keys.{same_key}
use Rattle.asa_pools.specs.Pools.{OneMore}
use Rattle.asa_pools.specs.Table.{bound_list, held_list, key_of, part_of}
use Rattle.asa_pools.specs.Tally.{once, times}
use Rattle.asa_pools.proofs.TableLaws.{counted_less, counts_held, one_more, part_left}
use Rattle.asa_pools.proofs.table.PortTable.release.Goals as goal

pub remove-requires : goal.remove-requires
remove-requires c = record {
  counted = ltb-true 0 (times (same_key c.key_of.result) c.self.inside.tally.rows)
      (ap (λ k. nat_lt 0 (times (same_key k) c.self.inside.tally.rows)) c.key_of.ensures
      ∙ counts_held c.self.inside c.args.self.now c.self.view_is c.args.m.now c.args.ifc c.args.proto c.args.src ∙ c.requires);
}

pub remove-requires-2 : goal.remove-requires-2
remove-requires-2 c =
    let rows = c.self.inside.tally.rows in
    let m = c.args.m.now in
    record {
      counted = subst (λ k. 0 < times (same_key k) c.remove.new.self.rows) (sym c.part_of.ensures)
          (part_left m c.args.ifc c.args.proto c.args.src rows c.remove.new.self.rows c.self.invariant.counted
          (ltb-true 0 (times (same_key (key_of m c.args.ifc c.args.proto c.args.src)) rows)
          (counts_held c.self.inside c.args.self.now c.self.view_is m c.args.ifc c.args.proto c.args.src ∙ c.requires))
          (λ t. omega (arith, c.remove.ensures.each t, ap (once t) c.key_of.ensures)));
    }

pub invariant_of-self : goal.invariant_of-self
invariant_of-self c =
    let rows = c.self.inside.tally.rows in
    let less = c.remove-2.new.self.rows in
    let m = c.args.m.now in
    let each : (t : Key → Bool) → times t rows ≡ times t less + once t (key_of m c.args.ifc c.args.proto c.args.src) + once t (part_of m c.args.proto) =
    λ t. omega (arith, c.remove.ensures.each t, c.remove-2.ensures.each t, ap (once t) c.key_of.ensures, ap (once t) c.part_of.ensures) in
    record {
      room = c.remove-2.ensures.room ∙ c.remove.ensures.room ∙ c.self.invariant.room;
      few = c.self.invariant.few;
      used = omega (arith, c.self.invariant.used, each (λ _. true));
      counted = counted_less c.args.ifc c.args.proto c.args.src less rows m each c.self.invariant.counted;
    }

pub returns-clause-lists : goal.returns-clause-lists
returns-clause-lists c =
    let rows = c.self.inside.tally.rows in
    let less = c.remove-2.new.self.rows in
    let m = c.args.m.now in
    subst (λ v. OneMore m c.args.ifc c.args.proto c.args.src (record { held = held_list less; bound = bound_list less; room = c.self.inside.capacity }) v) c.self.view_is
    (one_more c.args.ifc c.args.proto c.args.src less rows m c.self.inside.capacity
    (λ t. omega (arith, c.remove.ensures.each t, c.remove-2.ensures.each t, ap (once t) c.key_of.ensures, ap (once t) c.part_of.ensures)))

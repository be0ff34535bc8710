-- A mark changes neither the id nor a key.
use Rattle.std.proofs.Common.{◌≡◌, ◌<◌, ◌∙◌, Some, None, length, refl, sym, ap, subst, arith}
use Rattle.std.proofs.lemmas.List.{get_or_read}
use Rattle.asa_conn_table.specs.Shelf.{IsShelf}
use Rattle.asa_conn_table.specs.Slots.{Slots, slot}
use Rattle.asa_conn_table.proofs.ShelfLaws.{kept_mirrors, marked_mirrors}
use Rattle.asa_conn_table.proofs.shelf.Shelf.mark.Goals.{in-Some, in_default}
use Rattle.asa_conn_table.proofs.shelf.Shelf.mark.Goals as goal

pub invariant_of-self : goal.invariant_of-self
invariant_of-self c =
    let p = c.args.place in
    let k = c.self.invariant in
    let xs = c.self.inside.slots.items in
    let lt : p < length xs = omega (arith, c.requires.within, ap (λ (s : Slots). length s.slots) c.self.view_is) in
    let read : c.index_mut.result.now ≡ slot xs p = get_or_read xs p c.index_mut.result.now lt c.index_mut.ensures.value None in
    elim c.match-index_mut.branch [
      | in-Some w ↦
          let here : slot xs p ≡ Some w.in-Some.conn = sym read ∙ w.in-Some.is in
          subst IsShelf (sym w.self-inside-is) (record {
            forward = marked_mirrors k.forward p w.in-Some.conn w.mark.new.self c.args.side c.args.now here w.mark.ensures refl;
            reply = marked_mirrors k.reply p w.in-Some.conn w.mark.new.self c.args.side c.args.now here w.mark.ensures refl;
            ids = marked_mirrors k.ids p w.in-Some.conn w.mark.new.self c.args.side c.args.now here w.mark.ensures refl;
            order = marked_mirrors k.order p w.in-Some.conn w.mark.new.self c.args.side c.args.now here w.mark.ensures refl;
          })
      | in_default w ↦ subst IsShelf (sym w.self-inside-is) (record {
        forward = kept_mirrors k.forward p c.index_mut.result.now read;
        reply = kept_mirrors k.reply p c.index_mut.result.now read;
        ids = kept_mirrors k.ids p c.index_mut.result.now read;
        order = kept_mirrors k.order p c.index_mut.result.now read;
      })
    ]

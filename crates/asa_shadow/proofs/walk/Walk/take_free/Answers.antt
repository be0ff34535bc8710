use Rattle.asa_shadow.proofs.WalkLaws.{steps_free}
use Rattle.asa_shadow.proofs.walk.Walk.take_free.Goals as goal

pub returns : goal.returns
returns c =
    steps_free c.args.boxes.now c.args.part.now c.args.self.now c.note_packet.new.self c.requires c.note_packet.ensures.waiting c.note_packet.ensures.nodes
    (rw c.least.ensures at c.note_packet.ensures.found)

-- The neighbours of the place that leaves are linked.
use Rattle.asa_rings.proofs.RingLaws.{parted_ring}
use Rattle.asa_rings.proofs.ring.Ring.part.Goals as goal

pub invariant_of-self : goal.invariant_of-self
invariant_of-self c = parted_ring c.args.self.now c.self.view_is c.self.invariant c.args.place c.index-below.result.now c.index-above.result.now c.index-below.ensures c.index-above.ensures c.requires.within c.requires.joined

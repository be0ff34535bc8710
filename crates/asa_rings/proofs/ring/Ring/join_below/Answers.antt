-- The place is linked between its two neighbours.
use Rattle.asa_rings.proofs.RingLaws.{joined_ring}
use Rattle.asa_rings.proofs.ring.Ring.join_below.Goals as goal

pub invariant_of-self : goal.invariant_of-self
invariant_of-self c = joined_ring c.args.self.now c.self.view_is c.self.invariant c.args.place c.args.above c.args.mark c.index-home.result.now c.index-below.result.now c.index-below.ensures c.index-home.ensures c.requires.within c.requires.free c.requires.there c.requires.positive c.requires.lower c.requires.upper

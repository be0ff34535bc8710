-- The links say what the next place up is.
use Rattle.asa_rings.proofs.RingLaws.{reads_newer}
use Rattle.asa_rings.proofs.ring.Ring.newer.Goals as goal

pub returns : goal.returns
returns c = record { next = λ b home. reads_newer c.args.self.now c.self.view_is c.self.invariant c.args.at c.index.result.now b c.index.ensures c.requires home }

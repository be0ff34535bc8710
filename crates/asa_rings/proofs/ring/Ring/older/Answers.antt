-- The links say what the next place down is.
use Rattle.asa_rings.proofs.RingLaws.{reads_older}
use Rattle.asa_rings.proofs.ring.Ring.older.Goals as goal

pub returns : goal.returns
returns c = record { next = λ b home. reads_older c.args.self.now c.self.view_is c.self.invariant c.args.at c.index.result.now b c.index.ensures c.requires home }

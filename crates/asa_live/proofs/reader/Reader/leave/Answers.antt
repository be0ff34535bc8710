use Rattle.asa_live.proofs.reader.Reader.leave.Goals as goal

pub invariant_of-self : goal.invariant_of-self
invariant_of-self g c = let known = c.self.invariant in (known.0, cc (known.1), known.2)

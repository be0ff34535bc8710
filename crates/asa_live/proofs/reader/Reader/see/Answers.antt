use Rattle.std.proofs.Common.{ap}
use Rattle.asa_live.proofs.reader.Reader.see.Goals as goal

pub invariant_of-self : goal.invariant_of-self
invariant_of-self g c =
    let knows = c.self.invariant in (knows.0, knows.1, cc (knows.2, ap (λ v. v.copies) c.self.view_is, c.requires.book))

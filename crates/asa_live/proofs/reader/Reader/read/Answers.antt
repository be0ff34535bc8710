use Rattle.asa_live.proofs.reader.Reader.read.Goals as goal

pub invariant_of-self-2 : goal.invariant_of-self-2
invariant_of-self-2 g c =
    let knows = c.replace_with.ensures.0 in (knows.0, knows.1, cc (knows.2, c.in-Some.ensures.1.0.1))

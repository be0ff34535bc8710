use Rattle.std.proofs.Common.{refl, sym, ap, subst, ◌∙◌}
use Rattle.asa_live.specs.History.{Reaches}
use Rattle.asa_live.specs.Phases.{known_of}
use Rattle.asa_live.proofs.reader.enter.Goals as goal

pub enter-requires : goal.enter-requires
enter-requires g c =
    let knows = c.requires.knows in (knows.0, cc (knows.1, ap (λ p. known_of p) c.in-Out.is), knows.2)

pub returns-in-Ok-clause-opened : goal.returns-in-Ok-clause-opened
returns-in-Ok-clause-opened g c =
    let half = c.in-Ok.given.reading.part.value in
    let same = c.again-front.ensures ∙ ap (λ h. h.front) c.half.ensures in (
      half.state,
      refl,
      subst (λ f. Reaches g.M.Machine.is_first g.M.Machine.next g.M.Machine.fits f.seen.log half.state) (sym same) c.in-Ok.ensures.reached,
    )

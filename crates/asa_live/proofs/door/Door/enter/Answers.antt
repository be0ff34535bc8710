use Rattle.std.proofs.Common.{sym, ◌∙◌}
use Rattle.asa_live.proofs.StepLaws.{looks}
use Rattle.asa_live.proofs.door.Door.enter.Goals as goal

pub enter_as-requires : goal.enter_as-requires
enter_as-requires g c = looks g.M.Machine.is_first g.M.Machine.next g.M.Machine.fits (λ h. h.state) (λ h. h.front) _ _

pub returns-in-Ok-clause-inside : goal.returns-in-Ok-clause-inside
returns-in-Ok-clause-inside g c =
    let known = c.requires in
    let looked = c.in-Ok.ensures.1 in (c.in-Ok.reading.part.value.front, looked.2, sym (looked.1 known.0 known.1).0 ∙ known.2)

pub returns-in-Ok-2-clause-outside : goal.returns-in-Ok-2-clause-outside
returns-in-Ok-2-clause-outside g c =
    let known = c.requires in
    let looked = c.in-Ok.ensures.1 in (c.in-Ok.reading.part.value.front, c.leave.ensures.1 ∙ looked.2, sym (looked.1 known.0 known.1).0 ∙ known.2)

pub returns-in-Err-clause-outside : goal.returns-in-Err-clause-outside
returns-in-Err-clause-outside g c = (c.requires.0, c.in-Err.ensures.1 ∙ c.requires.1, c.requires.2)

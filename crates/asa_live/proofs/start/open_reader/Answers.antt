use Rattle.asa_live.proofs.StepLaws.{admits, forks, merges}
use Rattle.asa_live.proofs.start.open_reader.Goals as goal

pub reader-requires : goal.reader-requires
reader-requires g c = admits g.M.Machine.is_first g.M.Machine.next g.M.Machine.fits (λ h. h.state) (λ h. h.front)

pub tell-requires : goal.tell-requires
tell-requires g c = forks g.M.Machine.is_first g.M.Machine.next g.M.Machine.fits (λ h. h.state) (λ h. h.front) _ _

pub learn-requires-clause-rule : goal.learn-requires-clause-rule
learn-requires-clause-rule g c = merges g.M.Machine.is_first g.M.Machine.next g.M.Machine.fits (λ h. h.state) (λ h. h.front) _ _ _ _

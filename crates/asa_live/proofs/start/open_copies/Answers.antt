use Rattle.asa_live.proofs.StepLaws.{republishes}
use Rattle.asa_live.proofs.start.open_copies.Goals as goal

pub publish_as-copies-requires : goal.publish_as-copies-requires
publish_as-copies-requires g c next is =
    let same = rw c.in_ok-copies.ensures.1 at is in
    republishes g.M.Machine.is_first g.M.Machine.next g.M.Machine.fits (λ h. h.state) (λ h. h.front) _ _ c.in_ok-copies.copies.desk.shown.value next same

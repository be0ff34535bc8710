use Rattle.std.proofs.Common.{sym, ap, subst, ◌∙◌, [], ◌∷◌, ◌++◌}
use Rattle.asa_live.proofs.PublishLaws.{publishes}
use Rattle.asa_live.proofs.writer.publish.Goals as goal

pub publish_as-requires : goal.publish_as-requires
publish_as-requires g c next is =
    let shown = c.append.new.self.desk.shown.value in
    let change = c.args.job.1 in
    let pending = c.in-Ok.ensures.pending ∙ ap (λ ops. ops ++ change ∷ []) c.requires.none in
    let changed = rw pending at is in
    let same = ap (λ d. d.shown.value) (sym c.append.ensures.desk) in
    publishes g.M.Machine.is_first g.M.Machine.next g.M.Machine.fits (λ h. h.state) (λ h. h.front) _ _ shown next change.deed
    (ap (λ h. h.front.seen.book) changed ∙ (c.requires.book ∙ ap (λ h. h.front.seen.book) same))
    (ap (λ h. h.front.seen.log) changed ∙ (c.requires.next ∙ ap (λ h. h.front.seen.log ++ change.deed ∷ []) same))
    (subst (λ h. g.M.Machine.fits h.state change.deed.entry change.deed.load) same c.requires.fits)
    (ap (λ h. h.state) changed)

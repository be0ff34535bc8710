use Rattle.std.proofs.Common.{sym, ◌∙◌, ap, length}
use Rattle.asa_live.proofs.AddLaws.{adds_moves}
use Rattle.asa_live.proofs.front.Front.with.Goals as goal

pub compare_exchange-found-requires : goal.compare_exchange-found-requires
compare_exchange-found-requires g c =
    let h = c.requires in
    let again = c.again-seen.ensures in
    let offer = c.plain-offer.ensures in
    let pen = c.no_pen-pen.ensures in (
      ap (λ w. w.tracked) h,
      ap (λ s. s.book) again ∙ sym (ap (λ w. w.book) h),
      pen.0 ∙ (ap (λ s. s.book) again ∙ sym (ap (λ w. w.book) h)),
      offer.0,
      rw (ap (λ w. w.key) h, pen.1, offer.1, offer.3) (adds_moves c.again-seen.result.log c.args.deed.now c.args.self.now.count (ap (λ s. length s.log) again ∙ sym c.args.self.now.counted)),
    )

use Rattle.std.proofs.Common.{refl, subst}
use mathlib.Core.List.{IsPrefix}
use Rattle.asa_live.proofs.PrefixLaws.{begins_by}
use Rattle.asa_live.proofs.front.Front.begins.Goals as goal

pub returns : goal.returns
returns g c =
    let mine = c.args.self.now in
    let theirs = c.args.other.now in
    let both = c.learn.new.self.log in
    let this : IsPrefix mine.seen.log both = subst (λ s. IsPrefix s.log both) c.again-both.ensures c.learn.ensures.2 in
    rw (mine.counted, theirs.counted) (begins_by mine.seen.log theirs.seen.log both this c.learn.ensures.3 _ refl)

use Rattle.std.proofs.Common.{rules}
use Rattle.std.proofs.lemmas.Fn.{always_returns_same}
use Rattle.asa_nat_order.specs.Sections as spec
use Rattle.asa_nat_order.proofs.sections.sort_by_rank.Goals as goal

pub returns-clause-sorted : goal.returns-clause-sorted
returns-clause-sorted c =
    c.in_ok-sort_by_cached_key.ensures.sorted (spec.seat_at c.args.keys.now) (always_returns_same _ _ _ (λ a r g called. search rules))

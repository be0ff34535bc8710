use Rattle.std.proofs.Common.{◌≡◌, ◌<◌, ◌≤◌, ◌-◌, IsSomeAnd, Some, length, subst, sym, ap, ◌∙◌, arith}
use Rattle.std.specs.Option.{option_copied}
use Rattle.asa_config.specs.Settings.{list_among}
use Rattle.asa_config.specs.Names.{meanings_of}
use Rattle.asa_config.proofs.TakenLaws.{pairs_taken}
use Rattle.asa_config.proofs.config.Config.pairs_without_line.Goals as goal

pub pairs_at-requires : goal.pairs_at-requires
pairs_at-requires c = subst (λ o. IsSomeAnd o (λ l. c.args.place < length l.lines)) (sym (ap option_copied (sym c.in-Some.is) ∙ c.list.ensures)) c.requires

pub overflow_cast-result : goal.overflow_cast-result
overflow_cast-result c =
    let left = pairs_taken (meanings_of c.args.self.now) c.args.self.now.lists c.args.name.now c.args.place c.in-Some.acl.now c.pair_count.result c.in_ok-gone.gone
    (sym (ap option_copied (sym c.in-Some.is) ∙ c.list.ensures)) c.pair_count.ensures.value c.in_ok-gone.ensures in
    omega (arith, left.0, c.pair_count.ensures.few)

pub overflow_sub-result : goal.overflow_sub-result
overflow_sub-result c =
    let left = pairs_taken (meanings_of c.args.self.now) c.args.self.now.lists c.args.name.now c.args.place c.in-Some.acl.now c.pair_count.result c.in_ok-gone.gone
    (sym (ap option_copied (sym c.in-Some.is) ∙ c.list.ensures)) c.pair_count.ensures.value c.in_ok-gone.ensures in
    left.0

pub returns-clause-value : goal.returns-clause-value
returns-clause-value c =
    let left = pairs_taken (meanings_of c.args.self.now) c.args.self.now.lists c.args.name.now c.args.place c.in-Some.acl.now c.pair_count.result c.in_ok-gone.gone
    (sym (ap option_copied (sym c.in-Some.is) ∙ c.list.ensures)) c.pair_count.ensures.value c.in_ok-gone.ensures in
    left.1

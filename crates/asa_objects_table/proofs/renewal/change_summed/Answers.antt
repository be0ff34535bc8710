use Rattle.std.proofs.Common.{◌≡◌, Bool, cond, Result, Ok, Err, rules, sym, subst, ap, ◌∙◌}
use Rattle.asa_objects_values.specs.declared.faults.ObjectFault.{ObjectFault}
use Rattle.asa_objects_table.specs.Changes.{Replaces, changed_at}
use Rattle.asa_objects_table.specs.Ranks.{IsSound, rank_of}
use Rattle.asa_objects_values.specs.Tables.{Table}
use Rattle.asa_objects_table.specs.RunningTotals.{Renews}
use Rattle.asa_objects_table.specs.Renewals.{newer}
use Rattle.asa_objects_table.specs.Users.{AreUsed, AreUnused, unused_in}
use Rattle.asa_objects_table.proofs.MoveLaws.{move-told, move-refused, move-sound}
use Rattle.asa_objects_table.proofs.PutLaws.{set-newer}
use Rattle.asa_objects_table.proofs.ReplaceLaws.{sound-users}
use Rattle.asa_objects_table.proofs.renewal.change_summed.Goals as goal

pub returns-in_err-renewed-clause-answer : goal.returns-in_err-renewed-clause-answer
returns-in_err-renewed-clause-answer c =
    let same : c.from_residual-in_err-renewed.result ≡ Err c.in_err-renewed.field-0.0 = search rules in
    subst (λ (r : Result (Unit {0}) ObjectFault). Replaces c.args.values.now.entries c.args.values.now.entries (changed_at c.args.values.now.entries c.args.name.now c.args.change.now.gone.keys c.args.change.now.added) r) (sym same)
    (move-refused c.args.values.now.entries c.args.index.now.ranks.entries c.args.index.now.uses.entries c.args.index.now.stamp c.args.name.now c.args.change.now.gone.keys c.args.change.now.added c.args.names.now c.requires.sound c.requires.above c.requires.fits c.requires.there c.in_ok-effect.ensures.distinct c.requires.former c.in_ok-effect.effect.totals c.in_ok-effect.ensures.totals c.in_err-renewed.field-0.0
    (c.in_err-renewed.ensures (changed_at c.args.values.now.entries c.args.name.now c.args.change.now.gone.keys c.args.change.now.added)
    (move-told c.args.values.now.entries c.args.index.now.ranks.entries c.args.index.now.uses.entries c.args.index.now.stamp c.args.name.now c.args.change.now.gone.keys c.args.change.now.added c.args.names.now c.requires.sound c.requires.above c.requires.fits c.requires.there c.in_ok-effect.ensures.distinct c.requires.former c.in_ok-effect.effect.totals c.in_ok-effect.ensures.totals)))

pub returns-in_err-take_effect-clause-sound : goal.returns-in_err-take_effect-clause-sound
returns-in_err-take_effect-clause-sound c =
    subst (λ (t : Table). IsSound t c.args.index.now.ranks.entries c.take_effect.new.uses.entries c.args.index.now.stamp) (sym c.in_err-take_effect.ensures.err)
    (sound-users c.args.values.now.entries c.args.index.now.ranks.entries c.args.index.now.uses.entries c.take_effect.new.uses.entries c.args.index.now.stamp c.requires.sound c.in_err-take_effect.ensures.users_err)

pub returns-clause-sound : goal.returns-clause-sound
returns-clause-sound c =
    let renews : Renews (changed_at c.args.values.now.entries c.args.name.now c.args.change.now.gone.keys c.args.change.now.added) c.args.index.now.ranks.entries c.args.index.now.stamp c.args.names.now (Ok c.in_ok-renewed.renewed) =
    c.in_ok-renewed.ensures (changed_at c.args.values.now.entries c.args.name.now c.args.change.now.gone.keys c.args.change.now.added)
    (move-told c.args.values.now.entries c.args.index.now.ranks.entries c.args.index.now.uses.entries c.args.index.now.stamp c.args.name.now c.args.change.now.gone.keys c.args.change.now.added c.args.names.now c.requires.sound c.requires.above c.requires.fits c.requires.there c.in_ok-effect.ensures.distinct c.requires.former c.in_ok-effect.effect.totals c.in_ok-effect.ensures.totals) in
    subst (λ (t : Table). IsSound t c.set_ranks.new.ranks.entries c.take_effect.new.uses.entries c.in_ok-renewed.renewed.label) (sym c.in_ok-take_effect.ensures.ok)
    (move-sound c.args.values.now.entries c.args.index.now.ranks.entries c.args.index.now.uses.entries c.args.index.now.stamp c.args.name.now c.args.change.now.gone.keys c.args.change.now.added c.args.names.now c.requires.sound c.requires.above c.requires.fits c.requires.there c.in_ok-effect.ensures.distinct c.requires.former c.in_ok-effect.effect.totals c.in_ok-effect.ensures.totals c.in_ok-renewed.renewed.ranks.entries c.in_ok-renewed.renewed.label renews.0 renews.1
    c.set_ranks.new.ranks.entries (set-newer c.args.index.now.ranks.entries c.in_ok-renewed.renewed.ranks.entries c.set_ranks.new.ranks.entries c.args.names.now renews.0.covers c.set_ranks.ensures)
    c.in_ok-take_effect.ensures.users.0 c.take_effect.new.uses.entries
    (subst (λ rs. AreUsed c.args.index.now.uses.entries c.in_ok-take_effect.ensures.users.0 c.args.name.now (unused_in c.args.index.now.uses.entries rs c.args.name.now)) c.in_ok-effect.ensures.refs c.in_ok-take_effect.ensures.users.1)
    (subst (AreUnused c.in_ok-take_effect.ensures.users.0 c.take_effect.new.uses.entries c.args.name.now) c.in_ok-effect.ensures.freed c.in_ok-take_effect.ensures.users.2))

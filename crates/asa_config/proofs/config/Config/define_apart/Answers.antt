use Rattle.std.proofs.Common.{◌≡◌, ◌≤◌, false, Ok, Err, refl, subst, sym, rules}
use Rattle.asa_objects_values.specs.Definition.{defined}
use Rattle.asa_objects.specs.Frames.{KeepsOthers}
use Rattle.asa_config_edit.specs.Refusals.{Gives}
use Rattle.asa_config.specs.contracts.config.Config.{the_view}
use Rattle.asa_config.specs.Names.{pair_count}
use Rattle.asa_config.specs.Objects.{IsApart, object_step, with_objects}
use Rattle.asa_config.specs.Settings.{Settings}
use Rattle.asa_config.proofs.ObjectLaws.{kept_apart, made_apart, refused_object, when_taken}
use Rattle.asa_config.proofs.ApartLaws.{apart_from}
use Rattle.asa_config.proofs.config.Config.define_apart.Goals as goal

pub returns-in_err-told : goal.returns-in_err-told
returns-in_err-told c =
    let answer : Gives {X = Settings} (Err c.in_err-told.field-0.0) (object_step c.args.self c.args.block.now) =
    subst (λ s. Gives {X = Settings} (Err c.in_err-told.field-0.0) (object_step s c.args.block.now)) c.self.view_is
    (refused_object c.define.result c.told.result c.in_err-told.field-0.0 (the_view c.self.inside) c.define.new.self c.args.block.now c.told.ensures c.in_err-told.was c.define.ensures.value) in
    search (rules, answer)

pub invariant_of-self : goal.invariant_of-self
invariant_of-self c =
    let apart : IsApart (the_view c.self.inside) c.args.block.now = subst (λ s. IsApart s c.args.block.now) (sym c.self.view_is)
    (apart_from c.args.self c.args.block.now c.args.names.now false c.requires.reaching (sym c.requires.none) refl) in
    let taken : (defined c.self.inside.objects c.args.block.now ≡ Ok c.define.new.self) × KeepsOthers c.self.inside.objects c.define.new.self c.args.block.now =
    when_taken c.define.result c.told.result c.in_ok-told.field-0 c.self.inside.objects c.define.new.self _ _ c.told.ensures c.in_ok-told.was c.define.ensures.value c.define.ensures.kept in
    kept_apart (the_view c.self.inside) c.self.inside.pairs c.define.new.self c.args.block.now c.self.invariant apart taken.0 taken.1

pub returns : goal.returns
returns c =
    let apart : IsApart (the_view c.self.inside) c.args.block.now = subst (λ s. IsApart s c.args.block.now) (sym c.self.view_is)
    (apart_from c.args.self c.args.block.now c.args.names.now false c.requires.reaching (sym c.requires.none) refl) in
    let taken : (defined c.self.inside.objects c.args.block.now ≡ Ok c.define.new.self) × KeepsOthers c.self.inside.objects c.define.new.self c.args.block.now =
    when_taken c.define.result c.told.result c.in_ok-told.field-0 c.self.inside.objects c.define.new.self _ _ c.told.ensures c.in_ok-told.was c.define.ensures.value c.define.ensures.kept in
    subst (λ s. object_step s c.args.block.now ≡ Ok (with_objects (the_view c.self.inside) c.define.new.self)) c.self.view_is
    (made_apart (the_view c.self.inside) c.define.new.self c.args.block.now
    (subst (λ s. pair_count s ≤ 262144) (sym c.self.view_is) (subst (λ n. n ≤ 262144) c.pair_count-pairs.ensures.value c.pair_count-pairs.ensures.few))
    apart taken.0 taken.1)

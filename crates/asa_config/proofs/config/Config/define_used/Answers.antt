use Rattle.std.proofs.Common.{◌≡◌, ◌≤◌, Ok, Err, subst, sym, rules}
use Rattle.asa_objects_values.specs.Definition.{defined}
use Rattle.asa_objects.specs.Frames.{KeepsOthers}
use Rattle.asa_config_edit.specs.Refusals.{Gives}
use Rattle.asa_acl_table.specs.Names.{meanings_in, pairs_of_lists}
use Rattle.asa_config.specs.contracts.config.Config.{the_view}
use Rattle.asa_config.specs.Objects.{object_step, with_objects}
use Rattle.asa_config.specs.Settings.{Settings}
use Rattle.asa_config.proofs.ObjectLaws.{few_used, kept_objects, made_used, refused_object, refused_used, when_taken}
use Rattle.asa_config.proofs.config.Config.define_used.Goals as goal

pub returns-in_err-told : goal.returns-in_err-told
returns-in_err-told c =
    let answer : Gives {X = Settings} (Err c.in_err-told.field-0.0) (object_step c.args.self c.args.block.now) =
    subst (λ s. Gives {X = Settings} (Err c.in_err-told.field-0.0) (object_step s c.args.block.now)) c.self.view_is
    (refused_object c.define.result c.told.result c.in_err-told.field-0.0 (the_view c.self.inside) c.define.new.self c.args.block.now c.told.ensures c.in_err-told.was c.define.ensures.value) in
    search (rules, answer)

pub returns-in_err-pairs : goal.returns-in_err-pairs
returns-in_err-pairs c =
    let taken : (defined c.self.inside.objects c.args.block.now ≡ Ok c.define.new.self) × KeepsOthers c.self.inside.objects c.define.new.self c.args.block.now =
    when_taken c.define.result c.told.result c.in_ok-told.field-0 c.self.inside.objects c.define.new.self _ _ c.told.ensures c.in_ok-told.was c.define.ensures.value c.define.ensures.kept in
    let answer : Gives {X = Settings} (Err c.in_err-pairs.field-0.0) (object_step c.args.self c.args.block.now) =
    subst (λ s. Gives {X = Settings} (Err c.in_err-pairs.field-0.0) (object_step s c.args.block.now)) c.self.view_is
    (refused_used c.recounted.result c.in_err-pairs.field-0.0 (the_view c.self.inside) c.args.block.now c.define.new.self taken.0 c.in_err-pairs.was c.recounted.ensures) in
    search (rules, answer)

pub invariant_of-result : goal.invariant_of-result
invariant_of-result c =
    let few = few_used c.recounted.result c.in_ok-pairs.pairs (pairs_of_lists (meanings_in c.define.new.self c.self.inside.net.ifaces) c.self.inside.table) c.in_ok-pairs.was c.recounted.ensures in
    kept_objects c.self.inside.objects c.define.new.self c.self.inside.net c.self.inside.table c.self.inside.pairs c.in_ok-pairs.pairs c.self.inside.bound.items c.self.inside.global c.self.invariant
    few.0 (subst (λ n. n ≤ 262144) (sym few.0) few.1)

pub returns : goal.returns
returns c =
    let taken : (defined c.self.inside.objects c.args.block.now ≡ Ok c.define.new.self) × KeepsOthers c.self.inside.objects c.define.new.self c.args.block.now =
    when_taken c.define.result c.told.result c.in_ok-told.field-0 c.self.inside.objects c.define.new.self _ _ c.told.ensures c.in_ok-told.was c.define.ensures.value c.define.ensures.kept in
    let few = few_used c.recounted.result c.in_ok-pairs.pairs (pairs_of_lists (meanings_in c.define.new.self c.self.inside.net.ifaces) c.self.inside.table) c.in_ok-pairs.was c.recounted.ensures in
    subst (λ s. object_step s c.args.block.now ≡ Ok (with_objects (the_view c.self.inside) c.define.new.self)) c.self.view_is
    (made_used (the_view c.self.inside) c.args.block.now c.define.new.self taken.0 few.1)

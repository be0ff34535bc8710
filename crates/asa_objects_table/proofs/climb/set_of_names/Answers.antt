use Rattle.std.proofs.Common.{true, cond, ap, ◌∙◌, arith, rules}
use Rattle.std.proofs.lemmas.List.{take_all}
use Rattle.asa_objects_values.specs.Tables.{same_name}
use Rattle.asa_objects_table.specs.Ranks.{has_name}
use Rattle.asa_objects_table.proofs.UseLaws.{set-more}
use Rattle.asa_objects_table.proofs.climb.set_of_names.Goals as goal

pub loop-name-init : goal.loop-name-init
loop-name-init c = λ q. ap (λ ks. has_name ks q) c.new-set.ensures.empty

pub loop-name-preserved : goal.loop-name-preserved
loop-name-preserved c = set-more c.loop-name.set c.insert.new.self c.args.names.now c.loop-name.name-index c.name-item.result (omega arith) (search rules) c.loop-name.invariant
    (λ q. c.in_ok-insert.ensures.updates.0 q ∙ ap (λ k. cond (same_name k q) true (has_name c.loop-name.set.keys q)) c.copy.ensures)

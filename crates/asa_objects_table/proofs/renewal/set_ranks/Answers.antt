use Rattle.std.proofs.Common.{arith, rules}
use Rattle.asa_objects_table.proofs.PutLaws.{set-more-ranks}
use Rattle.asa_objects_table.proofs.renewal.set_ranks.Goals as goal

pub loop-name-preserved : goal.loop-name-preserved
loop-name-preserved c =
    set-more-ranks c.args.ranks.now.entries c.args.new.now.entries c.loop-name.ranks.entries c.set_new_rank.new.ranks.entries c.args.names.now c.loop-name.name-index c.name-item.result
    (omega arith) (search rules) c.loop-name.invariant c.set_new_rank.ensures

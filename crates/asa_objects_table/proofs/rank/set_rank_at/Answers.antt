use Rattle.std.proofs.Common.{Some, None, refl, sym}
use Rattle.asa_objects_table.proofs.PlaceLaws.{changed-place, not-at}
use Rattle.asa_objects_table.proofs.rank.set_rank_at.Goals as goal

pub returns-in-Some : goal.returns-in-Some
returns-in-Some c = changed-place c.args.ranks.now c.args.place c.args.rank c.get_index_mut.ensures.unique

pub returns-in_default : goal.returns-in_default
returns-in_default c = λ name there. not-at c.args.ranks.now.entries c.args.place _ (Some name) None there (sym c.in_default.ensures.value) refl

use Rattle.std.specs.Map.{keys_of}
use Rattle.asa_objects_table.proofs.PlaceLaws.{place-is}
use Rattle.asa_objects_table.proofs.rank.place_of.Goals as goal

pub returns-clause-place : goal.returns-clause-place
returns-clause-place c = place-is c.args.name.now (keys_of c.args.ranks.now.entries) c.get_index_of.result c.get_index_of.ensures.index

use Rattle.asa_config.specs.Settings.{list_among}
use Rattle.std.proofs.Common.{◌≡◌, subst, sym, ap, ◌∙◌}
use Rattle.asa_config.proofs.TakenLaws.{place_within}
use Rattle.asa_config.proofs.config.Config.remove_line.Goals as goal

pub pairs_without_line-requires : goal.pairs_without_line-requires
pairs_without_line-requires c = place_within c.args.old.now.item (list_among c.args.self.lists c.args.old.now.list) c.args.place c.requires.found

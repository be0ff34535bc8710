use Rattle.std.proofs.Common.{◌≡◌, is_some, subst, ◌∙◌}
use Rattle.asa_acl_table.specs.Lists.{first_using}
use Rattle.asa_config.specs.Objects.{list_using}
use Rattle.asa_config.proofs.ApartLaws.{listed_same}
use Rattle.asa_config.proofs.config.Config.is_listed.Goals as goal

pub returns : goal.returns
returns c =
    subst (λ s. c.is_used.result ≡ is_some (list_using s.lists c.args.name.now)) c.self.view_is
    (c.is_used.ensures ∙ listed_same (first_using c.self.inside.table c.args.name.now))

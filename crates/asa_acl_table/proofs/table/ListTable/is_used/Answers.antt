use Rattle.std.proofs.Common.{◌≡◌, nat_lt, is_some, subst, sym, ap, ◌∙◌}
use Rattle.asa_acl_table.specs.Lists.{first_using, values}
use Rattle.asa_acl_table.proofs.UseLaws.{used_times}
use Rattle.asa_acl_table.proofs.table.ListTable.is_used.Goals as goal

pub returns : goal.returns
returns c =
    subst (λ ts. c.has.result ≡ is_some (first_using ts c.args.name.now)) c.self.view_is
    (c.has.ensures ∙ ap (nat_lt 0) (c.self.invariant.used c.args.name.now) ∙ sym (used_times (values c.self.inside.lists.entries) c.args.name.now))

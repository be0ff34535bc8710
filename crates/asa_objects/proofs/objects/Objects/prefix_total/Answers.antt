use Rattle.std.proofs.Common.{sum_by, ap, ◌∙◌, arith}
use Rattle.asa_base.specs.Prefixes.{member_prefix_count}
use Rattle.asa_objects_values.specs.Tables.{Table, members_of}
use Rattle.asa_objects.proofs.objects.Objects.prefix_total.Goals as goal

pub returns-clause-value : goal.returns-clause-value
returns-clause-value c = c.prefixes.ensures.value ∙ c.totals.ensures.prefixes ∙ ap (λ (t : Table). sum_by member_prefix_count (members_of t c.args.name.now)) c.self.view_is

pub returns-clause-few : goal.returns-clause-few
returns-clause-few c = omega (arith, c.prefixes.ensures.few, c.totals.ensures.few_members)

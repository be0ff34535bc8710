use Rattle.std.proofs.Common.{sum_by, ap, ◌∙◌, arith}
use Rattle.asa_objects_values.specs.Sizes.{member_address_count}
use Rattle.asa_objects_values.specs.Tables.{Table, members_of}
use Rattle.asa_objects.proofs.objects.Objects.address_count.Goals as goal

pub returns-clause-value : goal.returns-clause-value
returns-clause-value c = c.addresses.ensures.value ∙ c.totals.ensures.addresses ∙ ap (λ (t : Table). sum_by member_address_count (members_of t c.args.name.now)) c.self.view_is

pub returns-clause-few : goal.returns-clause-few
returns-clause-few c = omega (arith, c.addresses.ensures.few, c.totals.ensures.few_members)

use Rattle.std.proofs.Common.{nat_lt, ap, ◌∙◌}
use Rattle.asa_objects_values.specs.Tables.{members_of}
use Rattle.asa_objects.proofs.SizeLaws.{some-subnet}
use Rattle.asa_objects.proofs.objects.Objects.has_subnet.Goals as goal

pub returns : goal.returns
returns c = ap (nat_lt 0) c.subnet_count.ensures ∙ some-subnet (members_of c.args.self.now c.args.name.now)

use Rattle.asa_objects_table.proofs.PassLaws.{times-code}
use Rattle.asa_objects_table.proofs.counts.times.Goals as goal

pub returns : goal.returns
returns c = times-code c.args.name.now c.copy.result c.copy-2.result c.args.stated.now.items c.has-as_object.result c.has-as_group.result c.one_if.result c.one_if-2.result
    c.has-as_object.ensures.distinct c.copy.ensures c.copy-2.ensures c.has-as_object.ensures.value c.has-as_group.ensures.value c.one_if.ensures c.one_if-2.ensures

use Rattle.asa_config.specs.Grammar.{binding_line}
use Rattle.asa_config.proofs.readers.binding_line.Goals as goal

pub returns-clause-value : goal.returns-clause-value
unfolding binding_line
returns-clause-value c = rw (c.in_ok-keyword.ensures, c.in_ok-list.ensures.value, c.in_ok-place.ensures.value, c.in_ok-group_end.ensures)

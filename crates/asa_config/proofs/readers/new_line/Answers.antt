use Rattle.asa_config.specs.Grammar.{new_line}
use Rattle.asa_config.proofs.ReadLaws.{may_after}
use Rattle.asa_config.proofs.readers.new_line.Goals as goal

pub returns-in-Ok-clause-value : goal.returns-in-Ok-clause-value
unfolding new_line
returns-in-Ok-clause-value c = rw (c.in_ok-keyword.ensures, c.in_ok-list.ensures, c.in_ok-place.ensures.value, c.in-Ok.ensures)

pub returns-in-Err-clause-value : goal.returns-in-Err-clause-value
unfolding new_line
returns-in-Err-clause-value c = rw (c.in_ok-keyword.ensures, c.in_ok-list.ensures, c.in_ok-place.ensures.value) (may_after _ _ _ c.in-Err.ensures)

use Rattle.asa_config.specs.Grammar.{old_line}
use Rattle.asa_config.proofs.ReadLaws.{may_after}
use Rattle.asa_config.proofs.readers.old_line.Goals as goal

pub returns-in-Ok-clause-value : goal.returns-in-Ok-clause-value
unfolding old_line
returns-in-Ok-clause-value c = rw (c.in_ok-keyword.ensures, c.in_ok-keyword-2.ensures, c.in_ok-list.ensures.value, c.in-Ok.ensures)

pub returns-in-Err-clause-value : goal.returns-in-Err-clause-value
unfolding old_line
returns-in-Err-clause-value c = rw (c.in_ok-keyword.ensures, c.in_ok-keyword-2.ensures, c.in_ok-list.ensures.value) (may_after _ _ _ c.in-Err.ensures)

-- the words that are passed over have no part in what is left
use Rattle.std.proofs.Common.{◌≡◌, length}
use Rattle.asa_acl_line.specs.Grammar.{past_log}
use Rattle.asa_acl_line.proofs.grammar.pass_log.Given as goal

abbrev pub invariant-loop-words : goal.invariant-loop-words
invariant-loop-words l = past_log l.words ≡ past_log l.initial.words

abbrev pub decreases-loop-words : goal.decreases-loop-words
decreases-loop-words l = length l.words.words

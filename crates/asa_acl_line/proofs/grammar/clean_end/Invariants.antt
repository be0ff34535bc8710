-- the words so far are clean
use Rattle.std.proofs.Common.{◌≡◌, length}
use Rattle.asa_acl_line.specs.Grammar.{clean_end}
use Rattle.asa_acl_line.proofs.grammar.clean_end.Given as goal

abbrev pub invariant-loop-word : goal.invariant-loop-word
invariant-loop-word l = clean_end l.words.end l.words.words ≡ clean_end l.initial.words.end l.initial.words.words

abbrev pub decreases-loop-word : goal.decreases-loop-word
decreases-loop-word l = length l.words.words

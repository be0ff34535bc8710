-- the words that are passed over begin before the column
use Rattle.std.proofs.Common.{◌≡◌, length}
use Rattle.asa_acl_line.specs.Grammar.{from_column}
use Rattle.asa_acl_line.proofs.grammar.pass_to_column.Given as goal

abbrev pub invariant-loop-words : goal.invariant-loop-words
invariant-loop-words l = from_column l.column l.words ≡ from_column l.column l.initial.words

abbrev pub decreases-loop-words : goal.decreases-loop-words
decreases-loop-words l = length l.words.words

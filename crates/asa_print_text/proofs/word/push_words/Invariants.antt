-- what was printed, then the words still to come, is the whole
use Rattle.std.proofs.Common.{◌≡◌, ◌++◌, drop, map}
use Rattle.asa_print_text.specs.Words.{word_text, after_words}
use Rattle.asa_print_text.proofs.word.push_words.Given as goal

abbrev pub invariant-loop-word : goal.invariant-loop-word
invariant-loop-word l = l.out.items ++ after_words (map word_text (drop l.word-index l.words)) ≡ l.initial.out.items ++ after_words (map word_text l.words)

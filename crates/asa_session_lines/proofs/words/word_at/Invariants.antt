use Rattle.std.proofs.Common.{◌≡◌, drop}
use Rattle.asa_session_lines.proofs.words.word_at.Given as goal

abbrev pub invariant-loop : goal.invariant-loop
invariant-loop l = l.rest.words ≡ drop l.counter l.words.words

-- the times so far and the words still to come give what the whole line gives
use Rattle.std.proofs.Common.{◌≡◌, length}
use Rattle.asa_ifaces.specs.Times.{times_at}
use Rattle.asa_ifaces.proofs.timeouts.read_times.Given as goal

abbrev pub invariant-loop-word : goal.invariant-loop-word
invariant-loop-word l = times_at l.times l.words ≡ times_at l.initial.times l.initial.words

abbrev pub decreases-loop-word : goal.decreases-loop-word
decreases-loop-word l = length l.words.words

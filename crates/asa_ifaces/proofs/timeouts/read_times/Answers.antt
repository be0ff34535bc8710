use Rattle.asa_ifaces.proofs.TimeLaws.{words_after, next_fewer}
use Rattle.asa_ifaces.proofs.timeouts.read_times.Goals as goal

pub loop-word-smaller : goal.loop-word-smaller
loop-word-smaller c =
    next_fewer c.loop-word.words c.next.new.self c.read_timed.new.words _ c.in-Some.ensures.word c.next.ensures.left
    (words_after _ _ _ _ _ c.in_ok-times.ensures)

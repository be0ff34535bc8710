use Rattle.asa_fib.proofs.growth.+grow.Given as goal

abbrev pub decreases-grow : goal.decreases-grow
decreases-grow l = l.levels

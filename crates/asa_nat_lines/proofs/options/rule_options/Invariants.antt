-- the words so far are in the options
use Rattle.std.proofs.Common.{◌≡◌, length}
use Rattle.asa_nat_lines.specs.Options.{options_in, no_options}
use Rattle.asa_nat_lines.proofs.options.rule_options.Given as goal

abbrev pub invariant-loop-word : goal.invariant-loop-word
invariant-loop-word l = options_in l.manual l.is_static l.options l.words.end l.words.words
    ≡ options_in l.manual l.is_static no_options l.initial.words.end l.initial.words.words

abbrev pub decreases-loop-word : goal.decreases-loop-word
decreases-loop-word l = length l.words.words

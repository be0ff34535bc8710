use Rattle.std.proofs.Common.{◌≡◌, sym, ap, ◌∙◌}
use Rattle.asa_text.specs.Lines.{after_end}
use Rattle.asa_config.specs.Settings.{nothing}
use Rattle.asa_session.specs.Openings.{startup_blocks}
use Rattle.asa_session.specs.Startup.{startup_config}
use Rattle.asa_session.proofs.OpeningLaws.{ended_some, opening_read}
use Rattle.asa_session.proofs.opening.read_opening.Goals as goal

pub returns : goal.returns
returns c =
    opening_read c.args.lines.now.lines c.in_ok-startup_blocks.field-0 c.in_ok-startup.startup.kept c.in_ok-startup.startup.passed c.in_ok-config.config
    c.cut_startup.new.lines.lines (sym (c.in_ok-startup_blocks.ensures ∙ ap startup_blocks c.in_ok-blocks.ensures.blocks)) c.in_ok-startup.ensures.kept c.in_ok-startup.ensures.passed
    (ap (startup_config nothing) (sym (c.as_slice.ensures ∙ c.in_ok-startup.ensures.kept)) ∙ c.in_ok-config.ensures)
    (ended_some (after_end c.args.lines.now.lines) c.in_ok-blocks.field-0.ended c.cut_startup.new.lines.lines c.in_ok-blocks.ensures.ended c.if-not-ended.false c.in_ok-blocks.ensures.left)

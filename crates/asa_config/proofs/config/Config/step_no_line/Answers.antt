use Rattle.std.proofs.Common.{subst, sym, ◌∙◌}
use Rattle.asa_config_edit.specs.Refusals.{Gives}
use Rattle.asa_config.proofs.TakenLaws.{no_line_steps}
use Rattle.asa_config.proofs.config.Config.step_no_line.Goals as goal

pub returns : goal.returns
returns c =
    subst (Gives c.remove_line.result)
    (sym (no_line_steps c.args.self c.args.block.now c.in_ok-old.old c.in-Some.place c.in_ok-alone.field-0 c.in_ok-old.ensures.value (sym c.place_in_list.ensures ∙ c.in-Some.is) (sym c.alone.ensures ∙ c.in_ok-alone.was)))
    c.remove_line.ensures

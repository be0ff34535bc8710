-- The blocks that are left, taken from here on, give what all of them give.
use Rattle.std.proofs.Common.{◌≡◌, drop}
use Rattle.asa_config.specs.Settings.{nothing}
use Rattle.asa_session.specs.Startup.{startup_config}
use Rattle.asa_session.proofs.startup.startup_config.Given as goal

abbrev pub invariant-loop-block : goal.invariant-loop-block
invariant-loop-block l = startup_config l.config (drop l.block-index l.blocks) ≡ startup_config nothing l.blocks

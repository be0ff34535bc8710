-- The step of a configuration by one block, and its fold over blocks.
use Rattle.std.specs.Prelude.{Bool, true, false, List, codes, fold, Ok, Err, if◌then◌else◌}
use Rattle.asa_text.specs.declared.blocks.Block.{Block}
use Rattle.asa_text.specs.Blocks.{inner_lines, top_text}
use Rattle.asa_text.specs.Words.{Left, line_left}
use Rattle.asa_text.specs.Readers.{after_one, next_is}
use Rattle.asa_config_edit.specs.declared.fault.EditFault.TheVariants.{NotBuilt}
use Rattle.asa_config_edit.specs.Classes.{is_passed, begins_object}
use Rattle.asa_config_edit.specs.Refusals.{Judged, ◌>>=◌, refused}
use Rattle.asa_config.specs.Settings.{Settings, nothing}
use Rattle.asa_config.specs.Net.{interface_step, route_step, no_route_step, timeout_step, permits_step}
use Rattle.asa_config.specs.Objects.{object_step, no_object_step, without_nat}
use Rattle.asa_config.specs.Lists.{line_step, no_line_step}
use Rattle.asa_config.specs.Groups.{group_step, no_group_step}

-- a block whose first word is `no`, by the word after it; NAT and the commit mode aren't built yet
unfoldable pub removal_step : Settings → Block → Left → Judged Settings
removal_step c b left =
    if next_is (codes "access-list") left then no_line_step c b
    else (if next_is (codes "access-group") left then no_group_step c b
    else (if next_is (codes "same-security-traffic") left then permits_step c b
    else (if next_is (codes "route") left then no_route_step c b
    else (if begins_object left then no_object_step c b
    else refused 1 NotBuilt))))

-- a block that begins neither with `no` nor an object or a group, by its first word
unfoldable pub other_step : Settings → Block → Bool → Left → Judged Settings
other_step c b startup left =
    if next_is (codes "interface") left then interface_step c b startup
    else (if next_is (codes "access-list") left then line_step c b
    else (if next_is (codes "access-group") left then group_step c b
    else (if next_is (codes "same-security-traffic") left then permits_step c b
    else (if next_is (codes "route") left then route_step c b
    else (if next_is (codes "timeout") left then timeout_step c b
    else refused 1 NotBuilt)))))

-- a block of this profile
unfoldable pub taken_step : Settings → Block → Bool → Left → Judged Settings
taken_step c b startup left =
    if next_is (codes "no") left then removal_step c b (after_one left)
    else (if begins_object left then (without_nat 2 (inner_lines b) >>= λ _. object_step c b) else other_step c b startup left)

-- the next configuration, or the refusal with its line in the block; `startup` tells that the block stands before `: end`.
-- A block that is passed over changes nothing.
unfoldable pub step : Settings → Block → Bool → Judged Settings
step c b startup = if is_passed b then Ok c else taken_step c b startup (line_left (top_text b))

-- an edit: a block, and whether it stands in the startup part
pub record Edit : Type 0 where
  pub block : Block
  pub startup : Bool

-- a block of the startup part
abbrev pub startup_edit : Block → Edit
startup_edit b = record { block = b; startup = true }

-- a block after the startup part
abbrev pub later_edit : Block → Edit
later_edit b = record { block = b; startup = false }

-- the configuration after an edit that is accepted
abbrev pub after_edit : Settings → Edit → Settings
after_edit c e = of_step (step c e.block e.startup)
  where
    of_step : Judged Settings → Settings
    of_step (Ok next) = next
    of_step (Err _) = c

-- the configuration of edits, from nothing
unfoldable pub config_of : List Edit → Settings
config_of edits = fold after_edit nothing edits

-- The limit on prefix pairs, which comes after every other.
use Rattle.std.specs.Prelude.{nat_le, Ok, if◌then◌else◌}
use Rattle.asa_config_edit.specs.declared.fault.EditFault.TheVariants.{TooLarge}
use Rattle.asa_config_edit.specs.Refusals.{Judged, refused}
use Rattle.asa_acl_table.specs.Limits.{capped}
use Rattle.asa_config.specs.Settings.{Settings}
use Rattle.asa_config.specs.Names.{pair_count}

-- the configuration is taken where its lists have at most 262,144 prefix pairs together
unfoldable pub fitting : Settings → Judged Settings
fitting c = if nat_le (pair_count c) 262144 then Ok c else refused 1 (TooLarge (capped (pair_count c)))

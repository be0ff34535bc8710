-- What holds of every accepted session, and what the machine stands on.
use Rattle.std.specs.Prelude.{◌≡◌, ℕ, ◌≤◌, Bool, List, map, length, All, IsTrue}
use Rattle.std.specs.List.{flat_map, range_with_len}
use Rattle.asa_ifaces.specs.Interfaces.{is_named}
use Rattle.asa_config.specs.Settings.{Settings}
use Rattle.asa_config.specs.Steps.{startup_edit, config_of}
use Rattle.asa_session.specs.declared.session.Command.{Command}
use Rattle.asa_session.specs.declared.session.Command.TheVariants as command
use Rattle.asa_session.specs.declared.session.Session.{Session}

-- the packet of the command comes in on a named interface
abbrev pub enters_named : Settings → Command → Bool
enters_named c (command.Packet p) = is_named c.net p.ifc

-- the commands of all phases, in the order of the text
abbrev pub commands_of : Session → List (ℕ × ℕ × Command)
commands_of s = flat_map (λ phase. phase.commands) s.phases

pub record IsReady (s : Session) : Type 0 where
  -- the configuration is that of the startup blocks
  pub configured : s.config ≡ config_of (map startup_edit s.startup)
  -- each packet comes in on a named interface
  pub named : All (λ asked. IsTrue (enters_named s.config asked.2)) (commands_of s)
  -- each command is lane 1's, and their indices count from 1
  pub one_lane : All (λ asked. asked.0 ≡ 1) (commands_of s)
  pub indices : map (λ asked. asked.1) (commands_of s) ≡ range_with_len 1 (length (commands_of s))
  -- the limit holds
  pub few_commands : length (commands_of s) ≤ 8192

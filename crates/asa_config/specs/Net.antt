-- Blocks of interfaces, and the lines of routes, times and same security.
use Rattle.std.specs.Prelude.{Bool, Ok, Err, Result, if◌then◌else◌}
use Rattle.asa_text.specs.declared.blocks.Block.{Block}
use Rattle.asa_ifaces.specs.declared.iface.IfaceFault.{IfaceFault}
use Rattle.asa_ifaces.specs.declared.iface.IfaceFault.TheVariants as net
use Rattle.asa_ifaces.specs.declared.iface.RouteLine.{RouteLine}
use Rattle.asa_ifaces.specs.Interfaces.{Interfaces}
use Rattle.asa_ifaces.specs.Blocks as blocks
use Rattle.asa_ifaces.specs.Routes.{route_line, no_route_line, route_added, has_route, without_route}
use Rattle.asa_ifaces.specs.Times.{timeout_line, with_times}
use Rattle.asa_ifaces.specs.Permits.{permits_line, with_permits}
use Rattle.asa_config_edit.specs.declared.fault.EditFault.TheVariants.{NameTaken, NotAfterStartup, NoSuchLine, TooMany}
use Rattle.asa_config_edit.specs.declared.fault.EditRefusal.{EditRefusal}
use Rattle.asa_config_edit.specs.declared.fault.EditRefusal.TheVariants.{At, NoMemory}
use Rattle.asa_config_edit.specs.Refusals.{Judged, ◌>>=◌, refused, line_refusal, top_read, alone}
use Rattle.asa_config.specs.Settings.{Settings}
use Rattle.asa_config.specs.Limits.{fitting}

-- the refusal of a block for a fault of its interface or its route
abbrev pub net_refusal : IfaceFault → EditRefusal
net_refusal (net.Line line fault) = line_refusal line fault
net_refusal (net.NameTaken line) = At line NameTaken
net_refusal net.NoSuchLine = At 1 NoSuchLine
net_refusal net.TooMany = At 1 TooMany
net_refusal net.NoMemory = NoMemory

-- what the interfaces and routes are after a change of theirs
abbrev pub of_net : Result Interfaces IfaceFault → Judged Interfaces
of_net (Ok net) = Ok net
of_net (Err fault) = Err (net_refusal fault)

-- what a change of them answers
abbrev pub told : Result (Unit {0}) IfaceFault → Judged (Unit {0})
told (Ok u) = Ok u
told (Err fault) = Err (net_refusal fault)

-- the configuration with other interfaces and routes
abbrev pub with_net : Settings → Interfaces → Settings
with_net c net = record c { net = net }

-- an interface block stands in the startup part
abbrev pub in_startup : Bool → Judged (Unit {0})
in_startup startup = if startup then Ok tt else refused 1 NotAfterStartup

-- the configuration with other interfaces, as far as it fits
abbrev pub installed : Settings → Interfaces → Judged Settings
installed c net = fitting (with_net c net)

-- `interface HARDWARE` with its lines
unfoldable pub interface_step : Settings → Block → Bool → Judged Settings
interface_step c b startup = do
  _ ← in_startup startup
  net ← of_net (blocks.interface_step c.net b)
  installed c net

-- the configuration after a route is stated
unfoldable pub route_put : Settings → RouteLine → Judged Settings
route_put c route = of_net (route_added c.net route) >>= λ net. Ok (with_net c net)

-- `route ..`
unfoldable pub route_step : Settings → Block → Judged Settings
route_step c b = do
  route ← top_read b (route_line c.net)
  _ ← alone b
  route_put c route

-- a route that is there; another is a fault of the line that removes it
abbrev pub known_route : Settings → RouteLine → Judged (Unit {0})
known_route c route = if has_route c.net.routes route then Ok tt else refused 1 NoSuchLine

-- the configuration without a route
abbrev pub route_gone : Settings → RouteLine → Settings
route_gone c route = with_net c (record c.net { routes = without_route c.net.routes route })

-- `no route ..`
unfoldable pub no_route_step : Settings → Block → Judged Settings
no_route_step c b = do
  route ← top_read b (no_route_line c.net)
  _ ← known_route c route
  _ ← alone b
  Ok (route_gone c route)

-- `timeout ..`
unfoldable pub timeout_step : Settings → Block → Judged Settings
timeout_step c b = do
  times ← top_read b (timeout_line c.net.timeouts)
  _ ← alone b
  Ok (with_net c (with_times c.net times))

-- `same-security-traffic permit ..` and its `no`
unfoldable pub permits_step : Settings → Block → Judged Settings
permits_step c b = do
  permits ← top_read b permits_line
  _ ← alone b
  Ok (with_net c (with_permits c.net permits.inter permits.intra))

-- The policy machine of one thread: a state, what it answers to a command, and what its entries change.
use Rattle.std.specs.Prelude.{ℕ, ◌+◌, Bool, ◌&&◌, ◌==◌, nat_lt, List, [], ◌∷◌, ◌++◌, length, map, take, Option, Some, None, Result, Ok, Err, if◌then◌else◌}
use Rattle.std.specs.Option.{option_map}
use Rattle.asa_base.specs.declared.flow.Packet.{Packet}
use Rattle.asa_base.specs.declared.flow.Header.{Header}
use Rattle.asa_config.specs.Settings.{Settings}
use Rattle.asa_config.specs.Steps.{Edit, startup_edit, config_of}
use Rattle.asa_flow.specs.declared.outcomes.Decision.{Decision}
use Rattle.asa_flow.specs.declared.outcomes.DropReason.{DropReason}
use Rattle.asa_policy.specs.Decisions.{decide}
use Rattle.asa_session.specs.declared.session.Command.{Command}
use Rattle.asa_session.specs.declared.session.Command.TheVariants as command
use Rattle.asa_session.specs.declared.session.Session.{Session}
use Rattle.asa_core.specs.declared.history.Conn.{Conn}
use Rattle.asa_core.specs.declared.history.Entry.{Entry}
use Rattle.asa_core.specs.declared.history.Entry.TheVariants as entry
use Rattle.asa_core.specs.declared.history.Answer.{Answer}
use Rattle.asa_core.specs.declared.history.Answer.TheVariants as answer
use Rattle.asa_core.specs.declared.history.Load.{Load}
use Rattle.asa_core.specs.declared.history.Load.TheVariants as load
use Rattle.asa_flow.specs.Keys.{key_of, reply_key}

pub record Machine : Type 0 where
  -- the accepted edits, the startup blocks first
  pub edits : List Edit
  -- how many of them are published
  pub published : ℕ
  -- the live connections by rising id
  pub conns : List Conn
  -- how many connections may live at once
  pub capacity : ℕ
  -- the id of the next connection
  pub next : ℕ
  -- seconds since the start
  pub clock : ℕ

-- the configuration that rules: that of the published edits
abbrev pub ruling : Machine → Settings
ruling m = config_of (take m.published m.edits)

-- the state that a session starts from: all startup blocks are published, and nothing is connected
abbrev pub init : Session → ℕ → Machine
init s capacity = record { edits = map startup_edit s.startup; published = length s.startup; conns = []; capacity = capacity; next = 1; clock = 0 }

-- the header with which a packet leaves: its own source, since nothing translates it yet, and the real destination
abbrev pub out_of : Packet → Decision → Header
out_of p d = record { src = p.src; sport = p.sport; dst = d.dst; dport = d.dport }

-- the answer to a packet under what the ruling configuration decides. The packets of a session have ends of their own, so that
-- none of them follows a live connection, and they are no more than the capacity.
abbrev pub decided : Machine → Packet → Result Decision DropReason → Answer
decided m p (Err reason) = answer.Dropped reason m.published
decided m p (Ok d) = answer.Opened m.next d.egress (out_of p d) m.published d

-- the answer to a command
unfoldable pub reply : Machine → Command → Answer
reply m (command.Packet p) = decided m p (decide (ruling m) p).outcome

-- the connection that an answer opens for a packet
abbrev pub opened : Machine → Packet → Answer → Load
opened m p (answer.Opened id egress out policy d) = load.Opened (record { id = id; forward = key_of p; reply = reply_key p out egress; policy = policy; decision = d; used = m.clock })
opened m p (answer.Dropped _ _) = load.Nothing

-- what the entry of an answer to a command carries
abbrev pub load_of : Machine → Command → Answer → Load
load_of m (command.Packet p) a = opened m p a

-- the entry of an answer, which depends on nothing else
abbrev pub entry_of : ℕ → ℕ → Answer → Option Entry
entry_of lane index (answer.Opened id egress out policy d) = Some (entry.Opened lane index id)
entry_of lane index (answer.Dropped _ _) = None

-- the entry of an answer to a command, with its load
abbrev pub change_by : Machine → ℕ → ℕ → Command → Answer → Option (Entry × Load)
change_by m lane index c a = option_map (λ e. (e, load_of m c a)) (entry_of lane index a)

-- the entry with which a command changes the state, with its load
abbrev pub change : Machine → ℕ → ℕ → Command → Option (Entry × Load)
change m lane index c = change_by m lane index c (reply m c)

-- an entry's id and its connection's are the next id, and there is room
abbrev pub may_open : Machine → ℕ → Conn → Bool
may_open m id c = (id == m.next) && (c.id == m.next) && nat_lt (length m.conns) m.capacity

-- the state with one more connection
abbrev pub with_conn : Machine → Conn → Machine
with_conn m c = record m { conns = m.conns ++ c ∷ []; next = m.next + 1 }

-- the state after an entry with its load. An entry that can't be, or that carries what isn't its own, changes nothing.
unfoldable pub applied : Machine → Entry → Load → Machine
applied m (entry.Opened lane index id) (load.Opened c) = if may_open m id c then with_conn m c else m
applied m (entry.Opened lane index id) load.Nothing = m

-- the state after a command
abbrev pub changed : Machine → Option (Entry × Load) → Machine
changed m None = m
changed m (Some (e, l)) = applied m e l

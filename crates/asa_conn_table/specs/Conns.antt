-- Connections, and the list of the live ones by rising id.
use Rattle.std.specs.Prelude.{◌≡◌, ℕ, ◌-◌, ◌<◌, ◌≤◌, Bool, true, false, not, ◌&&◌, ◌||◌, ◌==◌, nat_lt, nat_le, if◌then◌else◌, List, length, Option, is_none, All, AllPairs}
use Rattle.std.specs.List.{filter, find, list_all}
use Rattle.std.specs.Option.{option_map}
use Rattle.asa_base.specs.declared.flow.Key.{Key}
use Rattle.asa_ifaces.specs.declared.iface.Timeouts.{Timeouts}
use Rattle.asa_conn_table.specs.declared.conn.Conn.{Conn}
use Rattle.asa_conn_table.specs.declared.conn.Side.{Side}
use Rattle.asa_conn_table.specs.declared.conn.Side.TheVariants as side

-- the live connections by rising id, and how many may live at once
pub record Table : Type 0 where
  pub conns : List Conn
  pub room : ℕ

-- whether two keys are the same in each field
abbrev pub same_key : Key → Key → Bool
same_key a b = (a.ifc == b.ifc) && (a.proto == b.proto) && (a.kind == b.kind) && (a.src.0 == b.src.0) && (a.sport == b.sport) && (a.dst.0 == b.dst.0) && (a.dport == b.dport)

-- whether a key is one of a connection's two
abbrev pub holds : Key → Conn → Bool
holds k c = same_key k c.forward || same_key k c.reply

-- whether a connection has this id
abbrev pub has_id : ℕ → Conn → Bool
has_id id c = c.id == id

-- the side that has a key, of a connection that holds it
abbrev pub side_of : Key → Conn → Side
side_of k c = if same_key k c.forward then side.Forward else side.Reply

-- the connection that holds a key, and the side that has it
abbrev pub found : Key → List Conn → Option (ℕ × Side)
found k conns = option_map (λ c. (c.id, side_of k c)) (find (holds k) conns)

-- the connection with an id
abbrev pub conn_of : ℕ → List Conn → Option Conn
conn_of id conns = find (has_id id) conns

-- the connections but the one with an id
abbrev pub without : ℕ → List Conn → List Conn
without id conns = filter (λ c. not (has_id id c)) conns

-- a connection is used now, if it has this id
abbrev pub touched : ℕ → ℕ → Conn → Conn
touched id now c = record c { used = if has_id id c then now else c.used }

-- whether a side is that of the packet that opened the connection
abbrev pub is_forward : Side → Bool
is_forward side.Forward = true
is_forward side.Reply = false

-- a FIN comes now from this side of a connection, if it has this id
abbrev pub marked : ℕ → Side → ℕ → Conn → Conn
marked id s now c = record c {
  fin_i = (has_id id c && is_forward s) || c.fin_i;
  fin_r = (has_id id c && not (is_forward s)) || c.fin_r;
  used = if has_id id c then now else c.used;
}

-- how long a connection may stand still, 0 for ever
abbrev pub time_of : Timeouts → Conn → ℕ
time_of t c =
    if c.forward.proto == 6 then (if c.fin_i || c.fin_r then t.half_closed else t.conn)
    else (if c.forward.proto == 1 then t.icmp else t.udp)

-- whether a connection has stood still for its time: no time passed for one that was last used later than now
abbrev pub is_idle : Timeouts → ℕ → Conn → Bool
is_idle t now c = nat_lt 0 (time_of t c) && nat_le (time_of t c) (now - c.used)

-- the least id of a connection that has stood still for its time
abbrev pub next_idle : Timeouts → ℕ → List Conn → Option ℕ
next_idle t now conns = option_map (λ c. c.id) (find (is_idle t now) conns)

-- the least id above one
abbrev pub next_after : ℕ → List Conn → Option ℕ
next_after id conns = option_map (λ c. c.id) (find (λ c. nat_lt id c.id) conns)

-- whether an id is above those of all live connections
abbrev pub is_newest : ℕ → List Conn → Bool
is_newest id conns = list_all (λ c. nat_lt c.id id) conns

-- whether a connection may be added: there is room, ids begin at 1 and rise, and no live connection holds a key of it, nor has
-- it one key twice
abbrev pub can_add : Table → Conn → Bool
can_add t c =
    nat_lt (length t.conns) t.room && nat_lt 0 c.id && is_newest c.id t.conns
    && is_none (found c.forward t.conns) && is_none (found c.reply t.conns) && not (same_key c.forward c.reply)

-- no key of one is a key of the other
pub record AreApart (c d : Conn) : Type 0 where
  pub forward : holds c.forward d ≡ false
  pub reply : holds c.reply d ≡ false

-- ids rise, all keys are distinct, and no more live than may
pub record IsSound (t : Table) : Type 0 where
  pub few : length t.conns ≤ t.room
  pub rising : AllPairs (λ c d. c.id < d.id) t.conns
  pub apart : AllPairs AreApart t.conns
  pub own : All (λ c. same_key c.forward c.reply ≡ false) t.conns

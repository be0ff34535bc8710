-- In the serial run each answered connection is added: there are as many entries as connections, and fewer than the capacity.
use Rattle.std.proofs.Common.{◌≡◌, ℕ, ◌+◌, ◌<◌, ◌≤◌, true, false, cond, List, [], ◌∷◌, ◌++◌, length, All, Option, Some, None, Result, Ok, Err, refl, ◌∙◌, subst, sym, zero-add, add-zero, arith, eq-eqb, lt-ltb, length-append, option_to_list}
use Rattle.std.specs.List.{flat_map}
use Rattle.std.proofs.lemmas.List.Elements.{All-push, All-nil, All-cons}
use Rattle.asa_base.specs.declared.flow.Packet.{Packet}
use Rattle.asa_flow.specs.declared.outcomes.Decision.{Decision}
use Rattle.asa_flow.specs.declared.outcomes.DropReason.{DropReason}
use Rattle.asa_policy.specs.Decisions.{decide}
use Rattle.asa_session.specs.declared.session.Command.{Command}
use Rattle.asa_session.specs.declared.session.Command.TheVariants as command
use Rattle.asa_session.specs.declared.session.PhaseText.{PhaseText}
use Rattle.asa_session.specs.declared.session.Session.{Session}
use Rattle.asa_session.specs.Readiness.{IsReady}
use Rattle.asa_core.specs.declared.history.Conn.{Conn}
use Rattle.asa_core.specs.declared.history.Entry.{Entry}
use Rattle.asa_core.specs.declared.history.Entry.TheVariants as entry
use Rattle.asa_core.specs.declared.history.Answer.{Answer}
use Rattle.asa_core.specs.declared.history.Answer.TheVariants as answer
use Rattle.asa_core.specs.declared.history.Load.{Load}
use Rattle.asa_core.specs.declared.history.Load.TheVariants as load
use Rattle.asa_flow.specs.Keys.{key_of, reply_key}
use Rattle.asa_core.specs.Machine.{Machine, ruling, init, out_of, decided, reply, entry_of, change_by, may_open, with_conn, applied, changed}
use Rattle.asa_core.specs.Numbers.{IsNumbered}
use Rattle.asa_core.specs.Serial.{Progress, started, asked, asked_all, phases_run, serial}

-- after some entries as many connections live, and the next id is the next number
pub record IsCounted (m : Machine) (entries : ℕ) : Type 0 where
  pub next : m.next ≡ entries + 1
  pub live : length m.conns ≡ entries

-- a connection with the next id can be added where there is room
pub may_open_next : (m : Machine) (c : Conn) → c.id ≡ m.next → length m.conns < m.capacity → may_open m m.next c ≡ true
may_open_next m c is room = rw (is, eq-eqb m.next m.next refl, lt-ltb (length m.conns) m.capacity room) refl

-- the connection that a packet opens
abbrev conn_of : Machine → Packet → Decision → Conn
conn_of m p d = record { id = m.next; forward = key_of p; reply = reply_key p (out_of p d) d.egress; policy = m.published; decision = d; used = m.clock }

-- adding a connection with the next id where there is room keeps the count
pub added : (m : Machine) (c : Conn) (n : ℕ) → c.id ≡ m.next → IsCounted m n → n < m.capacity → IsCounted (cond (may_open m m.next c) (with_conn m c) m) (n + 1)
added m c n id is room =
    let live : length m.conns ≡ n = is.live in
    let next : m.next ≡ n + 1 = is.next in
    rw (may_open_next m c id (omega arith)) (record { next = omega arith; live = omega (arith, length-append m.conns (c ∷ [])) })

-- a command's change keeps the count, whatever is decided
pub counted_by : (m : Machine) (lane index : ℕ) (p : Packet) (n : ℕ) (r : Result Decision DropReason) → IsCounted m n → n < m.capacity → IsCounted (changed m (change_by m lane index (command.Packet p) (decided m p r))) (n + length (option_to_list (entry_of lane index (decided m p r))))
unfolding applied
counted_by m lane index p n (Ok d) is room = added m (conn_of m p d) n refl is room
counted_by m lane index p n (Err why) is room = record { next = omega (arith, is.next); live = omega (arith, is.live) }

-- a command's change keeps the count
pub counted : (m : Machine) (lane index : ℕ) (c : Command) (n : ℕ) → IsCounted m n → n < m.capacity → IsCounted (changed m (change_by m lane index c (reply m c))) (n + length (option_to_list (entry_of lane index (reply m c))))
unfolding reply
counted m lane index (command.Packet p) n is room = counted_by m lane index p n (decide (ruling m) p).outcome is room

-- the answer to a command is numbered, whatever is decided
pub numbered_by : (m : Machine) (lane index : ℕ) (p : Packet) (n : ℕ) (r : Result Decision DropReason) → IsCounted m n → IsNumbered (record { lane = lane; index = index; number = n; answer = decided m p r })
numbered_by m lane index p n (Ok d) is = is.next
numbered_by m lane index p n (Err why) is = tt

-- the answer to a command is numbered
pub numbered : (m : Machine) (lane index : ℕ) (c : Command) (n : ℕ) → IsCounted m n → IsNumbered (record { lane = lane; index = index; number = n; answer = reply m c })
unfolding reply
numbered m lane index (command.Packet p) n is = numbered_by m lane index p n (decide (ruling m) p).outcome is

-- a change keeps the capacity
pub capacity_kept : (m : Machine) (ch : Option (Entry × Load)) → (changed m ch).capacity ≡ m.capacity
unfolding applied
capacity_kept m None = refl
capacity_kept m (Some (entry.Opened lane index id, load.Nothing)) = refl
capacity_kept m (Some (entry.Opened lane index id, load.Opened c)) = elim (may_open m id c) as (λ b. (cond b (with_conn m c) m).capacity ≡ m.capacity) [ true ↦ refl | false ↦ refl ]

-- an answer has one entry at most
pub one_entry : (lane index : ℕ) (a : Answer) → length (option_to_list (entry_of lane index a)) ≤ 1
one_entry lane index (answer.Opened id egress out policy d) = omega arith
one_entry lane index (answer.Dropped why policy) = omega arith

-- what holds at each moment of a phase that has room for more commands
pub record IsSound (before : ℕ) (at : Progress) (more capacity : ℕ) : Type 0 where
  pub count : IsCounted at.machine (before + length at.entries)
  pub numbers : All IsNumbered at.given
  pub kept : at.machine.capacity ≡ capacity
  pub room : (before + length at.entries) + more ≤ capacity

-- one command keeps it
pub asked_sound : (before : ℕ) (at : Progress) (c : ℕ × ℕ × Command) (more capacity : ℕ) → IsSound before at (more + 1) capacity → IsSound before (asked before at c) more capacity
asked_sound before at c more capacity is =
    let n : ℕ = before + length at.entries in
    let here : before + length at.entries < at.machine.capacity = omega (arith, is.kept, is.room) in
    let grown : length (at.entries ++ option_to_list (entry_of c.0 c.1 (reply at.machine c.2))) ≡ length at.entries + length (option_to_list (entry_of c.0 c.1 (reply at.machine c.2))) = length-append at.entries (option_to_list (entry_of c.0 c.1 (reply at.machine c.2))) in
    record {
      count = subst (λ k. IsCounted (changed at.machine (change_by at.machine c.0 c.1 c.2 (reply at.machine c.2))) k) (omega (arith, grown)) (counted at.machine c.0 c.1 c.2 (before + length at.entries) is.count here);
      numbers = All-push IsNumbered at.given _ is.numbers (numbered at.machine c.0 c.1 c.2 (before + length at.entries) is.count);
      kept = capacity_kept at.machine (change_by at.machine c.0 c.1 c.2 (reply at.machine c.2)) ∙ is.kept;
      room = omega (arith, grown, is.room, one_entry c.0 c.1 (reply at.machine c.2));
    }

-- the commands of a phase keep it
pub all_sound : (before : ℕ) (at : Progress) (cs : List (ℕ × ℕ × Command)) (more capacity : ℕ) → IsSound before at (length cs + more) capacity → IsSound before (asked_all before at cs) more capacity
all_sound before at [] more capacity is = subst (λ k. IsSound before at k capacity) (zero-add more) is
all_sound before at (c ∷ cs) more capacity is =
    all_sound before (asked before at c) cs more capacity
    (asked_sound before at c (length cs + more) capacity (subst (λ k. IsSound before at k capacity) (omega arith) is))

-- the answers of all phases are numbered
pub phases_numbered : (phases : List PhaseText) (m : Machine) (before : ℕ) → IsCounted m before → before + length (flat_map (λ phase. phase.commands) phases) ≤ m.capacity → All (λ phase. All IsNumbered phase.given) (phases_run m before phases)
phases_numbered [] m before is room = All-nil (λ phase. All IsNumbered phase.given)
phases_numbered (phase ∷ phases) m before is room =
    let after : Progress = asked_all before (started m) phase.commands in
    let split : length (phase.commands ++ flat_map (λ p. p.commands) phases) ≡ length phase.commands + length (flat_map (λ p. p.commands) phases) = length-append phase.commands (flat_map (λ p. p.commands) phases) in
    let first : IsSound before (started m) (length phase.commands + length (flat_map (λ p. p.commands) phases)) m.capacity
    = record { count = subst (IsCounted m) (sym (add-zero before)) is; numbers = All-nil IsNumbered; kept = refl; room = omega (arith, split, room) } in
    let last : IsSound before after (length (flat_map (λ p. p.commands) phases)) m.capacity = all_sound before (started m) phase.commands _ m.capacity first in
    All-cons (λ phase. All IsNumbered phase.given) _ _ last.numbers (phases_numbered phases after.machine (before + length after.entries) last.count (subst (λ k. before + length after.entries + length (flat_map (λ p. p.commands) phases) ≤ k) (sym last.kept) last.room))

-- the answers of the serial run of a session are numbered
pub serial_numbered : (s : Session) → IsReady s → All (λ phase. All IsNumbered phase.given) (serial s)
unfolding serial
serial_numbered s is = phases_numbered s.phases (init s 8192) 0 (record { next = refl; live = refl }) (omega (arith, is.few_commands))

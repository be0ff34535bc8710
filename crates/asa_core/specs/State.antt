-- What the fields of a state hold.
use Rattle.std.specs.Prelude.{◌≡◌, ◌+◌, ◌<◌, ◌≤◌, length, map, take, All, AllPairs}
use Rattle.std.specs.Vec.{vec_capacity}
use Rattle.asa_config.specs.Steps.{startup_edit, config_of}
use Rattle.asa_core.specs.declared.state.State.TheInside.{Inside}
use Rattle.asa_core.specs.Machine.{Machine}

abbrev pub machine_of : Inside → Machine
machine_of s = record { edits = map startup_edit s.edits.now; published = s.published; conns = s.conns.items; capacity = s.capacity; next = s.next; clock = s.clock }

-- the policy is the ruling configuration, there is room for all connections that may live, and their ids rise and don't run
-- ahead of them
pub record IsHeld (s : Inside) : Type 0 where
  pub rules : s.policy ≡ config_of (take s.published (map startup_edit s.edits.now))
  pub room : s.capacity ≤ vec_capacity s.conns
  pub few : length s.conns.items ≤ s.capacity
  pub ids : s.next ≤ length s.conns.items + 1
  pub below : All (λ c. c.id < s.next) s.conns.items
  pub rising : AllPairs (λ a b. a.id < b.id) s.conns.items

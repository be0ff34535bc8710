-- What each step of a decision finds: its detail, or why it drops the packet.
use Rattle.std.specs.Prelude.{ℕ, ◌/◌, ◌%◌, Bool, not, ◌&&◌, ◌||◌, ◌==◌, Option, Some, None, Result, Ok, Err, if◌then◌else◌}
use Rattle.asa_base.specs.declared.flow.Packet.{Packet}
use Rattle.asa_base.specs.declared.flow.NatPlace.{NatPlace}
use Rattle.asa_flow.specs.declared.outcomes.DropReason.{DropReason}
use Rattle.asa_flow.specs.declared.outcomes.DropReason.TheVariants as drop
use Rattle.asa_flow.specs.declared.outcomes.Detail.{Detail}
use Rattle.asa_flow.specs.declared.outcomes.Detail.TheVariants as detail
use Rattle.asa_decision.specs.declared.way.Way.{Way}

-- the detail of a step that lets the packet through, or the reason of the drop
abbrev pub Found : Type 0
Found = Result Detail DropReason

-- nothing to tell, or the drop
abbrev pub needs : Bool → DropReason → Found
needs holds why = if holds then Ok detail.None else Err why

-- this bit of the flags is set: S = 1, A = 2, F = 4, R = 8
abbrev pub has_flag : Packet → ℕ → Bool
has_flag p bit = (p.flags / bit) % 2 == 1

-- S is set, and none of A, F and R
abbrev pub is_syn : Packet → Bool
is_syn p = has_flag p 1 && not (has_flag p 2) && not (has_flag p 4) && not (has_flag p 8)

-- STATE: a TCP packet opens a connection only with S and without A, F and R
unfoldable pub state : Packet → Found
state p = needs (not (p.proto == 6) || is_syn p) drop.NotSyn

-- ROUTE-LOOKUP
abbrev pub routed : Option Way → Found
routed None = Err drop.NoRoute
routed (Some w) = Ok (detail.Routed w.route w.egress)

-- NAT: the place of the source case, where there is one, which must have something for the packet's protocol
abbrev pub translated : Option NatPlace → Bool → Found
translated None serves = Ok (detail.Place None)
translated (Some place) serves = if serves then Ok (detail.Place (Some place)) else Err (drop.NatProto place)

-- REVERSE-PATH: the places of the destination case and of the reply's source case, which must belong together
abbrev pub reversed : Bool → Option NatPlace → Option NatPlace → Found
reversed fits unnat reply = if fits then Ok (detail.Pair unnat reply) else Err (drop.ReversePath unnat reply)

-- The decision of a flow: the steps in order, up to the first drop.
use Rattle.std.specs.Prelude.{◌≡◌, ℕ, ◌+◌, ◌/◌, ◌%◌, Bool, false, not, ◌&&◌, ◌==◌, List, [], ◌∷◌, ◌++◌, Option, Some, None, Result, Ok, Err, if◌then◌else◌}
use Rattle.std.specs.List.{position}
use Rattle.asa_text.specs.declared.numbers.Addr.{Addr}
use Rattle.asa_base.specs.declared.flow.Packet.{Packet}
use Rattle.asa_base.specs.declared.flow.AccessBy.{AccessBy}
use Rattle.asa_base.specs.declared.flow.AccessBy.TheVariants as by
use Rattle.asa_ifaces.specs.declared.iface.Iface.{Iface}
use Rattle.asa_config.specs.Settings.{Settings}
use Rattle.asa_access.specs.declared.verdict.AccessVerdict.{AccessVerdict}
use Rattle.asa_access.specs.declared.verdict.AccessVerdict.TheVariants.{Permit, Deny}
use Rattle.asa_flow.specs.declared.outcomes.SourceMap.TheVariants.{Plain}
use Rattle.asa_flow.specs.declared.outcomes.Decision.{Decision}
use Rattle.asa_flow.specs.declared.outcomes.DropReason.{DropReason}
use Rattle.asa_flow.specs.declared.outcomes.DropReason.TheVariants as drop
use Rattle.asa_flow.specs.declared.outcomes.Phase.{Phase}
use Rattle.asa_flow.specs.declared.outcomes.Phase.TheVariants as phase
use Rattle.asa_flow.specs.declared.outcomes.Detail.{Detail}
use Rattle.asa_flow.specs.declared.outcomes.Detail.TheVariants as detail
use Rattle.asa_flow.specs.declared.outcomes.Step.{Step}
use Rattle.asa_ifaces_routes.specs.declared.candidates.Candidate.{Candidate}
use Rattle.asa_policy.specs.Access.{level_at, inbound, outbound, inbound_covering, outbound_covering}
use Rattle.asa_ifaces_routes.specs.Candidates.{route_of}

-- the steps that were taken, and what came of them
pub record Verdict : Type 0 where
  pub steps : List Step
  pub outcome : Result Decision DropReason

-- a trail that holds just the step FLOW-LOOKUP, which found no connection
abbrev pub IsBegun : List Step → Type 0
IsBegun steps = steps ≡ record { phase = phase.FlowLookup; detail = detail.None } ∷ []

-- a step that drops the packet
abbrev pub dropped : Phase → DropReason → Step
dropped at reason = record { phase = at; detail = detail.Dropped reason }

-- a step that lets the packet through, before the later ones
abbrev pub noted : Phase → Detail → Verdict → Verdict
noted at what more = record { steps = record { phase = at; detail = what } ∷ more.steps; outcome = more.outcome }

-- the step that drops the packet is the last
abbrev pub stopped : Phase → DropReason → Verdict
stopped at reason = record { steps = dropped at reason ∷ []; outcome = Err reason }

-- a step without a detail, which drops the packet where there is a reason
abbrev pub checked : Phase → Option DropReason → Verdict → Verdict
checked at None more = noted at detail.None more
checked at (Some reason) more = stopped at reason

-- a call took the verdict's steps and answered its outcome
pub record Takes (verdict : Verdict) (result : Result Decision DropReason) (old new : List Step) : Type 0 where
  pub outcome : result ≡ verdict.outcome
  pub steps : new ≡ old ++ verdict.steps

-- a call took the step that lets the packet through where there is no reason, and else the one that drops it
abbrev pub Checks : Phase → Option DropReason → Result (Unit {0}) DropReason → List Step → List Step → Type 0
Checks at reason (Ok _) old new = (reason ≡ None) × (new ≡ old ++ record { phase = at; detail = detail.None } ∷ [])
Checks at reason (Err why) old new = (reason ≡ Some why) × (new ≡ old ++ dropped at why ∷ [])

-- this bit of the flags is set: S = 1, A = 2, F = 4, R = 8
abbrev pub has_flag : Packet → ℕ → Bool
has_flag p bit = (p.flags / bit) % 2 == 1

-- STATE: a TCP packet opens a connection only with S and without A, F and R
unfoldable pub not_syn : Packet → Option DropReason
not_syn p = if (p.proto == 6) && not (has_flag p 1 && not (has_flag p 2) && not (has_flag p 4) && not (has_flag p 8)) then Some drop.NotSyn else None

-- the interface is named and has this address
abbrev pub owns : Addr → Iface → Bool
owns a i = of_parts i.name i.addr
  where
    of_parts : Option (List ℕ) → Option (Addr × ℕ) → Bool
    of_parts (Some _) (Some own) = own.0.0 == a.0
    of_parts _ _ = false

-- TO-THE-BOX: the first interface that has the address
unfoldable pub to_the_box : Settings → Addr → Option DropReason
to_the_box c a = of_ifc (position (owns a) c.net.ifaces)
  where
    of_ifc : Option ℕ → Option DropReason
    of_ifc None = None
    of_ifc (Some ifc) = Some (drop.ToTheBox ifc)

-- a reason to drop, unless the configuration permits what it speaks of
abbrev pub unless : Bool → DropReason → Option DropReason
unless permitted reason = if permitted then None else Some reason

-- SAME-SECURITY: within one interface, and between two of equal levels, only what is permitted
unfoldable pub same_security : Settings → ℕ → ℕ → Option DropReason
same_security c ifc egress =
    if egress == ifc then unless c.net.intra drop.IntraInterface
    else (if level_at c ifc == level_at c egress then unless c.net.inter drop.InterInterface else None)

-- what a flow is given that every step lets through: by what it comes in, and by what it goes out
abbrev pub decision_of : Packet → Candidate → AccessBy → AccessBy → Decision
decision_of p k way_in way_out = record {
  egress = k.egress;
  dst = p.dst;
  dport = p.dport;
  source = Plain;
  unnat = None;
  route = k.route;
  inbound = way_in;
  outbound = way_out;
}

-- ACCESS-LIST-OUT, the last step
unfoldable pub let_out : Packet → Candidate → AccessBy → AccessVerdict → Verdict
let_out p k way_in (Permit who) = noted phase.AccessListOut (detail.By who) (record { steps = []; outcome = Ok (decision_of p k way_in who) })
let_out p k way_in (Deny who) = stopped phase.AccessListOut (drop.AclOut who)

-- the steps NAT and REVERSE-PATH, which let everything through while there is no NAT, and the step after them
unfoldable pub through : Settings → Packet → Candidate → AccessBy → Verdict
through c p k way_in = noted phase.Nat (detail.Place None) (noted phase.ReversePath (detail.Pair None None)
    (let_out p k way_in (outbound c p k.egress)))

-- why the access rules drop a packet
abbrev pub denied : AccessBy → DropReason
denied by.Level = drop.Level
denied who = drop.AclIn who

-- ACCESS-LIST-IN and the steps after it
unfoldable pub listed : Settings → Packet → Candidate → AccessVerdict → Verdict
listed c p k (Permit who) = noted phase.AccessListIn (detail.By who) (through c p k who)
listed c p k (Deny who) = stopped phase.AccessListIn (denied who)

-- ROUTE-LOOKUP and the steps after it
unfoldable pub routed : Settings → Packet → Option Candidate → Verdict
routed c p None = stopped phase.RouteLookup drop.NoRoute
routed c p (Some k) = noted phase.RouteLookup (detail.Routed k.route k.egress)
    (checked phase.SameSecurity (same_security c p.ifc k.egress) (listed c p k (inbound c p k.egress)))

-- UN-NAT, which maps no destination while there is no NAT, and the steps after it
unfoldable pub aimed : Settings → Packet → Verdict
aimed c p = noted phase.UnNat (detail.Place None) (checked phase.ToTheBox (to_the_box c p.dst) (routed c p (route_of c.net p.dst)))

-- the steps from STATE on, and the decision or the drop
unfoldable pub decide : Settings → Packet → Verdict
decide c p = checked phase.State (not_syn p) (aimed c p)

-- how many prefix pairs of the lists that a decision asks cover the packet's addresses, by the route: without one no list
-- is asked
abbrev pub asked_covering : Settings → Packet → Option Candidate → ℕ
asked_covering c p None = 0
asked_covering c p (Some k) = inbound_covering c p + outbound_covering c p k.egress

-- how many sealed values a decision reads at most: 33 nodes of the routes, 3 times 1,122 of the lists, and the entries
-- that cover the packet
unfoldable pub most_read : Settings → Packet → ℕ
most_read c p = 3399 + asked_covering c p (route_of c.net p.dst)

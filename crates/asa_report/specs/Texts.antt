-- The words of the report for what was decided.
use Rattle.std.specs.Prelude.{ℕ, List, [], ◌++◌, codes, decimal, slice_get, Option, Some, None}
use Rattle.asa_text.specs.Printed.{address_port}
use Rattle.asa_base.specs.declared.flow.Header.{Header}
use Rattle.asa_base.specs.declared.flow.NatPlace.{NatPlace}
use Rattle.asa_base.specs.declared.flow.AccessBy.{AccessBy}
use Rattle.asa_base.specs.declared.flow.AccessBy.TheVariants as by
use Rattle.asa_ifaces.specs.declared.iface.Iface.{Iface}
use Rattle.asa_flow.specs.declared.outcomes.Route.{Route}
use Rattle.asa_flow.specs.declared.outcomes.Route.TheVariants as route
use Rattle.asa_flow.specs.declared.outcomes.SourceMap.{SourceMap}
use Rattle.asa_flow.specs.declared.outcomes.SourceMap.TheVariants as source
use Rattle.asa_flow.specs.declared.outcomes.Decision.{Decision}
use Rattle.asa_flow.specs.declared.outcomes.DropReason.{DropReason}
use Rattle.asa_flow.specs.declared.outcomes.DropReason.TheVariants as drop

-- a name, where there is one
abbrev pub name_text : Option (List ℕ) → List ℕ
name_text None = []
name_text (Some name) = name

-- the name of the interface with this number
abbrev pub name_of : List Iface → ℕ → List ℕ
name_of is n = of_iface (slice_get is n)
  where
    of_iface : Option Iface → List ℕ
    of_iface None = []
    of_iface (Some i) = name_text i.name

-- source, then destination
unfoldable pub header_text : Header → List ℕ
header_text h = address_port h.src h.sport ++ codes " > " ++ address_port h.dst h.dport

-- `-`, or section and place
unfoldable pub place_text : Option NatPlace → List ℕ
place_text None = codes "-"
place_text (Some p) = decimal p.section ++ codes "." ++ decimal p.place

-- how the egress was found; a static route by its number among the route lines
unfoldable pub route_text : Route → List ℕ
route_text route.Connected = codes "connected"
route_text (route.Static n) = codes "static " ++ decimal n
route_text route.Nat = codes "nat"

-- what decided on one side; `-` where no list is bound
unfoldable pub access_text : AccessBy → List ℕ
access_text by.NoList = codes "-"
access_text by.Level = codes "level"
access_text (by.List name line) = name ++ codes " " ++ decimal line
access_text (by.Global name line) = codes "global " ++ name ++ codes " " ++ decimal line
access_text by.Implicit = codes "implicit"

-- the place of the rule that maps the source
abbrev pub source_place : SourceMap → Option NatPlace
source_place source.Plain = None
source_place (source.Static place src sport) = Some place
source_place (source.Dynamic place pool) = Some place

-- the word of a drop, without its detail
unfoldable pub reason_word : DropReason → List ℕ
reason_word drop.NotSyn = codes "not-syn"
reason_word (drop.ToTheBox _) = codes "to-the-box"
reason_word drop.NoRoute = codes "no-route"
reason_word drop.InterInterface = codes "inter-interface"
reason_word drop.IntraInterface = codes "intra-interface"
reason_word (drop.AclIn _) = codes "acl-in"
reason_word drop.Level = codes "level"
reason_word (drop.NatProto _) = codes "nat-proto"
reason_word (drop.ReversePath _ _) = codes "reverse-path"
reason_word (drop.AclOut _) = codes "acl-out"
reason_word drop.ConnLimit = codes "conn-limit"
reason_word (drop.PoolExhausted _) = codes "pool-exhausted"
reason_word (drop.Collision _) = codes "collision"

-- the id of the connection that is in the way, or `self`
unfoldable pub collision_text : Option ℕ → List ℕ
collision_text None = codes "self"
collision_text (Some id) = decimal id

-- a space and the detail, where the reason has one
unfoldable pub reason_detail : List Iface → DropReason → List ℕ
reason_detail is (drop.ToTheBox ifc) = codes " " ++ name_of is ifc
reason_detail is (drop.AclIn who) = codes " " ++ access_text who
reason_detail is (drop.NatProto place) = codes " " ++ place_text (Some place)
reason_detail is (drop.ReversePath unnat back) = codes " " ++ place_text unnat ++ codes " " ++ place_text back
reason_detail is (drop.AclOut who) = codes " " ++ access_text who
reason_detail is (drop.PoolExhausted place) = codes " " ++ place_text (Some place)
reason_detail is (drop.Collision id) = codes " " ++ collision_text id
reason_detail is _ = []

-- how the destination and the egress were found
unfoldable pub way_text : Decision → List ℕ
way_text d = codes " unnat " ++ place_text d.unnat ++ codes " route " ++ route_text d.route

-- what permitted the flow on either side, and the rule that maps its source
unfoldable pub sides_text : Decision → List ℕ
sides_text d = codes " in " ++ access_text d.inbound ++ codes " nat " ++ place_text (source_place d.source) ++ codes " out " ++ access_text d.outbound

-- by which policy, translations, route and lists a flow goes
unfoldable pub decision_text : ℕ → Decision → List ℕ
decision_text policy d = codes " policy " ++ decimal policy ++ way_text d ++ sides_text d

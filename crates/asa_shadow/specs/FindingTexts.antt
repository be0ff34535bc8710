-- How the finding of a line is printed.
use Rattle.std.specs.Prelude.{ℕ, ◌==◌, List, ◌++◌, codes, decimal, if◌then◌else◌}
use Rattle.std.specs.List.{flat_map}
use Rattle.asa_text.specs.declared.numbers.Addr.{Addr}
use Rattle.asa_text.specs.Printed.{dotted}
use Rattle.asa_base.specs.declared.flow.Packet.{Packet}
use Rattle.asa_shadow.specs.declared.node.Node.{Node}
use Rattle.asa_shadow.specs.declared.node.Node.TheVariants as node
use Rattle.asa_shadow.specs.declared.finding.Finding.{Finding}
use Rattle.asa_shadow.specs.declared.finding.Finding.TheVariants as finding

-- a space and a node: its dimension and number, or the number of its box
unfoldable pub node_text : Node → List ℕ
node_text (node.Cut dim at) = codes " c" ++ decimal dim ++ codes ":" ++ decimal at
node_text (node.Covered by) = codes " b" ++ decimal by

-- the line of a tree
unfoldable pub tree_text : List Node → List ℕ
tree_text ns = codes "k" ++ flat_map node_text ns ++ codes "\n"

-- an address and a number
unfoldable pub end_text : Addr → ℕ → List ℕ
end_text a n = dotted a ++ codes " " ++ decimal n

-- source with its port, destination with its port
unfoldable pub ends_text : Packet → List ℕ
ends_text p = end_text p.src p.sport ++ codes " " ++ end_text p.dst p.dport

-- the identifier of an ICMP packet, which for an echo reply stands in the place of the destination port
abbrev pub identifier : Packet → ℕ
identifier p = if p.itype == 0 then p.dport else p.sport

-- ICMP type, code and identifier
unfoldable pub icmp_text : Packet → List ℕ
icmp_text p = decimal p.itype ++ codes " " ++ decimal p.icode ++ codes " " ++ decimal (identifier p)

-- an ICMP packet
unfoldable pub icmp_words : Packet → List ℕ
icmp_words p = codes "icmp " ++ dotted p.src ++ codes " " ++ icmp_text p ++ codes " " ++ dotted p.dst

-- a packet of another protocol
unfoldable pub other_words : Packet → List ℕ
other_words p = decimal p.proto ++ codes " " ++ dotted p.src ++ codes " " ++ dotted p.dst

-- the words of a packet from its protocol on; a TCP packet has no flags
unfoldable pub packet_words : Packet → List ℕ
packet_words p =
    if p.proto == 6 then codes "tcp " ++ ends_text p ++ codes " -"
    else (if p.proto == 17 then codes "udp " ++ ends_text p
    else (if p.proto == 1 then icmp_words p else other_words p))

-- the list and the line
unfoldable pub head_text : List ℕ → ℕ → List ℕ
head_text name line = codes "shadow " ++ name ++ codes " " ++ decimal line

-- what is said of a line: the trees stand each on a line of its own
unfoldable pub finding_text : List ℕ → ℕ → Finding → List ℕ
finding_text name line (finding.Yes cuts trees) = head_text name line ++ codes " yes " ++ decimal cuts ++ codes "\n" ++ flat_map tree_text trees
finding_text name line (finding.No p) = head_text name line ++ codes " no " ++ packet_words p ++ codes "\n"
finding_text name line (finding.Unknown _) = head_text name line ++ codes " unknown\n"

-- Pairs of prefixes with a service, and the least rank of those that hold a packet.
use Rattle.std.specs.Prelude.{ℕ, min, Bool, ◌&&◌, List, [], ◌∷◌, filter, Option, Some, None}
use Rattle.asa_base.specs.Networks.{covers}
use Rattle.asa_base.specs.Boxes.{service_holds}
use Rattle.asa_base.specs.declared.flow.Packet.{Packet}
use Rattle.asa_pair_trie.specs.declared.entries.Entry.{Entry}

-- both prefixes cover the packet's addresses
abbrev pub covers_both : Packet → Entry → Bool
covers_both p e = covers e.source p.src && covers e.dest p.dst

-- and the service holds the packet
abbrev pub holds : Packet → Entry → Bool
holds p e = covers_both p e && service_holds e.service p

-- the lesser of two ranks, where there are two
abbrev pub lesser : Option ℕ → Option ℕ → Option ℕ
lesser None b = b
lesser (Some a) None = Some a
lesser (Some a) (Some b) = Some (min a b)

-- the least rank of a list of entries
abbrev pub least_rank : List Entry → Option ℕ
least_rank [] = None
least_rank (e ∷ es) = lesser (Some e.rank) (least_rank es)

-- the least rank of the entries that hold the packet
abbrev pub first_of : List Entry → Packet → Option ℕ
first_of entries p = least_rank (filter (holds p) entries)

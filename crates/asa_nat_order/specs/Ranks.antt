-- The rank of an object's rule among the rules of objects.
use Rattle.std.specs.Prelude.{not}
use Rattle.std.specs.declared.cmp.Ordering.{Ordering}
use Rattle.std.specs.Ordering.{ordering_then, nat_cmp, bool_cmp}
use Rattle.std.specs.Cmp.Lexicographic.{slice_cmp}
use Rattle.asa_nat_order.specs.declared.keys.NatKey.{NatKey}
use Rattle.asa_nat_order.specs.declared.keys.AutoRank.{AutoRank}

-- the rank that a rule has as an object's
abbrev pub rank_of : NatKey → AutoRank
rank_of k = record { is_dynamic = not k.is_static; count = k.count; first = k.first; name = k.name }

-- static before dynamic, then the fewer real addresses, then the lower first address, then the name by its bytes
abbrev pub rank_cmp : AutoRank → AutoRank → Ordering
rank_cmp a b = ordering_then (bool_cmp a.is_dynamic b.is_dynamic)
    (ordering_then (nat_cmp a.count b.count) (ordering_then (nat_cmp a.first.0 b.first.0) (slice_cmp nat_cmp a.name b.name)))

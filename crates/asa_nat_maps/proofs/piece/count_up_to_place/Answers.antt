use Rattle.std.proofs.Common.{nat_le, rules}
use Rattle.std.proofs.lemmas.List.Sorted.{IsPartitionPoint-from_clause, IsPartitionedBy-leb}
use Rattle.asa_nat_maps.proofs.piece.count_up_to_place.Goals as goal

pub returns : goal.returns
returns c =
    IsPartitionPoint-from_clause (λ x. nat_le x.place c.args.place) _ _ c.partition_point.ensures.partitioned
    (IsPartitionedBy-leb (λ x. x.place) _ c.args.place c.requires) (λ a r f k. search rules)

-- Totals part by part.
use Rattle.std.proofs.Common.{◌≡◌, ◌+◌, Option, Some, None, refl}
use Rattle.asa_objects_table.specs.Amounts.{Amounts}
use Rattle.asa_objects_table.specs.declared.rank.Rank.{Rank}
use Rattle.asa_objects_table.specs.Ranks.{Part, members, prefixes, addresses, subnets, services, amount, amount_in, both_totals}
use Rattle.asa_objects_table.specs.Renewals.{totals_in_rank}

-- the amount of a name's rank
pub amount-rank : (k : Part) (o : Option Rank) → amount_in k o ≡ amount k (totals_in_rank o)
amount-rank members None = refl
amount-rank prefixes None = refl
amount-rank addresses None = refl
amount-rank subnets None = refl
amount-rank services None = refl
amount-rank k (Some r) = refl

pub amount-both : (k : Part) (s t : Amounts) → amount k (both_totals s t) ≡ amount k s + amount k t
amount-both members s t = refl
amount-both prefixes s t = refl
amount-both addresses s t = refl
amount-both subnets s t = refl
amount-both services s t = refl

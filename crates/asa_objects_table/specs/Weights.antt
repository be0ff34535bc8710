-- How much members count at a name: what they state by themselves, and the totals of the names that they refer to.
use Rattle.std.specs.Prelude.{ℕ, List, Option, Some, None}
use Rattle.asa_objects_lines.specs.declared.kinds.GroupKind.{GroupKind}
use Rattle.asa_objects_lines.specs.declared.statement.Item.{Item}
use Rattle.asa_objects_table.specs.Amounts.{Amounts}
use Rattle.asa_objects_values.specs.Spreads.{total}
use Rattle.asa_objects_values.specs.Tables.{named}
use Rattle.asa_objects_table.specs.Ranks.{Ranks, both_totals, no_totals, own_totals, rank_of}
use Rattle.asa_objects_table.specs.Renewals.{totals_in_rank}

-- the totals of a name, where there is one
abbrev pub ref_totals : Ranks → Option (List ℕ) → Amounts
ref_totals ranks None = no_totals
ref_totals ranks (Some name) = totals_in_rank (rank_of ranks name)

-- what a member counts where members have this form
abbrev pub weight : Ranks → GroupKind → Item → Amounts
weight ranks g i = both_totals (own_totals g i) (ref_totals ranks (named i))

-- what members count together
abbrev pub weights : Ranks → GroupKind → List Item → Amounts
weights ranks g items = record {
  members = total (λ i. (weight ranks g i).members) items;
  prefixes = total (λ i. (weight ranks g i).prefixes) items;
  addresses = total (λ i. (weight ranks g i).addresses) items;
  subnets = total (λ i. (weight ranks g i).subnets) items;
  services = total (λ i. (weight ranks g i).services) items;
}

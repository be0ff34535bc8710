-- How many prefix pairs the cases of a rule have: for each case the prefixes of its sources times those of its
-- destinations.
use Rattle.std.specs.Prelude.{ℕ, ◌+◌, ◌*◌, List, length, sum_by, Option, Some, None, if◌then◌else◌}
use Rattle.asa_base.specs.Prefixes.{prefixes_of_span}
use Rattle.asa_base.specs.Ranges.{AddressSpan}
use Rattle.asa_nat_lines.specs.declared.rule.RuleFields.{RuleFields}
use Rattle.asa_nat_rules.specs.declared.case.Case.{Case}
use Rattle.asa_nat_rules.specs.Cases.{forward_case, opposite_if_any}
use Rattle.asa_nat_rules.specs.Meanings.{Meanings}

-- the prefixes of ranges, each range counted by itself
abbrev pub prefix_count : List AddressSpan → ℕ
prefix_count spans = sum_by (λ s. length (prefixes_of_span s)) spans

abbrev pub case_pairs : Case → ℕ
case_pairs c = prefix_count c.source * prefix_count c.dest

abbrev pub pairs_if_any : Option Case → ℕ
pairs_if_any None = 0
pairs_if_any (Some c) = case_pairs c

-- the prefix pairs of a rule; an inactive one has none
unfoldable pub rule_pairs : Meanings → RuleFields → ℕ
rule_pairs m f = if f.inactive then 0 else case_pairs (forward_case m f) + pairs_if_any (opposite_if_any m f)

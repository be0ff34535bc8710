-- How many prefixes sets of addresses have.
use Rattle.std.proofs.Common.{◌≡◌, ℕ, ◌+◌, ◌*◌, ◌^◌, ◌≤◌, List, [], ◌∷◌, length, map, refl, sym, ap, ◌∙◌, arith, le_trans}
use native.Mathlib.Nat.{mul-le-mul}
use Rattle.std.specs.List.{sum_by}
use Rattle.std.proofs.lemmas.List.Sums.{sum_by-cons}
use Rattle.asa_base.specs.Members.{member_range}
use Rattle.asa_base.specs.Prefixes.{member_prefix_count, prefixes_of_span}
use Rattle.asa_base.specs.Ranges.{AddressSpan}
use Rattle.asa_base.specs.declared.range.Member.{Member}
use Rattle.asa_nat_rules.specs.Pairs.{prefix_count}

-- the prefixes of members are those of their ranges
pub prefixes_of_members : (ms : List Member) → sum_by member_prefix_count ms ≡ prefix_count (map member_range ms)
prefixes_of_members [] = refl
prefixes_of_members (m ∷ ms) =
    sum_by-cons member_prefix_count m ms ∙ ap (λ n. member_prefix_count m + n) (prefixes_of_members ms)
    ∙ sym (sum_by-cons (λ s. length (prefixes_of_span s)) (member_range m) (map member_range ms))

pub count_one : (s : AddressSpan) → length (prefixes_of_span s) ≡ prefix_count (s ∷ [])
count_one s = sym (sum_by-cons (λ x. length (prefixes_of_span x)) s [] ∙ omega arith)

pub two_small : (a b : ℕ) → a ≤ 4063232 → b ≤ 4063232 → a * b ≤ 2 ^ 44
two_small a b p q = le_trans (mul-le-mul p q) (omega arith)

-- Members that are networks.
use Rattle.std.proofs.Common.{◌≡◌, ℕ, ◌+◌, Bool, true, false, cond, ◌||◌, nat_lt, List, [], ◌∷◌, sum_by, refl, ap, ◌∙◌, arith}
use Rattle.std.specs.List.{list_any}
use Rattle.std.proofs.lemmas.Bool.{lt-ltb}
use Rattle.std.proofs.lemmas.List.Sums.{sum_by-cons}
use Rattle.asa_base.specs.declared.range.Member.{Member}
use Rattle.asa_objects_values.specs.Sizes.{is_subnet, subnet_count}

zero-plus : (n : ℕ) → 0 + n ≡ n
zero-plus n = omega arith

-- there are some where their number isn't 0
pub some-subnet : (ms : List Member) → nat_lt 0 (sum_by subnet_count ms) ≡ list_any is_subnet ms
some-subnet [] = refl
some-subnet (m ∷ ms) = ap (nat_lt 0) (sum_by-cons subnet_count m ms) ∙ by (is_subnet m) (some-subnet ms)
  where
    by : (b : Bool) → nat_lt 0 (sum_by subnet_count ms) ≡ list_any is_subnet ms → nat_lt 0 (cond b 1 0 + sum_by subnet_count ms) ≡ (b || list_any is_subnet ms)
    by true more = lt-ltb 0 (1 + sum_by subnet_count ms) (omega arith)
    by false more = ap (nat_lt 0) (zero-plus (sum_by subnet_count ms)) ∙ more

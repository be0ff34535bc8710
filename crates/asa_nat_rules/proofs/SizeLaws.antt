-- How many addresses single ranges have.
use Rattle.std.proofs.Common.{◌≡◌, ℕ, ◌+◌, ◌-◌, ◌^◌, ◌<◌, ◌==◌, Bool, true, false, if◌then◌else◌, min, [], ◌∷◌, refl, arith, ◌∙◌}
use Rattle.std.proofs.lemmas.Bool.Decides.{Decides-eqb, nat_tests}
use Rattle.std.proofs.lemmas.List.Sums.{sum_by-cons}
use Rattle.asa_text.specs.declared.numbers.Addr.{Addr}
use Rattle.asa_base.specs.Ranges.{AddressSpan, only_address, all_addresses}
use Rattle.asa_nat_rules.specs.Sets.{span_size, size_of, everything, run_from}

size_one : (s : AddressSpan) → size_of (s ∷ []) ≡ span_size s
size_one s = sum_by-cons span_size s [] ∙ omega arith

pub size_everything : size_of everything ≡ 2 ^ 32
size_everything = size_one all_addresses

pub size_only : (a : Addr) → size_of (only_address a ∷ []) ≡ 1
size_only a = size_one (only_address a) ∙ omega arith

run_range : Addr → ℕ → AddressSpan
run_range a count = record { first = a; last = record { 0 = a.0 + (min count (2 ^ 32 - a.0) - 1) } }

size_run_by : (a : Addr) (count : ℕ) (none : Bool) → (count == 0) ≡ none → a.0 < 2 ^ 32
    → size_of (if none then [] else run_range a count ∷ []) ≡ min count (2 ^ 32 - a.0)
unfolding run_range
size_run_by a count true e lt = let here : count ≡ 0 = (Decides-eqb count 0).0 e in grind (arith, here)
size_run_by a count false e lt = size_one (run_range a count) ∙ grind (arith, nat_tests, e, lt)

-- a run of addresses has as many as were asked for, or as are left
pub size_run_from : (a : Addr) (count : ℕ) → a.0 < 2 ^ 32 → size_of (run_from a count) ≡ min count (2 ^ 32 - a.0)
unfolding run_range
size_run_from a count lt = size_run_by a count (count == 0) refl lt

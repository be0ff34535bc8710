-- The networks of a range cover its addresses, and no other.
use Rattle.std.proofs.Common.{◌≡◌, ◌==◌, ◌&&◌, ◌||◌, ℕ, zero, suc, ◌+◌, ◌-◌, ◌*◌, ◌/◌, ◌%◌, ◌^◌, ◌<◌, ◌≤◌, false, nat_lt, nat_le, ap, ◌∙◌, arith, ⊎_elim}
use Rattle.std.proofs.lemmas.Bool.{cases_lt}
use Rattle.std.proofs.lemmas.Bool.Decides.{nat_tests}
use Rattle.std.proofs.lemmas.Nat.{pow_pos, shr_split, div_below, le-div}
use Rattle.std.proofs.Math.Nat.{div-eq_of_lt-le}
use Rattle.std.specs.List.{list_any}
use Rattle.asa_text.specs.declared.numbers.Addr.{Addr}
use Rattle.asa_base.specs.Networks.{covers}
use Rattle.asa_base.specs.Prefixes.{level_at, block, blocks, prefixes_between, prefixes_of_span}
use Rattle.asa_base.specs.Ranges.{AddressSpan, span_holds}
use Rattle.asa_base.proofs.PrefixLaws.{fits_parts, greatest_fits, greatest_le, blocks_none, blocks_more, blocks_zero}

-- an address has a quotient exactly within the quotient's block
same_quotient : (q n a : ℕ) → 0 < n → (q == a / n) ≡ (nat_le (q * n) a && nat_lt a (q * n + n))
same_quotient q n a some = ⊎_elim
    (λ (below : a < q * n).
    let less : a / n < q = div_below a n q some below in
    grind (arith, nat_tests))
    (λ (from : q * n ≤ a). ⊎_elim
    (λ (within : a < q * n + n).
    let e : q * n + n ≡ (q + 1) * n = omega arith in
    let same : a / n ≡ q = div-eq_of_lt-le n from (rw (← e) within) in
    grind (arith, nat_tests))
    (λ (beyond : q * n + n ≤ a).
    let e : (q + 1) * n ≡ q * n + n = omega arith in
    let more : q + 1 ≤ a / n = le-div (q + 1) a n some (rw e beyond) in
    grind (arith, nat_tests))
    (cases_lt a (q * n + n)))
    (cases_lt a (q * n))

-- a block covers its addresses
covers_block : (at level : ℕ) (a : Addr) → level ≤ 32 → at % 2 ^ level ≡ 0 → covers (block at level) a ≡ (nat_le at a.0 && nat_lt a.0 (at + 2 ^ level))
covers_block at level a few aligned =
    let e : 32 - (32 - level) ≡ level = omega arith in
    let q : at / 2 ^ level * 2 ^ level ≡ at = omega (arith, shr_split at level) in
    ap (λ n. at / 2 ^ n == a.0 / 2 ^ n) e
    ∙ same_quotient (at / 2 ^ level) (2 ^ level) a.0 (pow_pos level)
    ∙ ap (λ n. nat_le n a.0 && nat_lt a.0 (n + 2 ^ level)) q

joined : (at next end a : ℕ) → at < next → next ≤ end → ((nat_le at a && nat_lt a next) || (nat_le next a && nat_lt a end)) ≡ (nat_le at a && nat_lt a end)
joined at next end a less le = grind (arith, nat_tests)

nothing : (at end a : ℕ) → end ≤ at → false ≡ (nat_le at a && nat_lt a end)
nothing at end a none = grind (arith, nat_tests)

any_blocks : (count at end : ℕ) (a : Addr) → end ≤ at + count → list_any (λ n. covers n a) (blocks count at end) ≡ (nat_le at a.0 && nat_lt a.0 end)
any_blocks zero at end a all = ap (λ ns. list_any (λ n. covers n a) ns) (blocks_zero at end) ∙ nothing at end a.0 (omega arith)
any_blocks (suc count) at end a all = ⊎_elim
    (λ (less : at < end).
    let level = level_at at end in
    let some = pow_pos level in
    let parts : (at % 2 ^ level ≡ 0) × (at + 2 ^ level ≤ end) = fits_parts level at end (greatest_fits 32 at end less) in
    ap (λ ns. list_any (λ n. covers n a) ns) (blocks_more count at end less)
    ∙ ap (λ here. here || list_any (λ n. covers n a) (blocks count (at + 2 ^ level) end)) (covers_block at level a (greatest_le 32 at end) parts.0)
    ∙ ap (λ later. (nat_le at a.0 && nat_lt a.0 (at + 2 ^ level)) || later) (any_blocks count (at + 2 ^ level) end a (omega arith))
    ∙ joined at (at + 2 ^ level) end a.0 (omega arith) parts.1)
    (λ (none : end ≤ at).
    ap (λ ns. list_any (λ n. covers n a) ns) (blocks_none (suc count) at end none) ∙ nothing at end a.0 none)
    (cases_lt at end)

-- an address lies in a range exactly where one of its networks covers it
pub covers_span : (s : AddressSpan) (a : Addr) → list_any (λ n. covers n a) (prefixes_of_span s) ≡ span_holds s a
unfolding prefixes_between prefixes_of_span
covers_span s a =
    let last : nat_lt a.0 (s.last.0 + 1) ≡ nat_le a.0 s.last.0 = grind (arith, nat_tests) in
    any_blocks (s.last.0 + 1 - s.first.0) s.first.0 (s.last.0 + 1) a (omega arith)
    ∙ ap (λ t. nat_le s.first.0 a.0 && t) last

-- A range has at most 62 networks.
use Rattle.std.proofs.Common.{◌≡◌, ℕ, zero, suc, ◌+◌, ◌-◌, ◌*◌, ◌/◌, ◌%◌, ◌^◌, ◌<◌, ◌≤◌, List, [], ◌∷◌, ◌++◌, length, append_assoc, append-nil, length-append, refl, ap, sym, ◌∙◌, arith, ⊎_elim}
use Rattle.std.proofs.lemmas.Bool.{cases_lt, cases_eq}
use Rattle.std.proofs.lemmas.Nat.{pow_pos, shr_split, mod-pow-add, mod_below}
use Rattle.std.proofs.Math.Nat.{mul-mod_left, mod-eq_of_lt}
use Rattle.asa_base.specs.Networks.{Network}
use Rattle.asa_base.specs.Prefixes.{level_at, block, blocks, prefixes_between, prefixes_of_span}
use Rattle.asa_base.specs.Ranges.{AddressSpan}
use Rattle.asa_base.proofs.PrefixLaws.{doubled, fits_from, too_long, not_aligned, aligned_down, greatest_is, blocks_none, blocks_more, blocks_zero, between_none, between_more}

-- the next multiple
aligned_next : (k at : ℕ) → at % 2 ^ k ≡ 0 → (at + 2 ^ k) % 2 ^ k ≡ 0
aligned_next k at h =
    let q : at / 2 ^ k * 2 ^ k + at % 2 ^ k ≡ at = shr_split at k in
    let e : at + 2 ^ k ≡ (at / 2 ^ k + 1) * 2 ^ k = omega arith in
    rw e (mul-mod_left (at / 2 ^ k + 1) (2 ^ k))

-- an odd multiple, and the even one after it
odd_then_even : (k at : ℕ) → at % 2 ^ k ≡ 0 → ¬ (at % 2 ^ (k + 1) ≡ 0) → (at + 2 ^ k) % 2 ^ (k + 1) ≡ 0
odd_then_even k at h odd =
    let e : 1 + k ≡ k + 1 = omega arith in
    let bit = at / 2 ^ k % 2 ^ 1 in
    let small : bit < 2 ^ 1 = mod_below (at / 2 ^ k) (2 ^ 1) (omega arith) in
    let rest : at % 2 ^ (k + 1) ≡ bit * 2 ^ k + at % 2 ^ k = ap (λ n. at % 2 ^ n) (sym e) ∙ mod-pow-add at 1 k in
    let one : bit ≡ 1 = ⊎_elim
    (λ (none : bit ≡ 0). absurd (odd (rest ∙ rw none (omega arith))))
    (λ (some : ¬ (bit ≡ 0)). omega arith)
    (cases_eq bit 0) in
    let half : at % 2 ^ (k + 1) ≡ 2 ^ k = rest ∙ rw one (omega arith) in
    let q : at / 2 ^ (k + 1) * 2 ^ (k + 1) + at % 2 ^ (k + 1) ≡ at = shr_split at (k + 1) in
    let twice = doubled k in
    let sum : at + 2 ^ k ≡ (at / 2 ^ (k + 1) + 1) * 2 ^ (k + 1) = omega arith in
    rw sum (mul-mod_left (at / 2 ^ (k + 1) + 1) (2 ^ (k + 1)))

-- a multiple that isn't 0 isn't below the number
multiple_le : (k at : ℕ) → at % 2 ^ k ≡ 0 → 0 < at → 2 ^ k ≤ at
multiple_le k at h some = ⊎_elim
    (λ (less : at < 2 ^ k). let same : at % 2 ^ k ≡ at = mod-eq_of_lt less in omega arith)
    (λ (more : 2 ^ k ≤ at). more)
    (cases_lt at (2 ^ k))

-- one block more
one_more : (c k at end : ℕ) → at < end → level_at at end ≡ k → length (blocks (suc c) at end) ≡ length (blocks c (at + 2 ^ k) end) + 1
one_more c k at end less e = ap length (blocks_more c at end less ∙ ap (λ l. block at l ∷ blocks c (at + 2 ^ l) end) e) ∙ omega arith

none_left : (c at end : ℕ) → end ≤ at → length (blocks c at end) ≡ 0
none_left c at end h = ap length (blocks_none c at end h)

none_allowed : (at end : ℕ) → length (blocks zero at end) ≡ 0
none_allowed at end = ap length (blocks_zero at end)

-- the level of a block that fits, where the next doesn't
level_is : (k at end : ℕ) → k ≤ 32 → at % 2 ^ k ≡ 0 → at + 2 ^ k ≤ end → end < at + 2 ^ (k + 1) → level_at at end ≡ k
level_is k at end few aligned within beyond = greatest_is 32 at end k few (fits_from k at end aligned within) (λ _. too_long (k + 1) at end beyond)

-- down from a multiple: fewer addresses than the block has
pub down : (k c at end : ℕ) → k ≤ 32 → at % 2 ^ k ≡ 0 → end < at + 2 ^ k → length (blocks c at end) ≤ k
down zero c at end few aligned short = omega (arith, none_left c at end (omega arith))
down (suc k) zero at end few aligned short = omega (arith, none_allowed at end)
down (suc k) (suc c) at end few aligned short =
    let e : suc k ≡ k + 1 = omega arith in
    let aligned' : at % 2 ^ (k + 1) ≡ 0 = rw (← e) aligned in
    let short' : end < at + 2 ^ (k + 1) = rw (← e) short in
    let low : at % 2 ^ k ≡ 0 = aligned_down k at aligned' in
    let twice = doubled k in
    let some = pow_pos k in
    ⊎_elim
    (λ (less : end < at + 2 ^ k). let few' = down k (suc c) at end (omega arith) low less in omega arith)
    (λ (more : at + 2 ^ k ≤ end).
    let one = one_more c k at end (omega arith) (level_is k at end (omega arith) low more short') in
    let rest = down k c (at + 2 ^ k) end (omega arith) (aligned_next k at low) (omega arith) in
    omega arith)
    (cases_lt end (at + 2 ^ k))

-- a block that is a whole
pub whole : (k c at end : ℕ) → k ≤ 32 → at % 2 ^ k ≡ 0 → end ≡ at + 2 ^ k → length (blocks c at end) ≤ 1
whole k zero at end few aligned e = omega (arith, none_allowed at end)
whole k (suc c) at end few aligned e =
    let twice = doubled k in
    let some = pow_pos k in
    let one = one_more c k at end (omega arith) (level_is k at end few aligned (omega arith) (omega arith)) in
    let rest = none_left c (at + 2 ^ k) end (omega arith) in
    omega arith

-- up from a multiple that isn't 0
up : (j k c at end : ℕ) → j + k ≡ 31 → at % 2 ^ k ≡ 0 → 0 < at → end ≤ 2 ^ 32 → length (blocks c at end) ≤ 31 + j
up zero k c at end e aligned some low =
    let k31 : k ≡ 31 = omega arith in
    let size : 2 ^ k ≡ 2 ^ 31 = ap (λ n. 2 ^ n) k31 in
    let high = multiple_le k at aligned some in
    ⊎_elim
    (λ (less : end < at + 2 ^ k). let few' = down k c at end (omega arith) aligned less in omega arith)
    (λ (more : at + 2 ^ k ≤ end). let one = whole k c at end (omega arith) aligned (omega arith) in omega arith)
    (cases_lt end (at + 2 ^ k))
up (suc j) k zero at end e aligned some low = omega (arith, none_allowed at end)
up (suc j) k (suc c) at end e aligned some low = ⊎_elim
    (λ (even : at % 2 ^ (k + 1) ≡ 0). let few' = up j (k + 1) (suc c) at end (omega arith) even some low in omega arith)
    (λ (odd : ¬ (at % 2 ^ (k + 1) ≡ 0)). ⊎_elim
    (λ (less : end < at + 2 ^ k). let few' = down k (suc c) at end (omega arith) aligned less in omega arith)
    (λ (more : at + 2 ^ k ≤ end).
    let positive = pow_pos k in
    let level = greatest_is 32 at end k (omega arith) (fits_from k at end aligned more) (λ _. not_aligned (k + 1) at end odd) in
    let one = one_more c k at end (omega arith) level in
    let rest = up j (k + 1) c (at + 2 ^ k) end (omega arith) (odd_then_even k at aligned odd) (omega arith) low in
    omega arith)
    (cases_lt end (at + 2 ^ k)))
    (cases_eq (at % 2 ^ (k + 1)) 0)

few_blocks : (c at end : ℕ) → end ≤ 2 ^ 32 → length (blocks c at end) ≤ 62
few_blocks c zero end low = ⊎_elim
    (λ (less : end < 2 ^ 32). let few' = down 32 c 0 end (omega arith) refl (omega arith) in omega arith)
    (λ (all : 2 ^ 32 ≤ end). let one = whole 32 c 0 end (omega arith) refl (omega arith) in omega arith)
    (cases_lt end (2 ^ 32))
few_blocks c (suc at) end low = let few' = up 31 0 c (suc at) end (omega arith) (omega arith) (omega arith) low in omega arith

pub few_between : (at end : ℕ) → end ≤ 2 ^ 32 → length (prefixes_between at end) ≤ 62
unfolding prefixes_between
few_between at end low = few_blocks (end - at) at end low

pub few_of_span : (s : AddressSpan) → s.last.0 < 2 ^ 32 → length (prefixes_of_span s) ≤ 62
unfolding prefixes_of_span
few_of_span s low = few_between s.first.0 (s.last.0 + 1) (omega arith)

-- a list of networks, followed by those from an address on: room for one more, one more, and all
pub room : (out : List Network) (s : AddressSpan) (at end : ℕ) → s.last.0 < 2 ^ 32 → at < end → out ++ prefixes_between at end ≡ prefixes_of_span s → length out < 62
room out s at end low less e =
    let few = few_of_span s low in
    let one : length (prefixes_between at end) ≡ length (prefixes_between (at + 2 ^ level_at at end) end) + 1 = ap length (between_more at end (level_at at end) less refl) ∙ omega arith in
    let sum = ap length e in
    omega (arith, length-append out (prefixes_between at end))

pub step : (out all : List Network) (at end level : ℕ) → at < end → level_at at end ≡ level → out ++ prefixes_between at end ≡ all
    → (out ++ block at level ∷ []) ++ prefixes_between (at + 2 ^ level) end ≡ all
step out all at end level less e h = rw append_assoc (ap (λ ns. out ++ ns) (sym (between_more at end level less e)) ∙ h)

pub at_end : (out all : List Network) (at end : ℕ) → end ≤ at → out ++ prefixes_between at end ≡ all → out ≡ all
at_end out all at end none h =
    let e : out ++ prefixes_between at end ≡ out = rw (between_none at end none, append-nil) refl in
    sym e ∙ h

pub at_start : (s : AddressSpan) → [] ++ prefixes_between s.first.0 (s.last.0 + 1) ≡ prefixes_of_span s
unfolding prefixes_of_span
at_start s = refl

-- one network fewer is left after one; none is left at the end
pub one_between : (at end level : ℕ) → at < end → level_at at end ≡ level → length (prefixes_between at end) ≡ length (prefixes_between (at + 2 ^ level) end) + 1
one_between at end level less e = ap length (between_more at end level less e) ∙ omega arith

pub none_between : (at end : ℕ) → end ≤ at → length (prefixes_between at end) ≡ 0
none_between at end h = ap length (between_none at end h)

-- a range has a network
pub some_of_span : (s : AddressSpan) → s.first.0 ≤ s.last.0 → 0 < length (prefixes_of_span s)
unfolding prefixes_of_span
some_of_span s h = omega (arith, one_between s.first.0 (s.last.0 + 1) (level_at s.first.0 (s.last.0 + 1)) (omega arith) refl)

-- The order of ranks: it is total, and ranks that tie are equal.
use Rattle.std.proofs.Common.{◌≡◌, ℕ, Bool, true, false, List, refl, sym, ap, ◌∙◌}
use Rattle.std.specs.Cmp.{IsTotalOrder}
use Rattle.std.specs.declared.cmp.Ordering.{Ordering}
use Rattle.std.specs.declared.cmp.Ordering.TheVariants as cmp
use Rattle.std.specs.Ordering.{nat_cmp, bool_cmp, ordering_then, ordering_reverse, is_eq, is_lt}
use Rattle.std.specs.Cmp.Lexicographic.{slice_cmp}
use Rattle.std.proofs.lemmas.Map.Text.{is_eq-slice_cmp}
use Rattle.std.proofs.lemmas.Slice.Eq.{bytes_eq-Decides}
use Rattle.std.specs.Cmp.{unsigned_tied}
use Rattle.std.proofs.lemmas.Bool.Decides.{Decides-eqb}
use Rattle.asa_nat_order.specs.contracts.keys.AutoRankOrd.TheImpl.Laws as rank_laws
use Rattle.asa_nat_order.specs.contracts.sections.SeatOrd.TheImpl.Laws as seat_laws
use Rattle.asa_nat_order.specs.declared.keys.AutoRank.{AutoRank}
use Rattle.asa_nat_order.specs.declared.sections.Seat.{Seat}
use Rattle.asa_nat_order.specs.Ranks.{rank_cmp}
use Rattle.asa_nat_order.specs.Sections.{seat_cmp}

pub rank_total : IsTotalOrder rank_cmp
rank_total = rank_laws.total-law

pub seat_total : IsTotalOrder seat_cmp
seat_total = seat_laws.total-law

-- both answers are a tie
first_ties : (p q : Ordering) → ordering_then p q ≡ cmp.Equal → p ≡ cmp.Equal
first_ties cmp.Less q e = e
first_ties cmp.Equal q e = refl
first_ties cmp.Greater q e = e

second_ties : (p q : Ordering) → ordering_then p q ≡ cmp.Equal → q ≡ cmp.Equal
second_ties cmp.Less q e = absurd (cc)
second_ties cmp.Equal q e = e
second_ties cmp.Greater q e = absurd (cc)

same_flags : (a b : Bool) → bool_cmp a b ≡ cmp.Equal → a ≡ b
same_flags true true e = refl
same_flags true false e = absurd (cc)
same_flags false true e = absurd (cc)
same_flags false false e = refl

same_numbers : (a b : ℕ) → nat_cmp a b ≡ cmp.Equal → a ≡ b
same_numbers a b e = (Decides-eqb a b).0 (sym (unsigned_tied a b) ∙ ap is_eq e)

same_bytes : (a b : List ℕ) → slice_cmp nat_cmp a b ≡ cmp.Equal → a ≡ b
same_bytes a b e = (bytes_eq-Decides a b).0 (sym (is_eq-slice_cmp a b) ∙ ap is_eq e)

-- ranks that tie are equal
pub ranks_apart : (a b : AutoRank) → rank_cmp a b ≡ cmp.Equal → a ≡ b
ranks_apart a b e =
    let e1 : ordering_then (nat_cmp a.count b.count) (ordering_then (nat_cmp a.first.0 b.first.0) (slice_cmp nat_cmp a.name b.name)) ≡ cmp.Equal =
    second_ties _ _ e in
    let e2 : ordering_then (nat_cmp a.first.0 b.first.0) (slice_cmp nat_cmp a.name b.name) ≡ cmp.Equal = second_ties _ _ e1 in
    let flags : a.is_dynamic ≡ b.is_dynamic = same_flags _ _ (first_ties _ _ e) in
    let counts : a.count ≡ b.count = same_numbers _ _ (first_ties _ _ e1) in
    let firsts : a.first.0 ≡ b.first.0 = same_numbers _ _ (first_ties _ _ e2) in
    let names : a.name ≡ b.name = same_bytes _ _ (second_ties _ _ e2) in
    let made : Bool → ℕ → ℕ → List ℕ → AutoRank = λ d n f s. record { is_dynamic = d; count = n; first = record { 0 = f }; name = s } in
    let same : made a.is_dynamic a.count a.first.0 a.name ≡ made b.is_dynamic b.count b.first.0 b.name = rw (flags, counts, firsts, names) in
    same

-- seats that tie have the same index
same_index : (a b : Seat) → seat_cmp a b ≡ cmp.Equal → a.index ≡ b.index
same_index a b e = same_numbers _ _ (second_ties _ _ e)

neither : (x y : Seat) (r : Ordering) → seat_cmp x y ≡ r → is_lt r ≡ false → is_lt (seat_cmp y x) ≡ false → x.index ≡ y.index
neither x y cmp.Less e a b = absurd (cc)
neither x y cmp.Equal e a b = same_index x y e
neither x y cmp.Greater e a b =
    let back : seat_cmp y x ≡ cmp.Less = seat_total.antisymm y x ∙ ap ordering_reverse e in
    let less : is_lt (seat_cmp y x) ≡ true = ap is_lt back in
    absurd (cc)

-- of two seats with different indexes one is below the other
pub seats_apart : (x y : Seat) → is_lt (seat_cmp x y) ≡ false → is_lt (seat_cmp y x) ≡ false → x.index ≡ y.index
seats_apart x y a b = neither x y (seat_cmp x y) refl a b

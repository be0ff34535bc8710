-- Of three faulty rules the one that stands first is found from either end.
use Rattle.std.proofs.Common.{◌≡◌, Bool, true, false, if◌then◌else◌, Option, Some, None, refl, sym, ap, ◌∙◌}
use Rattle.std.specs.Prelude.{IsTrue}
use Rattle.std.specs.Cmp.{IsTotalOrder}
use Rattle.std.specs.declared.cmp.Ordering.{Ordering}
use Rattle.std.specs.declared.cmp.Ordering.TheVariants.{Less, Equal, Greater}
use Rattle.std.specs.Ordering.{ordering_reverse}
use Rattle.asa_nat_order.specs.declared.keys.AutoRank.{AutoRank}
use Rattle.asa_nat_order.specs.declared.keys.NatKey.{NatKey}
use Rattle.asa_nat_order.specs.Ranks.{rank_of, rank_cmp}
use Rattle.asa_nat_order.proofs.RankLaws.{rank_total}
use Rattle.asa_nat_table.specs.declared.fault.Placed.{Placed}
use Rattle.asa_nat_table.specs.Faults.{is_less, is_before, earlier}

less_if : (o : Ordering) → is_less o ≡ true → o ≡ Less
less_if Less e = refl
less_if Equal e = absurd (cc)
less_if Greater e = absurd (cc)

before_less : (a b : NatKey) → is_before a b ≡ true → rank_cmp (rank_of a) (rank_of b) ≡ Less
before_less a b e = less_if (rank_cmp (rank_of a) (rank_of b)) e

less_before : (a b : NatKey) → rank_cmp (rank_of a) (rank_of b) ≡ Less → is_before a b ≡ true
less_before a b e = rw (e)

goes_before : (a b c : NatKey) → is_before b a ≡ true → is_before c b ≡ true → is_before c a ≡ true
goes_before a b c p q = less_before c a (rank_total.trans (rank_of c) (rank_of b) (rank_of a) (before_less c b q) (before_less b a p))

clash : {X : Type 0} → true ≡ false → X
clash e = absurd (cc)

-- what isn't less than a second is above what is less than the second
stays_above : (a b c : AutoRank) → (rank_cmp b a ≡ Less → ⊥) → rank_cmp c a ≡ Less → rank_cmp c b ≡ Less
stays_above a b c not_less below = by (rank_cmp a b) refl
  where
    by : (o : Ordering) → rank_cmp a b ≡ o → rank_cmp c b ≡ Less
    by Less e = rank_total.trans c a b below e
    by Equal e =
        rank_total.antisymm c b ∙ ap ordering_reverse (sym (rank_total.congr a b c e) ∙ rank_total.antisymm a c ∙ ap ordering_reverse below)
    by Greater e = absurd (not_less (rank_total.antisymm b a ∙ ap ordering_reverse e))

stays_behind : (a b c : NatKey) → is_before b a ≡ false → is_before c b ≡ false → is_before c a ≡ false
stays_behind a b c p q = by (is_before c a) refl
  where
    by : (r : Bool) → is_before c a ≡ r → is_before c a ≡ false
    by false e = e
    by true e =
        let no : rank_cmp (rank_of b) (rank_of a) ≡ Less → ⊥ = λ l. clash (sym (less_before b a l) ∙ p) in
        clash (sym (less_before c b (stays_above (rank_of a) (rank_of b) (rank_of c) no (before_less c a e))) ∙ q)

pub earlier_goes_on : (a b c : Option Placed) → earlier (earlier a b) c ≡ earlier a (earlier b c)
earlier_goes_on None b c = refl
earlier_goes_on (Some a) None c = refl
earlier_goes_on (Some a) (Some b) None = by (is_before b.key a.key)
  where
    by : (p : Bool) → earlier (if p then Some b else Some a) None ≡ (if p then Some b else Some a)
    by true = refl
    by false = refl
earlier_goes_on (Some a) (Some b) (Some c) = by (is_before b.key a.key) (is_before c.key b.key) refl refl
  where
    by : (p q : Bool) → is_before b.key a.key ≡ p → is_before c.key b.key ≡ q
        → earlier (if p then Some b else Some a) (Some c) ≡ earlier (Some a) (if q then Some c else Some b)
    by true true ep eq = rw (eq, goes_before a.key b.key c.key ep eq)
    by true false ep eq = rw (eq, ep)
    by false true ep eq = refl
    by false false ep eq = rw (ep, stays_behind a.key b.key c.key ep eq)

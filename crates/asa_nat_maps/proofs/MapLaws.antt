-- A static map is a look-up of a place and of the address there.
use Rattle.std.proofs.Common.{◌≡◌, ℕ, suc, ◌+◌, ◌==◌, Bool, true, false, cond, List, [], ◌∷◌, slice_get, Option, Some, None, option_and_then, refl, sym, ap, ◌∙◌, arith}
use Rattle.std.specs.List.{position, position_from}
use Rattle.std.specs.Option.{option_map}
use Rattle.std.proofs.lemmas.Iterator.Adapters.{position_from-zero}
use Rattle.asa_base.specs.Ranges.{AddressSpan}
use Rattle.asa_nat_rules.specs.Maps.{addresses_of, sent, static_map}
use Rattle.asa_nat_maps.specs.Places.{address_at, first_place}

-- a list that is numbered from one on
shifted : {X : Type 0} (t : X → Bool) (n : ℕ) (xs : List X) → position_from t (suc n) xs ≡ option_map suc (position_from t n xs)
shifted t n [] = refl
shifted t n (x ∷ xs) = by (t x) (shifted t (n + 1) xs)
  where
    more : suc n + 1 ≡ suc (n + 1)
    more = omega arith

    by : (h : Bool) → position_from t (suc (n + 1)) xs ≡ option_map suc (position_from t (n + 1) xs)
        → cond h (Some (suc n)) (position_from t (suc n + 1) xs) ≡ option_map suc (cond h (Some n) (position_from t (n + 1) xs))
    by true later = refl
    by false later = ap (λ k. position_from t k xs) more ∙ later

sent_from : (xs ys : List ℕ) (a : ℕ) → sent xs ys a ≡ option_and_then (slice_get ys) (position_from (λ x. x == a) 0 xs)
unfolding sent
sent_from [] ys a = refl
sent_from (x ∷ xs) [] a = none (position_from (λ z. z == a) 0 (x ∷ xs))
  where
    none : (o : Option ℕ) → None ≡ option_and_then (slice_get {X = ℕ} []) o
    none None = refl
    none (Some k) = refl
sent_from (x ∷ xs) (y ∷ ys) a = by (x == a) (sent_from xs ys a)
  where
    later : (o : Option ℕ) → option_and_then (slice_get ys) o ≡ option_and_then (slice_get (y ∷ ys)) (option_map suc o)
    later None = refl
    later (Some k) = refl

    by : (h : Bool) → sent xs ys a ≡ option_and_then (slice_get ys) (position_from (λ z. z == a) 0 xs)
        → cond h (Some y) (sent xs ys a) ≡ option_and_then (slice_get (y ∷ ys)) (cond h (Some 0) (position_from (λ z. z == a) 1 xs))
    by true rest = refl
    by false rest = rest ∙ later (position_from (λ z. z == a) 0 xs)
        ∙ ap (option_and_then (slice_get (y ∷ ys))) (sym (shifted (λ z. z == a) 0 xs))

pub position_is : {X : Type 0} (t : X → Bool) (xs : List X) → position t xs ≡ position_from t 0 xs
position_is t xs = position_from-zero t xs

-- what an address is sent to stands at its first place
pub sent_at : (from to : List AddressSpan) (a : ℕ) → option_and_then (address_at to) (first_place from a) ≡ static_map from to a
sent_at from to a =
    ap (option_and_then (slice_get (addresses_of to))) (position_is (λ x. x == a) (addresses_of from)) ∙ sym (sent_from (addresses_of from) (addresses_of to) a)

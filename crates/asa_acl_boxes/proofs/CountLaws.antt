-- How many ranges and services there are, and how many prefixes.
use Rattle.std.proofs.Common.{◌≡◌, ℕ, ◌+◌, ◌*◌, ◌^◌, ◌≤◌, Bool, true, false, cond, suc, List, [], ◌∷◌, length, map, filter, Option, refl, sym, ap, ◌∙◌, arith, le_trans}
use native.Mathlib.Nat.{mul-le-mul}
use Rattle.std.specs.List.{sum_by, flat_map}
use native.Mathlib.Nat.{suc-mul}
use Rattle.std.proofs.lemmas.List.{length-map, length-append}
use Rattle.std.proofs.lemmas.List.Concat.{flat_map-cons}
use Rattle.std.proofs.lemmas.List.Sums.{sum_by-cons}
use Rattle.asa_base.specs.Members.{member_range}
use Rattle.asa_base.specs.Prefixes.{member_prefix_count, prefixes_of_span}
use Rattle.asa_base.specs.declared.range.Member.{Member}
use Rattle.asa_base.specs.declared.boxes.Service.{Service}
use Rattle.asa_base.specs.Ranges.{PortSpan}
use Rattle.asa_acl_boxes.specs.Boxes.{has_ports, with_ports, all_with_ports}
use Rattle.asa_acl_boxes.specs.Pairs.{prefix_count}

-- the prefixes of members are those of their ranges
pub prefixes_of_members : (ms : List Member) → sum_by member_prefix_count ms ≡ prefix_count (map member_range ms)
prefixes_of_members [] = refl
prefixes_of_members (m ∷ ms) =
    sum_by-cons member_prefix_count m ms ∙ ap (λ n. member_prefix_count m + n) (prefixes_of_members ms)
    ∙ sym (sum_by-cons (λ s. length (prefixes_of_span s)) (member_range m) (map member_range ms))

-- products of small numbers
pub three_small : (a b c : ℕ) → a ≤ 65536 → b ≤ 65536 → c ≤ 65536 → (b * c ≤ 2 ^ 32) × (a * (b * c) ≤ 2 ^ 48)
three_small a b c p q r = let two : b * c ≤ 65536 * 65536 = mul-le-mul q r in (two, mul-le-mul p two)

length_filter : {X : Type 0} (f : X → Bool) (xs : List X) → length (filter f xs) ≤ length xs
length_filter f [] = omega arith
length_filter f (x ∷ xs) = by (f x) (length_filter f xs)
  where
    by : (b : Bool) → length (filter f xs) ≤ length xs → length (cond b (x ∷ filter f xs) (filter f xs)) ≤ suc (length xs)
    by true more = omega (arith, more)
    by false more = omega (arith, more)

-- no more protocols have ports than there are services
pub few_with_ports : (ss : List Service) {n m : ℕ} → n ≡ length ss → n ≤ 65536 → m ≡ length (filter has_ports (map (λ s. s.proto) ss)) → m ≤ 65536
few_with_ports ss same few found = omega (arith, length_filter has_ports (map (λ s. s.proto) ss), length-map ss (λ s. s.proto), same, few, found)

length_flat : {X Y : Type 0} (f : X → List Y) (n : ℕ) (xs : List X) → ((x : X) → length (f x) ≡ n) → length (flat_map f xs) ≡ length xs * n
length_flat f n [] each = omega arith
length_flat f n (x ∷ xs) each =
    ap length (flat_map-cons f x xs) ∙ length-append (f x) (flat_map f xs) ∙ ap (λ a. a + length (flat_map f xs)) (each x)
    ∙ ap (λ a. n + a) (length_flat f n xs each) ∙ omega (arith, suc-mul (length xs) n)

-- each protocol with each pair of ranges
pub length_with_ports : (ps : List (Option ℕ)) (ss ds : List PortSpan) → length (all_with_ports ps ss ds) ≡ length ps * (length ss * length ds)
length_with_ports ps ss ds =
    length_flat _ _ ps (λ p. length_flat _ _ ss (λ s. length-map ds (λ d. with_ports p s d)))

pub three_large : (a b c : ℕ) → a ≤ 4063232 → b ≤ 4063232 → c ≤ 2 ^ 48 → (a * b ≤ 2 ^ 44) × (a * b * c ≤ 2 ^ 92)
three_large a b c p q r = let two : a * b ≤ 2 ^ 44 = le_trans (mul-le-mul p q) (omega arith) in (two, mul-le-mul two r)

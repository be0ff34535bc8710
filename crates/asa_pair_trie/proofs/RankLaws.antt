-- Ranks and counts together: no matter how they are grouped or ordered.
use Rattle.std.proofs.Common.{◌≡◌, ℕ, ◌+◌, ◌<◌, Bool, true, false, cond, ◌&&◌, List, [], ◌∷◌, length, Option, Some, None, refl, sym, ap, ◌∙◌, arith, min, suc, ◌⊎◌, inl, inr, get_or, drop, drop-cons, add-one}
use Rattle.std.specs.Prelude.{filter}
use Rattle.std.specs.List.Sorted.{IsPermutation}
use Rattle.asa_base.specs.Boxes.{service_holds}
use Rattle.asa_base.specs.declared.flow.Packet.{Packet}
use Rattle.asa_trie.specs.Bits.{covers_number}
use Rattle.asa_trie.specs.Tries.{Laws, total}
use Rattle.asa_trie.proofs.SumLaws.{sum_permutation}
use Rattle.asa_pair_trie.specs.declared.entries.Entry.{Entry}
use Rattle.asa_pair_trie.specs.declared.entries.Side.TheVariants.{Source}
use Rattle.asa_pair_trie.specs.Pairs.{covers_both, holds, lesser, least_rank, first_of}
use Rattle.asa_pair_trie.specs.Lookup.{Seen, both, seeing}
use Rattle.asa_pair_trie.specs.Growth.{prefix_by, worth}

pub lesser_assoc : (a b c : Option ℕ) → lesser (lesser a b) c ≡ lesser a (lesser b c)
lesser_assoc None b c = refl
lesser_assoc (Some a) None c = refl
lesser_assoc (Some a) (Some b) None = refl
lesser_assoc (Some a) (Some b) (Some c) = let e : min (min a b) c ≡ min a (min b c) = omega arith in ap (λ x. Some x) e

pub lesser_comm : (a b : Option ℕ) → lesser a b ≡ lesser b a
lesser_comm None None = refl
lesser_comm None (Some b) = refl
lesser_comm (Some a) None = refl
lesser_comm (Some a) (Some b) = let e : min a b ≡ min b a = omega arith in ap (λ x. Some x) e

pub lesser_none : (a : Option ℕ) → lesser a None ≡ a
lesser_none None = refl
lesser_none (Some a) = refl

pub seeing_laws : Laws seeing
seeing_laws = record {
  assoc = λ a b c. same_seen (lesser_assoc a.rank b.rank c.rank) (omega arith);
  comm = λ a b. same_seen (lesser_comm a.rank b.rank) (omega arith);
  unit_left = λ a. same_seen refl (omega arith);
}
  where
    same_seen : {p q : Option ℕ} {m n : ℕ} → p ≡ q → m ≡ n → (let x : Seen = record { rank = p; read = m } in let y : Seen = record { rank = q; read = n } in x ≡ y)
    same_seen e f = λ i. record { rank = e i; read = f i }

-- the rank and the count of the entries that cover a packet
pub total_is : (p : Packet) (entries : List Entry)
    → ((total seeing (prefix_by Source) (worth p) entries p.src.0).rank ≡ first_of entries p)
    × ((total seeing (prefix_by Source) (worth p) entries p.src.0).read ≡ length (filter (covers_both p) entries))
total_is p [] = (refl, refl)
total_is p (e ∷ es) =
    let more = total_is p es in
    one_more (covers_number e.source p.src.0) (covers_number e.dest p.dst.0) (service_holds e.service p)
    (filter (holds p) es) (filter (covers_both p) es) (total seeing (prefix_by Source) (worth p) es p.src.0) more.0 more.1
  where
    one_more : (s d v : Bool) (held covering : List Entry) (rest : Seen) → rest.rank ≡ least_rank held → rest.read ≡ length covering
        → ((both (cond s (cond d (record { rank = cond v (Some e.rank) None; read = 1 }) seeing.unit) seeing.unit) rest).rank ≡ least_rank (cond (s && d && v) (e ∷ held) held))
        × ((both (cond s (cond d (record { rank = cond v (Some e.rank) None; read = 1 }) seeing.unit) seeing.unit) rest).read ≡ length (cond (s && d) (e ∷ covering) covering))
    one_more true true true held covering rest er ec = (ap (λ r. lesser (Some e.rank) r) er, omega arith)
    one_more true true false held covering rest er ec = (er, omega arith)
    one_more true false v held covering rest er ec = (er, omega arith)
    one_more false d v held covering rest er ec = (er, omega arith)

-- entries in another order have the same least rank of those that hold a packet
pub first_permutation : (es fs : List Entry) → IsPermutation es fs → (p : Packet) → first_of fs p ≡ first_of es p
first_permutation es fs same p =
    sym (total_is p fs).0
    ∙ ap (λ x. x.rank) (sum_permutation seeing seeing_laws (λ e. cond (covers_number (prefix_by Source e) p.src.0) (worth p e) seeing.unit) es fs same)
    ∙ (total_is p es).0

-- and as many of them cover its addresses
pub covering_permutation : (es fs : List Entry) → IsPermutation es fs → (p : Packet) → length (filter (covers_both p) fs) ≡ length (filter (covers_both p) es)
covering_permutation es fs same p =
    sym (total_is p fs).1
    ∙ ap (λ x. x.read) (sum_permutation seeing seeing_laws (λ e. cond (covers_number (prefix_by Source e) p.src.0) (worth p e) seeing.unit) es fs same)
    ∙ (total_is p es).1

-- one more entry of a list is looked at
pub rank_step : (p : Packet) (entries : List Entry) (i : ℕ) (x : Entry) (b b' : Option ℕ) → i < length entries → x ≡ get_or entries i x
    → ((holds p x ≡ true) × (b' ≡ lesser b (Some x.rank))) ⊎ ((holds p x ≡ false) × (b' ≡ b))
    → lesser b' (least_rank (filter (holds p) (drop (i + 1) entries))) ≡ lesser b (least_rank (filter (holds p) (drop i entries)))
rank_step p entries i x b b' less e step =
    let at : drop i entries ≡ x ∷ drop (i + 1) entries = rw (add-one) (drop-cons entries i x less ∙ ap (λ y. y ∷ drop (suc i) entries) (sym e)) in
    rw at (elim step [
      | inl passed ↦ rw (passed.0, passed.1) (lesser_assoc b (Some x.rank) (least_rank (filter (holds p) (drop (i + 1) entries))))
      | inr failed ↦ rw (failed.0, failed.1) refl
    ])

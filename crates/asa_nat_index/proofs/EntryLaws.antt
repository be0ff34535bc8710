-- The entries of a case hold the packets that the case holds.
use Rattle.std.proofs.Common.{◌≡◌, ℕ, suc, ◌+◌, ◌*◌, Bool, true, false, ◌&&◌, ◌||◌, cond, List, [], ◌∷◌, ◌++◌, length, filter, Option, Some, None, min, refl, sym, ap, ◌∙◌, arith}
use Rattle.std.specs.List.{list_any}
use Rattle.std.proofs.lemmas.List.{length-append}
use Rattle.std.proofs.lemmas.List.Elements.{filter-append}
use Rattle.std.proofs.lemmas.List.Folds.{list_any-append}
use Rattle.std.proofs.lemmas.List.Concat.{length-flat_map}
use Rattle.asa_text.specs.declared.numbers.Addr.{Addr}
use Rattle.asa_base.specs.Boxes.{service_holds}
use Rattle.asa_base.specs.Networks.{Network, covers}
use Rattle.asa_base.specs.Prefixes.{prefixes_of_span}
use Rattle.asa_base.specs.Ranges.{AddressSpan}
use Rattle.asa_base.specs.declared.boxes.Service.{Service}
use Rattle.asa_base.specs.declared.flow.Packet.{Packet}
use Rattle.asa_nat_rules.specs.declared.case.Case.{Case}
use Rattle.asa_nat_rules.specs.Pairs.{prefix_count, case_pairs}
use Rattle.asa_pair_trie.specs.declared.entries.Entry.{Entry}
use Rattle.asa_pair_trie.specs.Pairs.{covers_both, holds, lesser, least_rank, first_of}
use Rattle.asa_pair_trie.proofs.RankLaws.{lesser_assoc}
use Rattle.asa_nat_index.specs.Entries.{dest_entries, pair_entries, rank_if}
use Rattle.asa_nat_index.specs.Matches.{lies_in, service_of, fits, networks_of, covering, case_covering, count_if}

pub any_append : (xs ys : List Network) (a : Addr) → list_any (λ n. covers n a) (xs ++ ys) ≡ (list_any (λ n. covers n a) xs || list_any (λ n. covers n a) ys)
any_append xs ys a = list_any-append (λ n. covers n a) xs ys

-- one entry in front
first_cons : (e : Entry) (es : List Entry) (p : Packet) → first_of (e ∷ es) p ≡ lesser (rank_if (holds p e) e.rank) (first_of es p)
first_cons e es p = by (holds p e)
  where
    by : (h : Bool) → least_rank (cond h (e ∷ filter (holds p) es) (filter (holds p) es)) ≡ lesser (rank_if h e.rank) (least_rank (filter (holds p) es))
    by true = refl
    by false = refl

-- entries after entries
pub first_append : (xs ys : List Entry) (p : Packet) → first_of (xs ++ ys) p ≡ lesser (first_of xs p) (first_of ys p)
first_append [] ys p = refl
first_append (e ∷ xs) ys p =
    first_cons e (xs ++ ys) p ∙ ap (lesser (rank_if (holds p e) e.rank)) (first_append xs ys p)
    ∙ sym (lesser_assoc (rank_if (holds p e) e.rank) (first_of xs p) (first_of ys p))
    ∙ ap (λ o. lesser o (first_of ys p)) (sym (first_cons e xs p))

twice : (r : ℕ) → lesser (Some r) (Some r) ≡ Some r
twice r = let e : min r r ≡ r = omega arith in ap Some e

-- a destination and those after it
dest_step : (s d ds v : Bool) (r : ℕ) → lesser (rank_if ((s && d) && v) r) (rank_if (s && ds && v) r) ≡ rank_if (s && (d || ds) && v) r
dest_step false d ds v r = refl
dest_step true false ds v r = refl
dest_step true true ds false r = by ds
  where
    by : (b : Bool) → lesser None (rank_if (b && false) r) ≡ None
    by true = refl
    by false = refl
dest_step true true true true r = twice r
dest_step true true false true r = refl

dest_none : (s v : Bool) (r : ℕ) → None ≡ rank_if (s && false && v) r
dest_none true v r = refl
dest_none false v r = refl

first_dests : (s : Network) (ds : List Network) (v : Service) (r : ℕ) (p : Packet)
    → first_of (dest_entries s ds v r) p ≡ rank_if (covers s p.src && list_any (λ n. covers n p.dst) ds && service_holds v p) r
first_dests s [] v r p = dest_none (covers s p.src) (service_holds v p) r
first_dests s (d ∷ ds) v r p =
    let e : Entry = record { source = s; dest = d; service = v; rank = r } in
    first_cons e (dest_entries s ds v r) p ∙ ap (lesser (rank_if (holds p e) r)) (first_dests s ds v r p)
    ∙ dest_step (covers s p.src) (covers d p.dst) (list_any (λ n. covers n p.dst) ds) (service_holds v p) r

-- a source and those after it
source_step : (s ss ds v : Bool) (r : ℕ) → lesser (rank_if (s && ds && v) r) (rank_if (ss && ds && v) r) ≡ rank_if ((s || ss) && ds && v) r
source_step false ss ds v r = refl
source_step true false ds v r = by (ds && v)
  where
    by : (b : Bool) → lesser (rank_if b r) None ≡ rank_if b r
    by true = refl
    by false = refl
source_step true true ds v r = by (ds && v)
  where
    by : (b : Bool) → lesser (rank_if b r) (rank_if b r) ≡ rank_if b r
    by true = twice r
    by false = refl

first_pairs : (ss ds : List Network) (v : Service) (r : ℕ) (p : Packet)
    → first_of (pair_entries ss ds v r) p ≡ rank_if (list_any (λ n. covers n p.src) ss && list_any (λ n. covers n p.dst) ds && service_holds v p) r
first_pairs [] ds v r p = refl
first_pairs (s ∷ ss) ds v r p =
    first_append (dest_entries s ds v r) (pair_entries ss ds v r) p
    ∙ ap (λ o. lesser o (first_of (pair_entries ss ds v r) p)) (first_dests s ds v r p)
    ∙ ap (lesser (rank_if (covers s p.src && list_any (λ n. covers n p.dst) ds && service_holds v p) r)) (first_pairs ss ds v r p)
    ∙ source_step (covers s p.src) (list_any (λ n. covers n p.src) ss) (list_any (λ n. covers n p.dst) ds) (service_holds v p) r

-- the entries of a case, appended
pub case_first : (old new : List Entry) (ss ds : List Network) (c : Case) (r : ℕ) (p : Packet) → new ≡ old ++ pair_entries ss ds (service_of c) r
    → list_any (λ n. covers n p.src) ss ≡ lies_in p.src c.source → list_any (λ n. covers n p.dst) ds ≡ lies_in p.dst c.dest
    → first_of new p ≡ lesser (first_of old p) (rank_if (fits p c) r)
case_first old new ss ds c r p e source dest =
    ap (λ es. first_of es p) e ∙ first_append old (pair_entries ss ds (service_of c) r) p
    ∙ ap (lesser (first_of old p)) (first_pairs ss ds (service_of c) r p
    ∙ ap (λ h. rank_if (h && list_any (λ n. covers n p.dst) ds && service_holds (service_of c) p) r) source
    ∙ ap (λ h. rank_if (lies_in p.src c.source && h && service_holds (service_of c) p) r) dest)

length_if : {X : Type 0} (h : Bool) (x : X) (xs : List X) → length (cond h (x ∷ xs) xs) ≡ count_if h 1 + length xs
length_if true x xs = omega arith
length_if false x xs = omega arith

covers_cons : (e : Entry) (es : List Entry) (p : Packet) → length (filter (covers_both p) (e ∷ es)) ≡ count_if (covers_both p e) 1 + length (filter (covers_both p) es)
covers_cons e es p = length_if (covers_both p e) e (filter (covers_both p) es)

covers_append : (xs ys : List Entry) (p : Packet) → length (filter (covers_both p) (xs ++ ys)) ≡ length (filter (covers_both p) xs) + length (filter (covers_both p) ys)
covers_append xs ys p = ap (λ es. length es) (filter-append (covers_both p) xs ys) ∙ length-append (filter (covers_both p) xs) (filter (covers_both p) ys)

dest_count : (s : Bool) (a : Addr) (d : Network) (ds : List Network)
    → count_if (s && covers d a) 1 + count_if s (covering a ds) ≡ count_if s (covering a (d ∷ ds))
dest_count true a d ds = sym (length_if (covers d a) d (filter (λ n. covers n a) ds))
dest_count false a d ds = refl

covers_dests : (s : Network) (ds : List Network) (v : Service) (r : ℕ) (p : Packet)
    → length (filter (covers_both p) (dest_entries s ds v r)) ≡ count_if (covers s p.src) (covering p.dst ds)
covers_dests s [] v r p = by (covers s p.src)
  where
    by : (h : Bool) → 0 ≡ count_if h 0
    by true = refl
    by false = refl
covers_dests s (d ∷ ds) v r p =
    let e : Entry = record { source = s; dest = d; service = v; rank = r } in
    covers_cons e (dest_entries s ds v r) p ∙ ap (λ n. count_if (covers_both p e) 1 + n) (covers_dests s ds v r p)
    ∙ dest_count (covers s p.src) p.dst d ds

source_count : (k : ℕ) (a : Addr) (s : Network) (ss : List Network) → count_if (covers s a) k + covering a ss * k ≡ covering a (s ∷ ss) * k
source_count k a s ss = by (covers s a)
  where
    by : (h : Bool) → count_if h k + length (filter (λ n. covers n a) ss) * k ≡ length (cond h (s ∷ filter (λ n. covers n a) ss) (filter (λ n. covers n a) ss)) * k
    by true = omega arith
    by false = omega arith

covers_pairs : (ss ds : List Network) (v : Service) (r : ℕ) (p : Packet)
    → length (filter (covers_both p) (pair_entries ss ds v r)) ≡ covering p.src ss * covering p.dst ds
covers_pairs [] ds v r p = omega arith
covers_pairs (s ∷ ss) ds v r p =
    covers_append (dest_entries s ds v r) (pair_entries ss ds v r) p
    ∙ ap (λ n. n + length (filter (covers_both p) (pair_entries ss ds v r))) (covers_dests s ds v r p)
    ∙ ap (λ n. count_if (covers s p.src) (covering p.dst ds) + n) (covers_pairs ss ds v r p)
    ∙ source_count (covering p.dst ds) p.src s ss

pub case_covers : (old new : List Entry) (ss ds : List Network) (c : Case) (r : ℕ) (p : Packet) → new ≡ old ++ pair_entries ss ds (service_of c) r
    → ss ≡ networks_of c.source → ds ≡ networks_of c.dest
    → length (filter (covers_both p) new) ≡ length (filter (covers_both p) old) + case_covering p c
case_covers old new ss ds c r p e source dest =
    ap (λ es. length (filter (covers_both p) es)) e ∙ covers_append old (pair_entries ss ds (service_of c) r) p
    ∙ ap (λ n. length (filter (covers_both p) old) + n) (covers_pairs ss ds (service_of c) r p
    ∙ ap (λ ns. covering p.src ns * covering p.dst ds) source ∙ ap (λ ns. covering p.src (networks_of c.source) * covering p.dst ns) dest)

length_dests : (s : Network) (ds : List Network) (v : Service) (r : ℕ) → length (dest_entries s ds v r) ≡ length ds
length_dests s [] v r = refl
length_dests s (d ∷ ds) v r = ap suc (length_dests s ds v r)

length_pairs : (ss ds : List Network) (v : Service) (r : ℕ) → length (pair_entries ss ds v r) ≡ length ss * length ds
length_pairs [] ds v r = omega arith
length_pairs (s ∷ ss) ds v r =
    length-append (dest_entries s ds v r) (pair_entries ss ds v r)
    ∙ ap (λ n. n + length (pair_entries ss ds v r)) (length_dests s ds v r) ∙ ap (λ n. length ds + n) (length_pairs ss ds v r) ∙ omega arith

network_count : (spans : List AddressSpan) → length (networks_of spans) ≡ prefix_count spans
network_count spans = length-flat_map prefixes_of_span spans

pub case_longer : (old new : List Entry) (ss ds : List Network) (c : Case) (r : ℕ) → new ≡ old ++ pair_entries ss ds (service_of c) r
    → ss ≡ networks_of c.source → ds ≡ networks_of c.dest → length new ≡ length old + case_pairs c
case_longer old new ss ds c r e source dest =
    ap (λ es. length es) e ∙ length-append old (pair_entries ss ds (service_of c) r)
    ∙ ap (λ n. length old + n) (length_pairs ss ds (service_of c) r
    ∙ ap (λ n. n * length ds) (ap (λ ns. length ns) source ∙ network_count c.source)
    ∙ ap (λ n. prefix_count c.source * n) (ap (λ ns. length ns) dest ∙ network_count c.dest))

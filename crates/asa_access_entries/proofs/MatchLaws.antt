-- First matches as entries and boxes are gone through.
use Rattle.std.proofs.Common.{◌≡◌, ℕ, suc, ◌+◌, ◌*◌, ◌<◌, Bool, true, false, ◌&&◌, ◌||◌, List, [], ◌∷◌, ◌++◌, length, filter, drop, get_or, sum_by, Option, Some, None, if◌then◌else◌, refl, sym, ap, ◌∙◌, arith}
use Rattle.std.specs.List.{find}
use Rattle.std.proofs.Math.Seq.{drop-cons}
use Rattle.std.proofs.lemmas.List.Sums.{sum_by-cons}
use Rattle.std.specs.Option.{option_map}
use Rattle.asa_base.specs.declared.flow.Packet.{Packet}
use Rattle.asa_base.specs.declared.boxes.LineBox.{LineBox}
use Rattle.asa_text.specs.declared.numbers.Addr.{Addr}
use Rattle.asa_base.specs.Networks.{Network, covers}
use Rattle.asa_base.specs.Boxes.{box_holds}
use Rattle.asa_pair_trie.specs.Pairs.{covers_both, holds}
use Rattle.asa_access_entries.specs.Matches.{Placed, first_box, first_match, or_else, line_if, covering, entries_covering, count_if}

pub or_else_none : (a : Option (ℕ × Bool)) → or_else a None ≡ a
or_else_none None = refl
or_else_none (Some x) = refl

pub or_else_assoc : (a b c : Option (ℕ × Bool)) → or_else (or_else a b) c ≡ or_else a (or_else b c)
or_else_assoc None b c = refl
or_else_assoc (Some x) b c = refl

-- one entry in front
pub match_cons : (e : Placed) (es : List Placed) (p : Packet) → first_match (e ∷ es) p ≡ or_else (line_if (holds p e.0) e.1 e.2) (first_match es p)
match_cons e es p = by (holds p e.0)
  where
    by : (h : Bool) → option_map (λ (x : Placed). (x.1, x.2)) (if h then Some e else find (λ x. holds p x.0) es)
        ≡ or_else (line_if h e.1 e.2) (option_map (λ (x : Placed). (x.1, x.2)) (find (λ x. holds p x.0) es))
    by true = refl
    by false = refl

-- one box in front
pub box_cons : (b : LineBox) (bs : List LineBox) (p : Packet) → first_box (b ∷ bs) p ≡ or_else (line_if (box_holds b p) b.line b.permit) (first_box bs p)
box_cons b bs p = by (box_holds b p)
  where
    by : (h : Bool) → option_map (λ (x : LineBox). (x.line, x.permit)) (if h then Some b else find (λ x. box_holds x p) bs)
        ≡ or_else (line_if h b.line b.permit) (option_map (λ (x : LineBox). (x.line, x.permit)) (find (λ x. box_holds x p) bs))
    by true = refl
    by false = refl

-- entries after entries
pub match_append : (xs ys : List Placed) (p : Packet) → first_match (xs ++ ys) p ≡ or_else (first_match xs p) (first_match ys p)
match_append [] ys p = refl
match_append (e ∷ xs) ys p =
    match_cons e (xs ++ ys) p
    ∙ ap (or_else (line_if (holds p e.0) e.1 e.2)) (match_append xs ys p)
    ∙ sym (or_else_assoc (line_if (holds p e.0) e.1 e.2) (first_match xs p) (first_match ys p))
    ∙ ap (λ m. or_else m (first_match ys p)) (sym (match_cons e xs p))

-- one entry at the end
pub match_push : (xs : List Placed) (e : Placed) (p : Packet) → first_match (xs ++ e ∷ []) p ≡ or_else (first_match xs p) (line_if (holds p e.0) e.1 e.2)
match_push xs e p =
    match_append xs (e ∷ []) p
    ∙ ap (or_else (first_match xs p)) (match_cons e [] p ∙ or_else_none (line_if (holds p e.0) e.1 e.2))

-- a destination and those after it, for one source and one service
pub dest_step : (m : Option (ℕ × Bool)) (source dest rest service : Bool) (n : ℕ) (q : Bool)
    → or_else (or_else m (line_if (source && dest && service) n q)) (line_if (source && rest && service) n q) ≡ or_else m (line_if (source && (dest || rest) && service) n q)
dest_step (Some x) source dest rest service n q = refl
dest_step None false dest rest service n q = refl
dest_step None true true rest true n q = refl
dest_step None true true true false n q = refl
dest_step None true true false false n q = refl
dest_step None true false rest service n q = refl

-- a source and those after it, for all destinations and one service
pub source_step : (m : Option (ℕ × Bool)) (source rest dests service : Bool) (n : ℕ) (q : Bool)
    → or_else (or_else m (line_if (source && dests && service) n q)) (line_if (rest && dests && service) n q) ≡ or_else m (line_if ((source || rest) && dests && service) n q)
source_step (Some x) source rest dests service n q = refl
source_step None false rest dests service n q = refl
source_step None true rest true true n q = refl
source_step None true true true false n q = refl
source_step None true false true false n q = refl
source_step None true true false service n q = refl
source_step None true false false service n q = refl

-- no destination is left
pub dest_end : (m : Option (ℕ × Bool)) (source service : Bool) (n : ℕ) (q : Bool) → or_else m (line_if (source && false && service) n q) ≡ m
dest_end m true service n q = or_else_none m
dest_end m false service n q = or_else_none m

length_if : {X : Type 0} (h : Bool) (x : X) (xs : List X) → length (if h then x ∷ xs else xs) ≡ count_if h 1 + length xs
length_if true x xs = omega arith
length_if false x xs = omega arith

-- one entry at the end covers the packet, or doesn't
pub covering_push : (xs : List Placed) (e : Placed) (p : Packet) → entries_covering p (xs ++ e ∷ []) ≡ entries_covering p xs + count_if (covers_both p e.0) 1
unfolding entries_covering
covering_push [] e p = omega (arith, length_if (covers_both p e.0) e [])
covering_push (x ∷ xs) e p =
    let a = length_if (covers_both p x.0) x (filter (λ (y : Placed). covers_both p y.0) (xs ++ e ∷ [])) in
    let b = length_if (covers_both p x.0) x (filter (λ (y : Placed). covers_both p y.0) xs) in
    omega (arith, a, b, covering_push xs e p)

-- a destination and those after it, for one source
pub dest_count : (m : ℕ) (source : Bool) (a : Addr) (d : Network) (ds : List Network)
    → m + count_if (source && covers d a) 1 + count_if source (covering a ds) ≡ m + count_if source (covering a (d ∷ ds))
dest_count m true a d ds = let e = length_if (covers d a) d (filter (λ (n : Network). covers n a) ds) in omega (arith, e)
dest_count m false a d ds = omega arith

-- a source and those after it, for all destinations
pub source_count : (m k : ℕ) (a : Addr) (s : Network) (ss : List Network)
    → m + count_if (covers s a) k + covering a ss * k ≡ m + covering a (s ∷ ss) * k
source_count m k a s ss = by (covers s a)
  where
    by : (h : Bool) → m + count_if h k + length (filter (λ (n : Network). covers n a) ss) * k ≡ m + length (if h then s ∷ filter (λ (n : Network). covers n a) ss else filter (λ (n : Network). covers n a) ss) * k
    by true = omega arith
    by false = omega arith

pub covering_none : (p : Packet) → entries_covering p [] ≡ 0
unfolding entries_covering
covering_none p = refl

-- from a place on, a list begins with the value there
drop_at : {X : Type 0} (xs : List X) (i : ℕ) (x : X) → i < length xs → x ≡ get_or xs i x → drop i xs ≡ x ∷ drop (i + 1) xs
drop_at xs i x within is =
    let more : suc i ≡ i + 1 = omega arith in
    drop-cons xs i x within ∙ ap (λ y. y ∷ drop (suc i) xs) (sym is) ∙ ap (λ k. x ∷ drop k xs) more

-- a sum so far and of what is left, after one value more
pub sum_at : {X : Type 0} (f : X → ℕ) (xs : List X) (i : ℕ) (x : X) (old new all : ℕ) → i < length xs → x ≡ get_or xs i x → new ≡ old + f x
    → old + sum_by f (drop i xs) ≡ all → new + sum_by f (drop (i + 1) xs) ≡ all
sum_at f xs i x old new all within is step before =
    let e = ap (sum_by f) (drop_at xs i x within is) ∙ sum_by-cons f x (drop (i + 1) xs) in
    omega (arith, e, step, before)

-- the pairs so far and those of the sources that are left, after one source more
pub pairs_at : (k : ℕ) (a : Addr) (ss : List Network) (i : ℕ) (s : Network) (old new all : ℕ) → i < length ss → s ≡ get_or ss i s → new ≡ old + count_if (covers s a) k
    → old + covering a (drop i ss) * k ≡ all → new + covering a (drop (i + 1) ss) * k ≡ all
pairs_at k a ss i s old new all within is step before =
    let e : covering a (drop i ss) * k ≡ covering a (s ∷ drop (i + 1) ss) * k = ap (λ ns. covering a ns * k) (drop_at ss i s within is) in
    let c = source_count old k a s (drop (i + 1) ss) in
    ap (λ n. n + covering a (drop (i + 1) ss) * k) step ∙ c ∙ ap (λ n. old + n) (sym e) ∙ before

-- Texts that are written one after another.
use Rattle.std.proofs.Common.{◌≡◌, ℕ, ◌+◌, ◌≤◌, min, List, [], ◌∷◌, ◌++◌, length, take, Option, None, Some, Result, Ok, Err, refl, sym, ap, subst, ◌∙◌, arith, append_assoc, length-append}
use Rattle.std.specs.Io.KnownBytes.{Appends}
use Rattle.std.proofs.lemmas.List.{append-nil, take-append-le}
use Rattle.std.proofs.Math.Seq.{take-append-add, take-length}
use Rattle.asa_io.specs.Faults.{Rose, one_more}
use Rattle.asa_main.specs.declared.statuses.Status.{Status}
use Rattle.asa_main.specs.declared.statuses.Status.TheVariants as status
use Rattle.asa_main.specs.Outputs.{Output, joined, whole, WritesText, WritesTexts, Writes}

-- some bytes were given, and then more
appends_both : (old mid new : Option (List ℕ)) (a b : List ℕ) → Appends old mid a → Appends mid new b → Appends old new (a ++ b)
appends_both None mid new a b p q = tt
appends_both (Some xs) None new a b p q = absurd p
appends_both (Some xs) (Some ys) None a b p q = absurd q
appends_both (Some xs) (Some ys) (Some zs) a b p q = q ∙ ap (λ l. l ++ b) p ∙ append_assoc xs a b

pub appends_nothing : (given given' : Option (List ℕ)) → given' ≡ given → Appends given given' []
appends_nothing None given' same = tt
appends_nothing (Some xs) given' same = rw same (sym (append-nil xs))

-- a count that rose since later rose since before
rose_since : (f f1 f2 : ℕ) → f ≤ f1 → Rose f1 f2 → Rose f f2
rose_since f f1 f2 below rose = let later : one_more f ≤ one_more f1 = omega arith in omega arith

joined_both : (ps qs : List (List ℕ)) → joined (ps ++ qs) ≡ joined ps ++ joined qs
joined_both [] qs = refl
joined_both (p ∷ ps) qs = ap (λ l. p ++ l) (joined_both ps qs) ∙ sym (append_assoc p (joined ps) (joined qs))

-- no text
pub writes_none : (before : ℕ) (given : Option (List ℕ)) (faults : ℕ) → WritesTexts [] before given given faults faults (Ok before)
writes_none before given faults = (omega arith, appends_nothing given given refl)

-- nothing was written
pub writes_nothing : (texts : List (List ℕ)) (before : ℕ) (given given' : Option (List ℕ)) (faults faults' : ℕ) → given' ≡ given →
    WritesTexts texts before given given' faults faults' (Err status.Memory)
writes_nothing texts before given given' faults faults' same = (0, omega arith, appends_nothing given given' same)

pub nothing_written : (o : Output) (given given' : Option (List ℕ)) (faults faults' : ℕ) → given' ≡ given → Writes o given given' faults faults' status.Memory
nothing_written o given given' faults faults' same = (0, appends_nothing given given' same)

-- one text
pub writes_one : (text : List ℕ) (before : ℕ) (given given' : Option (List ℕ)) (faults faults' : ℕ) (r : Result ℕ Status) →
    WritesText text before given given' faults faults' r → WritesTexts (text ∷ []) before given given' faults faults' r
writes_one text before given given' faults faults' (Ok written) w = let one = append-nil text in rw one w
writes_one text before given given' faults faults' (Err (status.WriteFault written)) w = let one = append-nil text in rw one w
writes_one text before given given' faults faults' (Err status.Memory) w = (0, omega arith, appends_nothing given given' w)
writes_one text before given given' faults faults' (Err status.Done) w = absurd w
writes_one text before given given' faults faults' (Err (status.Refused line why)) w = absurd w
writes_one text before given given' faults faults' (Err status.Usage) w = absurd w
writes_one text before given given' faults faults' (Err status.ReadFault) w = absurd w

-- texts that were all written, and then more texts
pub writes_more : (ps qs : List (List ℕ)) (before mid : ℕ) (g g1 g2 : Option (List ℕ)) (f f1 f2 : ℕ) (r : Result ℕ Status) →
    WritesTexts ps before g g1 f f1 (Ok mid) → f ≤ f1 → WritesTexts qs mid g1 g2 f1 f2 r → WritesTexts (ps ++ qs) before g g2 f f2 r
writes_more ps qs before mid g g1 g2 f f1 f2 (Ok written) w later v =
    let n = length-append (joined ps) (joined qs) in
    let first = w.0 in
    let second = v.0 in
    rw (joined_both ps qs) (rw n (omega arith), appends_both g g1 g2 (joined ps) (joined qs) w.1 v.1)
writes_more ps qs before mid g g1 g2 f f1 f2 (Err (status.WriteFault written)) w later v =
    let n = length-append (joined ps) (joined qs) in
    let t = take-append-add (joined ps) (joined qs) v.1 in
    let first = w.0 in
    let within = v.2 in
    let second = v.3 in
    rw (joined_both ps qs) (
      rose_since f f1 f2 later v.0,
      length (joined ps) + v.1,
      rw n (omega arith),
      omega arith,
      rw t (appends_both g g1 g2 (joined ps) (take v.1 (joined qs)) w.1 v.4),
    )
writes_more ps qs before mid g g1 g2 f f1 f2 (Err status.Memory) w later v =
    let n = length-append ps qs in
    let within = v.1 in
    let t : joined (take (length ps + v.0) (ps ++ qs)) ≡ joined ps ++ joined (take v.0 qs) =
    ap (λ l. joined l) (take-append-add ps qs v.0) ∙ joined_both ps (take v.0 qs) in
    (length ps + v.0, rw n (omega arith), rw t (appends_both g g1 g2 (joined ps) (joined (take v.0 qs)) w.1 v.2))
writes_more ps qs before mid g g1 g2 f f1 f2 (Err status.Done) w later v = absurd v
writes_more ps qs before mid g g1 g2 f f1 f2 (Err (status.Refused line why)) w later v = absurd v
writes_more ps qs before mid g g1 g2 f f1 f2 (Err status.Usage) w later v = absurd v
writes_more ps qs before mid g g1 g2 f f1 f2 (Err status.ReadFault) w later v = absurd v

-- texts that weren't all written, where more texts would have come
pub writes_stopped : (ps qs : List (List ℕ)) (before : ℕ) (g g' : Option (List ℕ)) (f f' : ℕ) (s : Status) →
    WritesTexts ps before g g' f f' (Err s) → WritesTexts (ps ++ qs) before g g' f f' (Err s)
writes_stopped ps qs before g g' f f' (status.WriteFault written) w =
    let n = length-append (joined ps) (joined qs) in
    let within = w.2 in
    let t = take-append-le w.1 (joined ps) (joined qs) w.2 in
    rw (joined_both ps qs) (w.0, w.1, rw n (omega arith), w.3, rw t w.4)
writes_stopped ps qs before g g' f f' status.Memory w =
    let n = length-append ps qs in
    let within = w.1 in
    let t = take-append-le w.0 ps qs w.1 in
    (w.0, rw n (omega arith), rw t w.2)
writes_stopped ps qs before g g' f f' status.Done w = absurd w
writes_stopped ps qs before g g' f f' (status.Refused line why) w = absurd w
writes_stopped ps qs before g g' f f' status.Usage w = absurd w
writes_stopped ps qs before g g' f f' status.ReadFault w = absurd w

-- all parts were written, and then the last one
pub writes_all : (o : Output) (mid end : ℕ) (g g1 g2 : Option (List ℕ)) (f f1 f2 : ℕ) →
    WritesTexts o.parts 0 g g1 f f1 (Ok mid) → WritesText o.last mid g1 g2 f1 f2 (Ok end) → Writes o g g2 f f2 status.Done
writes_all o mid end g g1 g2 f f1 f2 w v = appends_both g g1 g2 (joined o.parts) o.last w.1 v.1

-- all parts were written, and then the last one wasn't
pub last_stopped : (o : Output) (mid : ℕ) (g g1 g2 : Option (List ℕ)) (f f1 f2 : ℕ) (s : Status) →
    WritesTexts o.parts 0 g g1 f f1 (Ok mid) → f ≤ f1 → WritesText o.last mid g1 g2 f1 f2 (Err s) → Writes o g g2 f f2 s
last_stopped o mid g g1 g2 f f1 f2 (status.WriteFault written) w later v =
    let n = length-append (joined o.parts) o.last in
    let first = w.0 in
    let within = v.2 in
    let second = v.3 in
    let place : written ≡ length (joined o.parts) + v.1 = omega arith in
    let t : take written (whole o) ≡ joined o.parts ++ take v.1 o.last = ap (λ k. take k (whole o)) place ∙ take-append-add (joined o.parts) o.last v.1 in
    (rose_since f f1 f2 later v.0, rw n (omega arith), rw t (appends_both g g1 g2 (joined o.parts) (take v.1 o.last) w.1 v.4))
last_stopped o mid g g1 g2 f f1 f2 status.Memory w later v =
    (length o.parts, let t = take-length o.parts in rw (v, t) w.1)
last_stopped o mid g g1 g2 f f1 f2 status.Done w later v = absurd v
last_stopped o mid g g1 g2 f f1 f2 (status.Refused line why) w later v = absurd v
last_stopped o mid g g1 g2 f f1 f2 status.Usage w later v = absurd v
last_stopped o mid g g1 g2 f f1 f2 status.ReadFault w later v = absurd v

-- the parts weren't all written
pub parts_stopped : (o : Output) (g g' : Option (List ℕ)) (f f' : ℕ) (s : Status) → WritesTexts o.parts 0 g g' f f' (Err s) → Writes o g g' f f' s
parts_stopped o g g' f f' (status.WriteFault written) w =
    let n = length-append (joined o.parts) o.last in
    let within = w.2 in
    let first = w.3 in
    let place : written ≡ w.1 = omega arith in
    let t : take written (whole o) ≡ take w.1 (joined o.parts) = ap (λ k. take k (whole o)) place ∙ take-append-le w.1 (joined o.parts) o.last w.2 in
    (w.0, rw (n, place) (omega arith), rw t w.4)
parts_stopped o g g' f f' status.Memory w = (w.0, w.2)
parts_stopped o g g' f f' status.Done w = absurd w
parts_stopped o g g' f f' (status.Refused line why) w = absurd w
parts_stopped o g g' f f' status.Usage w = absurd w
parts_stopped o g g' f f' status.ReadFault w = absurd w

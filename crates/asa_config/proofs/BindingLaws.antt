-- What becomes of the bindings where one takes the place of another or goes.
use Rattle.std.proofs.Math.Bool.{beq}
use Rattle.std.proofs.Common.{◌≡◌, ℕ, ◌+◌, ◌*◌, ◌<◌, ◌≤◌, ◌==◌, Bool, true, false, nat_lt, if◌then◌else◌, List, [], ◌∷◌, ◌++◌, length, take, drop, get_or, Option, is_some, Result, Ok, Err, OnOk, OnErr, refl, sym, ap, subst, ◌∙◌, suc, arith}
use Rattle.std.proofs.Math.ListN.{set}
use Rattle.std.proofs.Math.Seq.{drop-cons, drop-length}
use Rattle.std.proofs.lemmas.List.{set_split}
use Rattle.std.proofs.lemmas.Bool.{lt-ltb, ltb-true, ltb-false, eqb-true, eq-eqb, and_parts, and_from}
use Rattle.std.specs.List.{list_all, insert, remove}
use Rattle.asa_ifaces.specs.Interfaces.{Interfaces}
use Rattle.asa_objects_values.specs.Tables.{Table}
use Rattle.asa_acl.specs.Acls.{AccessLines}
use Rattle.asa_config.specs.Settings.{same_side, side_place, is_side_before, list_among}
use Rattle.asa_config.specs.Groups.{with_side, without_side}
use Rattle.asa_config.specs.Soundness.{IsKept, is_global_defined, sides_rise}
use Rattle.asa_config.proofs.KeptLaws.{list_all-weaker}

abbrev Bound : Type 0
Bound = List ((ℕ × Bool) × List ℕ)

-- the first binding of the side is the one that is replaced
pub with_side_at : (bs : Bound) (i : ℕ) (side : ℕ × Bool) (name : List ℕ) (d : (ℕ × Bool) × List ℕ) → take i bs ++ with_side (drop i bs) side name ≡ with_side bs side name
    → i < length bs → same_side side (get_or bs i d).0 ≡ true → with_side bs side name ≡ set bs i (side, name)
with_side_at bs i side name d joined lt same =
    sym joined ∙ ap (λ x. take i bs ++ with_side x side name) (drop-cons bs i d lt)
    ∙ ap (λ (b : Bool). take i bs ++ (if b then (side, name) ∷ drop (suc i) bs else later)) same
    ∙ sym (set_split bs i (side, name) lt)
  where
    later : Bound
    later =
        if is_side_before side (get_or bs i d).0 then (side, name) ∷ get_or bs i d ∷ drop (suc i) bs
        else get_or bs i d ∷ with_side (drop (suc i) bs) side name

-- another goes before the first later side
pub with_side_before : (bs : Bound) (i : ℕ) (side : ℕ × Bool) (name : List ℕ) (d : (ℕ × Bool) × List ℕ) → take i bs ++ with_side (drop i bs) side name ≡ with_side bs side name
    → i < length bs → same_side side (get_or bs i d).0 ≡ false → is_side_before side (get_or bs i d).0 ≡ true → with_side bs side name ≡ insert bs i (side, name)
with_side_before bs i side name d joined lt apart before =
    sym joined ∙ ap (λ x. take i bs ++ with_side x side name) (drop-cons bs i d lt)
    ∙ ap (λ (b : Bool). take i bs ++ (if b then (side, name) ∷ drop (suc i) bs else at (is_side_before side (get_or bs i d).0))) apart
    ∙ ap (λ b. take i bs ++ at b) before
    ∙ ap (λ x. take i bs ++ (side, name) ∷ x) (sym (drop-cons bs i d lt))
  where
    at : Bool → Bound
    at b = if b then (side, name) ∷ get_or bs i d ∷ drop (suc i) bs else get_or bs i d ∷ with_side (drop (suc i) bs) side name

-- or last
pub with_side_last : (bs : Bound) (side : ℕ × Bool) (name : List ℕ) → take (length bs) bs ++ with_side (drop (length bs) bs) side name ≡ with_side bs side name → with_side bs side name ≡ insert bs (length bs) (side, name)
with_side_last bs side name joined =
    sym joined ∙ ap (λ x. take (length bs) bs ++ with_side x side name) (drop-length bs) ∙ ap (λ x. take (length bs) bs ++ (side, name) ∷ x) (sym (drop-length bs))

-- and the one that goes
pub without_side_at : (bs : Bound) (i : ℕ) (side : ℕ × Bool) (d : (ℕ × Bool) × List ℕ) → take i bs ++ without_side (drop i bs) side ≡ without_side bs side
    → i < length bs → same_side side (get_or bs i d).0 ≡ true → without_side bs side ≡ remove bs i
without_side_at bs i side d joined lt same =
    sym joined ∙ ap (λ x. take i bs ++ without_side x side) (drop-cons bs i d lt)
    ∙ ap (λ (b : Bool). take i bs ++ (if b then drop (suc i) bs else get_or bs i d ∷ without_side (drop (suc i) bs) side)) same

list_all-with_side : (p : (ℕ × Bool) × List ℕ → Bool) (bs : Bound) (side : ℕ × Bool) (name : List ℕ) → list_all p bs ≡ true → p (side, name) ≡ true → list_all p (with_side bs side name) ≡ true
list_all-with_side p [] side name all one = and_from (p (side, name)) true one refl
list_all-with_side p (b ∷ bs) side name all one =
    let parts = and_parts (p b) (list_all p bs) all in
    by (same_side side b.0) (is_side_before side b.0) parts.0 parts.1 (list_all-with_side p bs side name parts.1 one)
  where
    by : (t u : Bool) → p b ≡ true → list_all p bs ≡ true → list_all p (with_side bs side name) ≡ true
        → list_all p (if t then (side, name) ∷ bs else (if u then (side, name) ∷ b ∷ bs else b ∷ with_side bs side name)) ≡ true
    by true u first rest more = and_from (p (side, name)) (list_all p bs) one rest
    by false true first rest more = and_from (p (side, name)) (list_all p (b ∷ bs)) one (and_from (p b) (list_all p bs) first rest)
    by false false first rest more = and_from (p b) (list_all p (with_side bs side name)) first more

list_all-without_side : (p : (ℕ × Bool) × List ℕ → Bool) (bs : Bound) (side : ℕ × Bool) → list_all p bs ≡ true → list_all p (without_side bs side) ≡ true
list_all-without_side p [] side all = refl
list_all-without_side p (b ∷ bs) side all =
    let parts = and_parts (p b) (list_all p bs) all in
    by (same_side side b.0) parts.0 parts.1 (list_all-without_side p bs side parts.1)
  where
    by : (t : Bool) → p b ≡ true → list_all p bs ≡ true → list_all p (without_side bs side) ≡ true
        → list_all p (if t then bs else b ∷ without_side bs side) ≡ true
    by true first rest more = rest
    by false first rest more = and_from (p b) (list_all p (without_side bs side)) first more

-- the same side stands at the same place, and of two others one stands before the other
same_place : (a b : ℕ × Bool) → same_side a b ≡ true → side_place a ≡ side_place b
same_place a b same =
    let parts = and_parts (a.0 == b.0) (beq a.1 b.1) same in
    ap (λ i. 2 * i + (if a.1 then 0 else 1)) (eqb-true a.0 b.0 parts.0) ∙ by a.1 b.1 parts.1
  where
    by : (x y : Bool) → beq x y ≡ true → 2 * b.0 + (if x then 0 else 1) ≡ 2 * b.0 + (if y then 0 else 1)
    by true true h = refl
    by false false h = refl
    by true false h = absurd (cc)
    by false true h = absurd (cc)

place_same : (a b : ℕ × Bool) → side_place a ≡ side_place b → same_side a b ≡ true
place_same (i, true) (j, true) h = and_from (i == j) true (eq-eqb i j (omega (arith, h))) refl
place_same (i, false) (j, false) h = and_from (i == j) true (eq-eqb i j (omega (arith, h))) refl
place_same (i, true) (j, false) h = absurd (omega (arith, h))
place_same (i, false) (j, true) h = absurd (omega (arith, h))

other_place : (a b : ℕ × Bool) → same_side a b ≡ false → is_side_before a b ≡ false → is_side_before b a ≡ true
other_place a b apart not_before = by (is_side_before b a) refl
  where
    by : (t : Bool) → is_side_before b a ≡ t → is_side_before b a ≡ true
    by true h = h
    by false h =
        let same : same_side a b ≡ true = place_same a b (omega (arith, ltb-false (side_place a) (side_place b) not_before, ltb-false (side_place b) (side_place a) h)) in
        absurd (cc)

-- what stands after a side stands after those before it
after_all : (a b : ℕ × Bool) (bs : Bound) → side_place a ≤ side_place b → list_all (λ c. is_side_before b c.0) bs ≡ true → list_all (λ c. is_side_before a c.0) bs ≡ true
after_all a b bs before all =
    list_all-weaker (λ c. is_side_before b c.0) (λ c. is_side_before a c.0)
    (λ c h. lt-ltb (side_place a) (side_place c.0) (omega (arith, before, ltb-true (side_place b) (side_place c.0) h))) bs all

rise_with_side : (bs : Bound) (side : ℕ × Bool) (name : List ℕ) → sides_rise bs ≡ true → sides_rise (with_side bs side name) ≡ true
rise_with_side [] side name rise = refl
rise_with_side (b ∷ bs) side name rise =
    let parts = and_parts (list_all (λ c. is_side_before b.0 c.0) bs) (sides_rise bs) rise in
    by (same_side side b.0) refl (is_side_before side b.0) refl parts.0 parts.1 (rise_with_side bs side name parts.1)
  where
    by : (t : Bool) → same_side side b.0 ≡ t → (u : Bool) → is_side_before side b.0 ≡ u → list_all (λ c. is_side_before b.0 c.0) bs ≡ true → sides_rise bs ≡ true → sides_rise (with_side bs side name) ≡ true
        → sides_rise (if t then (side, name) ∷ bs else (if u then (side, name) ∷ b ∷ bs else b ∷ with_side bs side name)) ≡ true
    by true same u before first rest more =
        and_from (list_all (λ c. is_side_before side c.0) bs) (sides_rise bs) (after_all side b.0 bs (omega (arith, same_place side b.0 same)) first) rest
    by false apart true before first rest more =
        and_from (list_all (λ c. is_side_before side c.0) (b ∷ bs)) (sides_rise (b ∷ bs))
        (and_from (is_side_before side b.0) (list_all (λ c. is_side_before side c.0) bs) before
        (after_all side b.0 bs (omega (arith, ltb-true (side_place side) (side_place b.0) before)) first))
        (and_from (list_all (λ c. is_side_before b.0 c.0) bs) (sides_rise bs) first rest)
    by false apart false before first rest more =
        and_from (list_all (λ c. is_side_before b.0 c.0) (with_side bs side name)) (sides_rise (with_side bs side name))
        (list_all-with_side (λ c. is_side_before b.0 c.0) bs side name first (other_place side b.0 apart before)) more

rise_without_side : (bs : Bound) (side : ℕ × Bool) → sides_rise bs ≡ true → sides_rise (without_side bs side) ≡ true
rise_without_side [] side rise = refl
rise_without_side (b ∷ bs) side rise =
    let parts = and_parts (list_all (λ c. is_side_before b.0 c.0) bs) (sides_rise bs) rise in
    by (same_side side b.0) parts.0 parts.1 (rise_without_side bs side parts.1)
  where
    by : (t : Bool) → list_all (λ c. is_side_before b.0 c.0) bs ≡ true → sides_rise bs ≡ true → sides_rise (without_side bs side) ≡ true
        → sides_rise (if t then bs else b ∷ without_side bs side) ≡ true
    by true first rest more = rest
    by false first rest more =
        and_from (list_all (λ c. is_side_before b.0 c.0) (without_side bs side)) (sides_rise (without_side bs side))
        (list_all-without_side (λ c. is_side_before b.0 c.0) bs side first) more

-- a further binding
pub kept_bound : {E : Type 0} (r : Result (Unit {0}) E) (objects : Table) (net : Interfaces) (lists : List AccessLines) (pairs : ℕ) (bs new : Bound) (global : Option (List ℕ)) (side : ℕ × Bool) (name : List ℕ)
    → IsKept objects net lists pairs bs global → side.0 < length net.ifaces → is_some (list_among lists name) ≡ true → OnOk r (new ≡ with_side bs side name) → OnErr r (new ≡ bs) → IsKept objects net lists pairs new global
kept_bound (Ok x) objects net lists pairs bs new global side name kept within there ok err = subst (λ b. IsKept objects net lists pairs b global) (sym ok) (record {
  counted = kept.counted;
  few = kept.few;
  within = list_all-with_side (λ b. nat_lt b.0.0 (length net.ifaces)) bs side name kept.within (lt-ltb side.0 (length net.ifaces) within);
  defined = list_all-with_side (λ b. is_some (list_among lists b.1)) bs side name kept.defined there;
  rising = rise_with_side bs side name kept.rising;
  global_defined = kept.global_defined;
})
kept_bound (Err e) objects net lists pairs bs new global side name kept within there ok err = subst (λ b. IsKept objects net lists pairs b global) (sym err) kept

pub kept_unbound : (objects : Table) (net : Interfaces) (lists : List AccessLines) (pairs : ℕ) (bs new : Bound) (global : Option (List ℕ)) (side : ℕ × Bool) → IsKept objects net lists pairs bs global
    → new ≡ without_side bs side → IsKept objects net lists pairs new global
kept_unbound objects net lists pairs bs new global side kept made = subst (λ b. IsKept objects net lists pairs b global) (sym made) (record {
  counted = kept.counted;
  few = kept.few;
  within = list_all-without_side (λ b. nat_lt b.0.0 (length net.ifaces)) bs side kept.within;
  defined = list_all-without_side (λ b. is_some (list_among lists b.1)) bs side kept.defined;
  rising = rise_without_side bs side kept.rising;
  global_defined = kept.global_defined;
})

pub kept_global : (objects : Table) (net : Interfaces) (lists : List AccessLines) (pairs : ℕ) (bs : Bound) (old new : Option (List ℕ)) → IsKept objects net lists pairs bs old → is_global_defined lists new ≡ true
    → IsKept objects net lists pairs bs new
kept_global objects net lists pairs bs old new kept there =
    record { counted = kept.counted; few = kept.few; within = kept.within; defined = kept.defined; rising = kept.rising; global_defined = there }

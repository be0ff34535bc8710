-- What is found in the gathered lists, which are those that are bound somewhere, is what is found in all lists of the configuration.
use Rattle.std.proofs.Common.{◌≡◌, ℕ, zero, suc, ◌+◌, Bool, true, false, cond, nat_lt, List, [], ◌∷◌, map, filter, if◌then◌else◌, slice_get, slice_index, Option, Some, None, option_and_then, unwrap_or, refl, ap, ◌∙◌, arith}
use Rattle.std.specs.List.{find, position, position_from}
use Rattle.std.specs.Map.{lookup}
use Rattle.std.specs.Option.{option_map}
use Rattle.std.specs.Str.{bytes_eq}
use Rattle.std.proofs.lemmas.Bool.{or_left, or_right}
use Rattle.std.proofs.lemmas.Iterator.Adapters.{position_from-zero}
use Rattle.asa_base.specs.declared.flow.Packet.{Packet}
use Rattle.asa_ifaces.specs.declared.iface.Iface.{Iface}
use Rattle.asa_acl.specs.Acls.{AccessLines}
use Rattle.asa_access.specs.declared.list.AccessList.{AccessList}
use Rattle.asa_access.specs.Rules.{inbound_by, outbound_by}
use Rattle.asa_access.specs.Lists as access
use Rattle.asa_config.specs.Settings.{Settings, has_name, list_bound, list_on, global_list, bound_to, same_side}
use Rattle.asa_policy.specs.AccessLists.{bound_among, is_bound, is_bound_at, is_on_side, is_this}
use Rattle.asa_policy.specs.Access.{level_among, level_at, levels_of, match_in, covering_under, inbound, outbound, inbound_covering, outbound_covering}

-- the first place that passes, among values that stand from a place on
from_place : {X : Type 0} (q : X → Bool) (zs : List X) (n : ℕ) (xs : List X) → ((k : ℕ) → slice_get zs (n + k) ≡ slice_get xs k)
    → option_and_then (slice_get zs) (position_from q n xs) ≡ find q xs
from_place q zs n [] same = refl
from_place {X} q zs n (x ∷ xs) same = by (q x) (from_place q zs (n + 1) xs later)
  where
    here : slice_get zs n ≡ Some x
    here = let k : n ≡ n + 0 = omega arith in ap (slice_get zs) k ∙ same 0

    later : (k : ℕ) → slice_get zs (n + 1 + k) ≡ slice_get xs k
    later k = let e : n + 1 + k ≡ n + suc k = omega arith in ap (slice_get zs) e ∙ same (suc k)

    by : (h : Bool) → option_and_then (slice_get zs) (position_from q (n + 1) xs) ≡ find q xs
        → option_and_then (slice_get zs) (if h then Some n else position_from q (n + 1) xs) ≡ (if h then Some x else find q xs)
    by true rest = here
    by false rest = rest

-- the value at the first place that passes is the first that passes
at_position : {X : Type 0} (q : X → Bool) (xs : List X) → option_and_then (slice_get xs) (position q xs) ≡ find q xs
at_position q xs =
    ap (option_and_then (slice_get xs)) (position_from-zero q xs)
    ∙ from_place q xs 0 xs (λ k. let e : 0 + k ≡ k = omega arith in ap (slice_get xs) e)

cons_head : {X : Type 0} (a b : X) (xs ys : List X) → a ∷ xs ≡ b ∷ ys → a ≡ b
cons_head a b xs ys e = cc

cons_tail : {X : Type 0} (a b : X) (xs ys : List X) → a ∷ xs ≡ b ∷ ys → xs ≡ ys
cons_tail a b xs ys e = cc

-- two lists that pass the same test at each place, and give the same there
same_found : {X Y Z : Type 0} (q : X → Bool) (r : Y → Bool) (f : X → Z) (g : Y → Z) (xs : List X) (ys : List Y)
    → map q xs ≡ map r ys → map f xs ≡ map g ys → option_map f (find q xs) ≡ option_map g (find r ys)
same_found q r f g [] [] tests gives = refl
same_found q r f g [] (y ∷ ys) tests gives = absurd (cc)
same_found q r f g (x ∷ xs) [] tests gives = absurd (cc)
same_found {X} {Y} {Z} q r f g (x ∷ xs) (y ∷ ys) tests gives =
    by (q x) (r y) (cons_head (q x) (r y) _ _ tests) (cons_head (f x) (g y) _ _ gives) (same_found q r f g xs ys (cons_tail (q x) (r y) _ _ tests) (cons_tail (f x) (g y) _ _ gives))
  where
    by : (a b : Bool) → a ≡ b → f x ≡ g y → option_map f (find q xs) ≡ option_map g (find r ys)
        → option_map f (if a then Some x else find q xs) ≡ option_map g (if b then Some y else find r ys)
    by true true e value rest = ap Some value
    by true false e value rest = absurd (cc)
    by false true e value rest = absurd (cc)
    by false false e value rest = rest

-- lists with their entries that stand for the bound lists of a configuration
pub record AreGathered (c : Settings) (lists : List AccessList) : Type 0 where
  pub first : (p : Packet) → map (access.match_of p) lists ≡ map (match_in c p) (bound_among c c.lists)
  pub sides : (side : ℕ × Bool) → map (access.has_side side) lists ≡ map (λ l. is_bound_at c.bound l.name side) (bound_among c c.lists)
  pub named : (name : List ℕ) → map (λ (l : AccessList). bytes_eq name l.name) lists ≡ map (has_name name) (bound_among c c.lists)
  pub covering : (p : Packet) → map (access.covering_in p) lists ≡ map (covering_under c p) (bound_among c c.lists)

-- the first that passes a test is among those that pass another, where what passes the one passes the other
kept_found : {X : Type 0} (q r : X → Bool) → ((x : X) → q x ≡ true → r x ≡ true) → (xs : List X) → find q (filter r xs) ≡ find q xs
kept_found q r keeps [] = refl
kept_found {X} q r keeps (x ∷ xs) = by (r x) (keeps x) (kept_found q r keeps xs)
  where
    passed : (a : Bool) → (a ≡ true → false ≡ true) → find q (filter r xs) ≡ find q xs → find q (filter r xs) ≡ (if a then Some x else find q xs)
    passed true never rest = let no : false ≡ true = never refl in absurd (cc)
    passed false never rest = rest

    by : (kept : Bool) → (q x ≡ true → kept ≡ true) → find q (filter r xs) ≡ find q xs → find q (cond kept (x ∷ filter r xs) (filter r xs)) ≡ find q (x ∷ xs)
    by true keep rest = ap (λ o. if q x then Some x else o) rest
    by false keep rest = passed (q x) keep rest

-- a list whose name stands at the first binding of a side is bound to some side
on_side : (bound : List ((ℕ × Bool) × List ℕ)) (name : List ℕ) (side : ℕ × Bool) → is_bound_at bound name side ≡ true → is_on_side bound name ≡ true
on_side [] name side here = absurd (cc)
on_side (b ∷ bs) name side here = by (same_side side b.0) (on_side bs name side) here
  where
    by : (same : Bool) → (is_bound_at bs name side ≡ true → is_on_side bs name ≡ true) → is_this (if same then Some b.1 else lookup (same_side side) bs) name ≡ true → is_on_side (b ∷ bs) name ≡ true
    by true rest named = or_left (bytes_eq b.1 name) (is_on_side bs name) named
    by false rest later = or_right (bytes_eq b.1 name) (is_on_side bs name) (rest later)

-- no list passes a test that fails always
none_found : {X : Type 0} (xs : List X) → find (λ _. false) xs ≡ None
none_found [] = refl
none_found (x ∷ xs) = none_found xs

-- the list that is bound to a side
bound_list : (c : Settings) (side : ℕ × Bool) → find (λ (l : AccessLines). is_bound_at c.bound l.name side) c.lists ≡ list_bound c (bound_to c.bound side)
bound_list c side = by (bound_to c.bound side)
  where
    by : (name : Option (List ℕ)) → find (λ (l : AccessLines). is_this name l.name) c.lists ≡ list_bound c name
    by None = none_found c.lists
    by (Some name) = refl

own_list : {Z : Type 0} (c : Settings) (lists : List AccessList) (f : AccessList → Z) (g : AccessLines → Z) (ifc : ℕ) (way : Bool) → AreGathered c lists → map f lists ≡ map g (bound_among c c.lists)
    → option_map f (access.list_at lists (ifc, way)) ≡ option_map g (list_on c ifc way)
own_list c lists f g ifc way are same =
    ap (option_map f) (at_position (access.has_side (ifc, way)) lists)
    ∙ same_found (access.has_side (ifc, way)) (λ (l : AccessLines). is_bound_at c.bound l.name (ifc, way)) f g lists (bound_among c c.lists) (are.sides (ifc, way)) same
    ∙ ap (option_map g) (kept_found (λ (l : AccessLines). is_bound_at c.bound l.name (ifc, way)) (is_bound c) (λ l here. or_left (is_on_side c.bound l.name) (is_this c.global l.name) (on_side c.bound l.name (ifc, way) here)) c.lists ∙ bound_list c (ifc, way))

-- the place of the global list
abbrev pub IsGlobal : Settings → List AccessList → Option ℕ → Type 0
IsGlobal c lists place = place ≡ option_and_then (λ (name : List ℕ). position (λ (l : AccessList). bytes_eq name l.name) lists) c.global

all_inputs : {Z : Type 0} (c : Settings) (lists : List AccessList) (f : AccessList → Z) (g : AccessLines → Z) (place : Option ℕ) → AreGathered c lists → map f lists ≡ map g (bound_among c c.lists) → IsGlobal c lists place
    → option_map f (access.global_of lists place) ≡ option_map g (global_list c)
all_inputs c lists f g place are same is = ap (λ o. option_map f (option_and_then (slice_get lists) o)) is ∙ by c.global refl
  where
    by : (global : Option (List ℕ)) → c.global ≡ global
        → option_map f (option_and_then (slice_get lists) (option_and_then (λ (name : List ℕ). position (λ (l : AccessList). bytes_eq name l.name) lists) global))
        ≡ option_map g (list_bound c global)
    by None told = refl
    by (Some name) told =
        ap (option_map f) (at_position (λ (l : AccessList). bytes_eq name l.name) lists)
        ∙ same_found (λ (l : AccessList). bytes_eq name l.name) (has_name name) f g lists (bound_among c c.lists) (are.named name) same
        ∙ ap (option_map g) (kept_found (has_name name) (is_bound c) (λ l here. or_right (is_on_side c.bound l.name) (is_this c.global l.name) (ap (λ o. is_this o l.name) told ∙ here)) c.lists)

-- the level at a place
level_is : (ifaces : List Iface) (ifc : ℕ) → slice_index (levels_of ifaces) ifc ≡ level_among (slice_get ifaces ifc)
level_is [] ifc = refl
level_is (i ∷ is) zero = refl
level_is (i ∷ is) (suc n) = level_is is n

pub inward_is : (c : Settings) (lists : List AccessList) (p : Packet) (egress : ℕ) (place : Option ℕ) → AreGathered c lists → IsGlobal c lists place
    → access.inbound lists place (levels_of c.net.ifaces) p egress ≡ inbound c p egress
unfolding access.inbound inbound level_at
inward_is c lists p egress place are is =
    let own = own_list c lists (access.match_of p) (match_in c p) p.ifc true are (are.first p) in
    let all = all_inputs c lists (access.match_of p) (match_in c p) place are (are.first p) is in
    let levels : access.rises (levels_of c.net.ifaces) p.ifc egress ≡ nat_lt (level_among (slice_get c.net.ifaces p.ifc)) (level_among (slice_get c.net.ifaces egress)) =
    ap (λ n. nat_lt n (slice_index (levels_of c.net.ifaces) egress)) (level_is c.net.ifaces p.ifc) ∙ ap (nat_lt (level_among (slice_get c.net.ifaces p.ifc))) (level_is c.net.ifaces egress) in
    ap (λ m. inbound_by m (option_map (access.match_of p) (access.global_of lists place)) (access.rises (levels_of c.net.ifaces) p.ifc egress)) own
    ∙ ap (λ m. inbound_by (option_map (match_in c p) (list_on c p.ifc true)) m (access.rises (levels_of c.net.ifaces) p.ifc egress)) all
    ∙ ap (inbound_by (option_map (match_in c p) (list_on c p.ifc true)) (option_map (match_in c p) (global_list c))) levels

pub outward_is : (c : Settings) (lists : List AccessList) (p : Packet) (egress : ℕ) → AreGathered c lists → access.outbound lists p egress ≡ outbound c p egress
unfolding access.outbound outbound
outward_is c lists p egress are = ap outbound_by (own_list c lists (access.match_of p) (match_in c p) egress false are (are.first p))

pub inward_covers : (c : Settings) (lists : List AccessList) (p : Packet) (place : Option ℕ) → AreGathered c lists → IsGlobal c lists place
    → access.inbound_covering lists place p ≡ inbound_covering c p
unfolding access.inbound_covering inbound_covering
inward_covers c lists p place are is =
    let own = ap (λ o. unwrap_or o 0) (own_list c lists (access.covering_in p) (covering_under c p) p.ifc true are (are.covering p)) in
    let all = ap (λ o. unwrap_or o 0) (all_inputs c lists (access.covering_in p) (covering_under c p) place are (are.covering p) is) in
    omega (arith, own, all)

pub outward_covers : (c : Settings) (lists : List AccessList) (p : Packet) (egress : ℕ) → AreGathered c lists → access.outbound_covering lists p egress ≡ outbound_covering c p egress
unfolding access.outbound_covering outbound_covering
outward_covers c lists p egress are = ap (λ o. unwrap_or o 0) (own_list c lists (access.covering_in p) (covering_under c p) egress false are (are.covering p))

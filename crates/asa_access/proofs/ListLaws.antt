-- Compiled lists say what the lists say that they were compiled from.
use Rattle.std.proofs.Common.{◌≡◌, ℕ, zero, suc, ◌+◌, ◌<◌, Bool, true, false, List, [], ◌∷◌, ◌++◌, map, length, slice_get, Option, Some, None, option_and_then, unwrap_or, refl, sym, ap, ◌∙◌, arith}
use Rattle.std.specs.List.{position}
use Rattle.std.specs.Option.{option_map}
use Rattle.std.proofs.lemmas.Option.{slice_get-map}
use Rattle.asa_base.specs.declared.flow.Packet.{Packet}
use Rattle.asa_access.specs.declared.list.AccessList.{AccessList}
use Rattle.asa_access.specs.Rules.{inbound_by, outbound_by}
use Rattle.asa_access.specs.Lists.{has_side, match_of, covering_in, rises, inbound, outbound, inbound_covering, outbound_covering}
use Rattle.asa_access.specs.Compiled.{CompiledLists, IsTable, place_in, match_in, covering_among, inbound_in, outbound_in, covering_inbound, covering_outbound}

-- what is found at a place of one list is what is found there in the other
same_at : {A B C : Type 0} (f : A → C) (g : B → C) (xs : List A) (ys : List B) → map f xs ≡ map g ys → (o : Option ℕ)
    → option_map f (option_and_then (slice_get xs) o) ≡ option_map g (option_and_then (slice_get ys) o)
same_at f g xs ys e None = refl
same_at f g xs ys e (Some k) = sym (slice_get-map f xs k) ∙ ap (λ zs. slice_get zs k) e ∙ slice_get-map g ys k

-- the table has the place of each interface's list
place_is : (lists : List AccessList) (way : Bool) (places : List (Option ℕ)) (ifc : ℕ) → IsTable lists way places → ifc < 256 → place_in places ifc ≡ position (has_side (ifc, way)) lists
place_is lists way places ifc table below = ap (option_and_then (λ place. place)) (table ifc below)

-- a value that was there before one more is pushed
pub push_before : {X : Type 0} (xs : List X) (x : X) (i : ℕ) → i < length xs → slice_get (xs ++ x ∷ []) i ≡ slice_get xs i
push_before [] x i below = absurd (omega (arith, below))
push_before (y ∷ ys) x zero below = refl
push_before (y ∷ ys) x (suc i) below = push_before ys x i (omega (arith, below))

-- the value that is pushed
pub push_here : {X : Type 0} (xs : List X) (x : X) → slice_get (xs ++ x ∷ []) (length xs) ≡ Some x
push_here [] x = refl
push_here (y ∷ ys) x = push_here ys x

-- compiled lists with their tables
pub record IsOf (lists : List AccessList) (c : CompiledLists) : Type 0 where
  pub first : (p : Packet) → map (match_in p) c.lists ≡ map (match_of p) lists
  pub covering : (p : Packet) → map (covering_among p) c.lists ≡ map (covering_in p) lists
  pub inputs : IsTable lists true c.inputs
  pub egresses : IsTable lists false c.egresses

pub inbound_is : (lists : List AccessList) (c : CompiledLists) (p : Packet) (egress : ℕ) → IsOf lists c → p.ifc < 256
    → inbound_in c p egress ≡ inbound lists c.global c.levels p egress
unfolding inbound_in inbound
inbound_is lists c p egress is below =
    let place = place_is lists true c.inputs p.ifc is.inputs below in
    let own = ap (λ o. option_map (match_in p) (option_and_then (slice_get c.lists) o)) place
    ∙ same_at (match_in p) (match_of p) c.lists lists (is.first p) (position (has_side (p.ifc, true)) lists) in
    let all = same_at (match_in p) (match_of p) c.lists lists (is.first p) c.global in
    ap (λ m. inbound_by m (option_map (match_in p) (option_and_then (slice_get c.lists) c.global)) (rises c.levels p.ifc egress)) own
    ∙ ap (λ m. inbound_by (option_map (match_of p) (option_and_then (slice_get lists) (position (has_side (p.ifc, true)) lists))) m (rises c.levels p.ifc egress)) all

pub outbound_is : (lists : List AccessList) (c : CompiledLists) (p : Packet) (egress : ℕ) → IsOf lists c → egress < 256
    → outbound_in c p egress ≡ outbound lists p egress
unfolding outbound_in outbound
outbound_is lists c p egress is below =
    let place = place_is lists false c.egresses egress is.egresses below in
    ap outbound_by (ap (λ o. option_map (match_in p) (option_and_then (slice_get c.lists) o)) place
    ∙ same_at (match_in p) (match_of p) c.lists lists (is.first p) (position (has_side (egress, false)) lists))

pub inbound_reads : (lists : List AccessList) (c : CompiledLists) (p : Packet) → IsOf lists c → p.ifc < 256 → covering_inbound c p ≡ inbound_covering lists c.global p
unfolding covering_inbound inbound_covering
inbound_reads lists c p is below =
    let place = place_is lists true c.inputs p.ifc is.inputs below in
    let own = ap (λ o. unwrap_or (option_map (covering_among p) (option_and_then (slice_get c.lists) o)) 0) place
    ∙ ap (λ o. unwrap_or o 0) (same_at (covering_among p) (covering_in p) c.lists lists (is.covering p) (position (has_side (p.ifc, true)) lists)) in
    let all = ap (λ o. unwrap_or o 0) (same_at (covering_among p) (covering_in p) c.lists lists (is.covering p) c.global) in
    ap (λ n. n + unwrap_or (option_map (covering_among p) (option_and_then (slice_get c.lists) c.global)) 0) own
    ∙ ap (λ n. unwrap_or (option_map (covering_in p) (option_and_then (slice_get lists) (position (has_side (p.ifc, true)) lists))) 0 + n) all

pub outbound_reads : (lists : List AccessList) (c : CompiledLists) (p : Packet) (egress : ℕ) → IsOf lists c → egress < 256 → covering_outbound c p egress ≡ outbound_covering lists p egress
unfolding covering_outbound outbound_covering
outbound_reads lists c p egress is below =
    let place = place_is lists false c.egresses egress is.egresses below in
    ap (λ o. unwrap_or (option_map (covering_among p) (option_and_then (slice_get c.lists) o)) 0) place
    ∙ ap (λ o. unwrap_or o 0) (same_at (covering_among p) (covering_in p) c.lists lists (is.covering p) (position (has_side (egress, false)) lists))

-- A change keeps what holds of all that can be configured.
use Rattle.std.proofs.Common.{◌≡◌, ℕ, ◌+◌, ◌<◌, ◌≤◌, Bool, true, false, not, nat_lt, if◌then◌else◌, List, [], ◌∷◌, ◌++◌, length, All, Result, Ok, Err, refl, sym, subst, arith, length-append}
use Rattle.std.specs.List.{list_all, filter}
use Rattle.std.proofs.lemmas.Bool.{and_parts, and_from, ltb-true, lt-ltb, ltb-false}
use Rattle.std.proofs.lemmas.List.Sums.{AllPass-from_list_all}
use Rattle.asa_ifaces.specs.declared.iface.Iface.{Iface}
use Rattle.asa_ifaces.specs.declared.iface.RouteLine.{RouteLine}
use Rattle.asa_ifaces.specs.declared.iface.IfaceFault.{IfaceFault}
use Rattle.asa_ifaces.specs.declared.iface.IfaceFault.TheVariants as fault
use Rattle.asa_ifaces.specs.Answers.{Makes, Changes}
use Rattle.asa_ifaces.specs.Interfaces.{Interfaces, IsSound, all_leave, has_mask, all_have_masks}
use Rattle.asa_ifaces.specs.Blocks.{with_interface}
use Rattle.asa_ifaces.specs.Routes.{with_route, without_route, has_route, same_route, routes_with, routes_without, with_routes}

-- a weaker test passes too
list_all-weaker : {X : Type 0} (p q : X → Bool) → ((x : X) → p x ≡ true → q x ≡ true) → (xs : List X) → list_all p xs ≡ true → list_all q xs ≡ true
list_all-weaker p q weaker [] h = refl
list_all-weaker p q weaker (x ∷ xs) h =
    let parts = and_parts (p x) (list_all p xs) h in
    and_from (q x) (list_all q xs) (weaker x parts.0) (list_all-weaker p q weaker xs parts.1)

below_more : (n a : ℕ) → nat_lt a n ≡ true → nat_lt a (n + 1) ≡ true
below_more n a h = lt-ltb a (n + 1) (omega (arith, ltb-true a n h))

one_more : {X : Type 0} (xs : List X) (x : X) → length (xs ++ x ∷ []) ≡ length xs + 1
one_more xs x = length-append xs (x ∷ [])

list_all-push : {X : Type 0} (p : X → Bool) (xs : List X) (x : X) → list_all p xs ≡ true → p x ≡ true → list_all p (xs ++ x ∷ []) ≡ true
list_all-push p [] x all one = and_from (p x) true one refl
list_all-push p (y ∷ ys) x all one =
    let parts = and_parts (p y) (list_all p ys) all in
    and_from (p y) (list_all p (ys ++ x ∷ [])) parts.0 (list_all-push p ys x parts.1 one)

-- a further interface
pub sound_interface : (i : Interfaces) (iface : Iface) → IsSound i → length i.ifaces < 64 → has_mask iface.addr ≡ true → IsSound (with_interface i iface)
sound_interface i iface sound room mask =
    let n = length i.ifaces in
    record {
      few_ifaces = omega (arith, one_more i.ifaces iface);
      few_routes = sound.few_routes;
      masks = list_all-push (λ (x : Iface). has_mask x.addr) i.ifaces iface sound.masks mask;
      leave = subst (λ m. all_leave m i.routes ≡ true) (sym (one_more i.ifaces iface)) (list_all-weaker (λ r. nat_lt r.ifc n) (λ r. nat_lt r.ifc (n + 1)) (λ r h. below_more n r.ifc h) i.routes sound.leave);
    }

-- what holds of each route and of a further one holds where that one takes its place
list_all-with_route : (p : RouteLine → Bool) (qs : List RouteLine) (r : RouteLine) → list_all p qs ≡ true → p r ≡ true → list_all p (with_route qs r) ≡ true
list_all-with_route p [] r all one = and_from (p r) true one refl
list_all-with_route p (q ∷ qs) r all one =
    let parts = and_parts (p q) (list_all p qs) all in
    by (same_route q r) parts.0 parts.1 (list_all-with_route p qs r parts.1 one)
  where
    by : (b : Bool) → p q ≡ true → list_all p qs ≡ true → list_all p (with_route qs r) ≡ true → list_all p (if b then r ∷ qs else q ∷ with_route qs r) ≡ true
    by true first rest more = and_from (p r) (list_all p qs) one rest
    by false first rest more = and_from (p q) (list_all p (with_route qs r)) first more

few_from_step : (qs new : List RouteLine) (r : RouteLine) → routes_with qs r ≡ Ok new → (length new ≤ 4096) × (new ≡ with_route qs r)
unfolding routes_with
few_from_step qs new r e = by (nat_lt 4096 (length (with_route qs r))) (ltb-false 4096 (length (with_route qs r))) e
  where
    by : (b : Bool) → (b ≡ false → length (with_route qs r) ≤ 4096) → (if b then Err fault.TooMany else Ok (with_route qs r)) ≡ Ok new → (length new ≤ 4096) × (new ≡ with_route qs r)
    by true few e = absurd (cc)
    by false few e = let same : new ≡ with_route qs r = cc in (subst (λ rs. length rs ≤ 4096) (sym same) (few refl), same)

sound_routes : (i : Interfaces) (r : RouteLine) (new : List RouteLine) → IsSound i → r.ifc < length i.ifaces → (length new ≤ 4096) × (new ≡ with_route i.routes r)
    → IsSound (with_routes i new)
sound_routes i r new sound leaves step = record {
  few_ifaces = sound.few_ifaces;
  masks = sound.masks;
  few_routes = step.0;
  leave = subst (λ rs. all_leave (length i.ifaces) rs ≡ true) (sym step.1) (list_all-with_route (λ r. nat_lt r.ifc (length i.ifaces)) i.routes r sound.leave (lt-ltb r.ifc (length i.ifaces) leaves));
}

-- a route line
pub sound_route : (result : Result (Unit {0}) IfaceFault) (i : Interfaces) (r : RouteLine) (new : List RouteLine) → IsSound i → r.ifc < length i.ifaces
    → Makes result i.routes new (routes_with i.routes r) → IsSound (with_routes i new)
sound_route (Ok u) i r new sound leaves makes = sound_routes i r new sound leaves (few_from_step i.routes new r makes)
sound_route (Err fault.NoMemory) i r new sound leaves makes = subst (λ rs. IsSound (with_routes i rs)) (sym makes) sound
sound_route (Err (fault.Line n f)) i r new sound leaves makes = subst (λ rs. IsSound (with_routes i rs)) (sym makes.1) sound
sound_route (Err (fault.NameTaken n)) i r new sound leaves makes = subst (λ rs. IsSound (with_routes i rs)) (sym makes.1) sound
sound_route (Err fault.NoSuchLine) i r new sound leaves makes = subst (λ rs. IsSound (with_routes i rs)) (sym makes.1) sound
sound_route (Err fault.TooMany) i r new sound leaves makes = subst (λ rs. IsSound (with_routes i rs)) (sym makes.1) sound

-- what holds of each holds of those that stay, and they are no more
list_all-filter : {X : Type 0} (p keep : X → Bool) (xs : List X) → list_all p xs ≡ true → list_all p (filter keep xs) ≡ true
list_all-filter p keep [] h = refl
list_all-filter p keep (x ∷ xs) h =
    let parts = and_parts (p x) (list_all p xs) h in
    by (keep x) parts.0 (list_all-filter p keep xs parts.1)
  where
    by : (b : Bool) → p x ≡ true → list_all p (filter keep xs) ≡ true → list_all p (if b then x ∷ filter keep xs else filter keep xs) ≡ true
    by true first more = and_from (p x) (list_all p (filter keep xs)) first more
    by false first more = more

length-filter-le : {X : Type 0} (keep : X → Bool) (xs : List X) → length (filter keep xs) ≤ length xs
length-filter-le keep [] = omega arith
length-filter-le keep (x ∷ xs) = by (keep x) (length-filter-le keep xs)
  where
    by : (b : Bool) → length (filter keep xs) ≤ length xs → length (if b then x ∷ filter keep xs else filter keep xs) ≤ length (x ∷ xs)
    by true h = omega (arith, h)
    by false h = omega (arith, h)

dropped_from_step : (qs new : List RouteLine) (r : RouteLine) → routes_without qs r ≡ Ok new → new ≡ without_route qs r
unfolding routes_without
dropped_from_step qs new r e = by (has_route qs r) e
  where
    by : (b : Bool) → (if b then Ok (without_route qs r) else Err fault.NoSuchLine) ≡ Ok new → new ≡ without_route qs r
    by true e = cc
    by false e = absurd (cc)

sound_without : (i : Interfaces) (r : RouteLine) → IsSound i → IsSound (with_routes i (without_route i.routes r))
sound_without i r sound = record {
  few_ifaces = sound.few_ifaces;
  masks = sound.masks;
  few_routes = omega (arith, sound.few_routes, length-filter-le (λ q. not (same_route q r)) i.routes);
  leave = list_all-filter (λ q. nat_lt q.ifc (length i.ifaces)) (λ q. not (same_route q r)) i.routes sound.leave;
}

-- a line that removes a route
pub sound_no_route : (result : Result (Unit {0}) IfaceFault) (i : Interfaces) (r : RouteLine) (new : List RouteLine) → IsSound i
    → Changes result i.routes new (routes_without i.routes r) → IsSound (with_routes i new)
sound_no_route (Ok u) i r new sound changes = subst (λ rs. IsSound (with_routes i rs)) (sym (dropped_from_step i.routes new r changes)) (sound_without i r sound)
sound_no_route (Err f) i r new sound changes = subst (λ rs. IsSound (with_routes i rs)) (sym changes.1) sound

-- each route leaves by an interface that is there
pub routes_leave : (n : ℕ) (rs : List RouteLine) → all_leave n rs ≡ true → All (λ r. r.ifc < n) rs
routes_leave n rs h k d lt = ltb-true _ _ (AllPass-from_list_all (λ r. nat_lt r.ifc n) rs h k d lt)

-- each mask is one
pub masks_are_masks : (ifaces : List Iface) → all_have_masks ifaces ≡ true → All (λ i. has_mask i.addr ≡ true) ifaces
masks_are_masks ifaces h = AllPass-from_list_all (λ (i : Iface). has_mask i.addr) ifaces h

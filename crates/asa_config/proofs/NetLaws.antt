-- What a change of interfaces and routes leaves as it is, and what it answers.
use Rattle.std.proofs.Common.{◌≡◌, ℕ, ◌≤◌, Bool, true, false, nat_lt, if◌then◌else◌, List, [], ◌∷◌, length, Option, Result, Ok, Err, sym, ap, subst, arith, length-append}
use Rattle.std.proofs.lemmas.Bool.{lt-ltb, ltb-true}
use Rattle.asa_text.specs.declared.blocks.Block.{Block}
use Rattle.asa_ifaces.specs.declared.iface.Iface.{Iface}
use Rattle.asa_ifaces.specs.Blocks.{interface_step, interface_added, interface_of_block, with_interface}
use Rattle.asa_ifaces.specs.declared.iface.IfaceFault.{IfaceFault}
use Rattle.asa_ifaces.specs.declared.iface.IfaceFault.TheVariants as fault
use Rattle.asa_ifaces.specs.declared.iface.RouteLine.{RouteLine}
use Rattle.asa_ifaces.specs.Answers.{Makes, Changes, and_then}
use Rattle.asa_ifaces.specs.Interfaces.{Interfaces}
use Rattle.asa_objects_values.specs.Tables.{Table}
use Rattle.asa_ifaces.specs.Routes.{route_added, routes_with, route_removed, routes_without, has_route, without_route, with_routes}
use Rattle.asa_text.specs.declared.readers.LineFault.TheVariants as word
use Rattle.asa_config_edit.specs.Refusals.{◌>>=◌}
use Rattle.asa_config_edit.specs.Refusals as judging
use Rattle.asa_acl.specs.Acls.{AccessLines}
use Rattle.asa_acl_table.specs.Names.{meanings_in, pairs_of_lists}
use Rattle.asa_config.specs.Settings.{Settings}
use Rattle.asa_config.specs.Soundness.{IsKept, all_within}
use Rattle.asa_config.proofs.KeptLaws.{list_all-weaker}
use Rattle.asa_config.specs.Net.{of_net, told, with_net}

abbrev Bound : Type 0
Bound = List ((ℕ × Bool) × List ℕ)

-- the interfaces decide
pub kept_net : (objects : Table) (old new : Interfaces) (lists : List AccessLines) (pairs : ℕ) (bound : Bound) (global : Option (List ℕ)) → new.ifaces ≡ old.ifaces
    → IsKept objects old lists pairs bound global → IsKept objects new lists pairs bound global
kept_net objects old new lists pairs bound global same kept = record {
  counted = subst (λ is. pairs ≡ pairs_of_lists (meanings_in objects is) lists) (sym same) kept.counted;
  few = kept.few;
  within = subst (λ is. all_within (length is) bound ≡ true) (sym same) kept.within;
  defined = kept.defined;
  rising = kept.rising;
  global_defined = kept.global_defined;
}

added_keeps : (i j : Interfaces) (r : RouteLine) → route_added i r ≡ Ok j → j.ifaces ≡ i.ifaces
unfolding route_added
added_keeps i j r e = by (routes_with i.routes r) e
  where
    by : (s : Result (List RouteLine) IfaceFault) → and_then s (λ routes. Ok (with_routes i routes)) ≡ Ok j → j.ifaces ≡ i.ifaces
    by (Ok routes) e = let same : with_routes i routes ≡ j = cc in ap (λ x. x.ifaces) (sym same)
    by (Err f) e = absurd (cc)

removed_is : (i : Interfaces) (r : RouteLine) → has_route i.routes r ≡ true → route_removed i r ≡ Ok (with_routes i (without_route i.routes r))
unfolding route_removed routes_without
removed_is i r there = ap (λ (b : Bool). and_then (if b then Ok (without_route i.routes r) else Err fault.NoSuchLine) (λ routes. Ok (with_routes i routes))) there

same_ok : {E X : Type 0} (a b : X) (r : Result X E) → r ≡ Ok a → r ≡ Ok b → a ≡ b
same_ok a b r e f = cc

no_err : {E X : Type 0} (f : E) (x : X) (r : Result X E) → r ≡ Err f → r ≡ Ok x → ⊥
no_err f x r e g = absurd (cc)

-- a route that is there goes
pub taken_answer : (x : Result (Unit {0}) IfaceFault) (old new : Interfaces) (r : RouteLine) → has_route old.routes r ≡ true → Changes x old new (route_removed old r)
    → new ≡ with_routes old (without_route old.routes r)
taken_answer (Ok u) old new r there made = same_ok new (with_routes old (without_route old.routes r)) (route_removed old r) made (removed_is old r there)
taken_answer (Err f) old new r there made = absurd (no_err f (with_routes old (without_route old.routes r)) (route_removed old r) made.0 (removed_is old r there))

-- a block of an interface takes none away
grows_added : (i j : Interfaces) (iface : Iface) → interface_added i iface ≡ Ok j → length i.ifaces ≤ length j.ifaces
unfolding interface_added
grows_added i j iface e = by (nat_lt (length i.ifaces) 64) e
  where
    by : (b : Bool) → (if b then Ok (with_interface i iface) else Err fault.TooMany) ≡ Ok j → length i.ifaces ≤ length j.ifaces
    by true e =
        let same : with_interface i iface ≡ j = cc in
        subst (λ k. length i.ifaces ≤ length k.ifaces) same (omega (arith, length-append i.ifaces (iface ∷ [])))
    by false e = absurd (cc)

grows_step : (i j : Interfaces) (b : Block) → interface_step i b ≡ Ok j → length i.ifaces ≤ length j.ifaces
unfolding interface_step
grows_step i j b e = by (interface_of_block i.ifaces b) e
  where
    by : (s : Result Iface IfaceFault) → and_then s (interface_added i) ≡ Ok j → length i.ifaces ≤ length j.ifaces
    by (Ok iface) e = grows_added i j iface e
    by (Err f) e = absurd (cc)

pub grows : (x : Result (Unit {0}) IfaceFault) (old new : Interfaces) (b : Block) → Makes x old new (interface_step old b) → length old.ifaces ≤ length new.ifaces
grows (Ok u) old new b makes = grows_step old new b makes
grows (Err fault.NoMemory) old new b makes = subst (λ k. length old.ifaces ≤ length k.ifaces) (sym makes) (omega arith)
grows (Err (fault.Line n f)) old new b makes = subst (λ k. length old.ifaces ≤ length k.ifaces) (sym makes.1) (omega arith)
grows (Err (fault.NameTaken n)) old new b makes = subst (λ k. length old.ifaces ≤ length k.ifaces) (sym makes.1) (omega arith)
grows (Err fault.NoSuchLine) old new b makes = subst (λ k. length old.ifaces ≤ length k.ifaces) (sym makes.1) (omega arith)
grows (Err fault.TooMany) old new b makes = subst (λ k. length old.ifaces ≤ length k.ifaces) (sym makes.1) (omega arith)

-- and more interfaces keep what is bound
pub kept_more : (objects : Table) (old new : Interfaces) (lists : List AccessLines) (pairs more : ℕ) (bound : Bound) (global : Option (List ℕ)) → IsKept objects old lists pairs bound global
    → length old.ifaces ≤ length new.ifaces → more ≡ pairs_of_lists (meanings_in objects new.ifaces) lists → more ≤ 262144 → IsKept objects new lists more bound global
kept_more objects old new lists pairs more bound global kept longer counted few = record {
  counted = counted;
  few = few;
  within = list_all-weaker (λ b. nat_lt b.0.0 (length old.ifaces)) (λ b. nat_lt b.0.0 (length new.ifaces))
      (λ b h. lt-ltb b.0.0 (length new.ifaces) (omega (arith, longer, ltb-true b.0.0 (length old.ifaces) h))) bound kept.within;
  defined = kept.defined;
  rising = kept.rising;
  global_defined = kept.global_defined;
}

-- a route that is put leaves the interfaces
pub route_keeps : (x : Result (Unit {0}) IfaceFault) (old new : Interfaces) (r : RouteLine) → Makes x old new (route_added old r) → new.ifaces ≡ old.ifaces
route_keeps (Ok u) old new r makes = added_keeps old new r makes
route_keeps (Err fault.NoMemory) old new r makes = ap (λ i. i.ifaces) makes
route_keeps (Err (fault.Line n f)) old new r makes = ap (λ i. i.ifaces) makes.1
route_keeps (Err (fault.NameTaken n)) old new r makes = ap (λ i. i.ifaces) makes.1
route_keeps (Err fault.NoSuchLine) old new r makes = ap (λ i. i.ifaces) makes.1
route_keeps (Err fault.TooMany) old new r makes = ap (λ i. i.ifaces) makes.1

-- what a change of them answers, as a change of the configuration
pub net_told : (x : Result (Unit {0}) IfaceFault) (c : Settings) (new : Interfaces) (s : Result Interfaces IfaceFault) → Makes x c.net new s
    → judging.Makes (told x) c (with_net c new) (of_net s >>= λ net. Ok (with_net c net))
net_told (Ok u) c new s makes = ap (λ t. of_net t >>= λ net. Ok (with_net c net)) makes
net_told (Err fault.NoMemory) c new s makes = ap (with_net c) makes
net_told (Err (fault.Line n (word.Bad k))) c new s makes = (ap (λ t. of_net t >>= λ net. Ok (with_net c net)) makes.0, ap (with_net c) makes.1)
net_told (Err (fault.Line n (word.Unsupported k))) c new s makes = (ap (λ t. of_net t >>= λ net. Ok (with_net c net)) makes.0, ap (with_net c) makes.1)
net_told (Err (fault.Line n (word.Unknown k))) c new s makes = (ap (λ t. of_net t >>= λ net. Ok (with_net c net)) makes.0, ap (with_net c) makes.1)
net_told (Err (fault.Line n (word.NoSuchInterface k))) c new s makes = (ap (λ t. of_net t >>= λ net. Ok (with_net c net)) makes.0, ap (with_net c) makes.1)
net_told (Err (fault.Line n word.NoMemory)) c new s makes = ap (with_net c) makes.1
net_told (Err (fault.NameTaken n)) c new s makes = (ap (λ t. of_net t >>= λ net. Ok (with_net c net)) makes.0, ap (with_net c) makes.1)
net_told (Err fault.NoSuchLine) c new s makes = (ap (λ t. of_net t >>= λ net. Ok (with_net c net)) makes.0, ap (with_net c) makes.1)
net_told (Err fault.TooMany) c new s makes = (ap (λ t. of_net t >>= λ net. Ok (with_net c net)) makes.0, ap (with_net c) makes.1)

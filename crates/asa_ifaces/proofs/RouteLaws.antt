-- The interface of a route, and what becomes of the routes where a line takes its place.
use Rattle.std.proofs.Common.{◌≡◌, ℕ, ◌<◌, Bool, true, false, if◌then◌else◌, List, [], ◌∷◌, ◌++◌, length, take, drop, get_or, Option, Some, None, Ok, Err, sym, ap, ◌∙◌, suc}
use Rattle.std.proofs.Math.ListN.{set}
use Rattle.std.proofs.Math.Seq.{drop-cons}
use Rattle.std.proofs.lemmas.List.{set_split}
use Rattle.std.proofs.lemmas.List.Quantifiers.{position-Some}
use Rattle.asa_text.specs.Words.{Left}
use Rattle.asa_text.specs.Readers.{Read, ◌>>=◌, column_at}
use Rattle.asa_base.specs.Names.{name_at}
use Rattle.asa_base.specs.Readers.{interface_at, interface_or_fault}
use Rattle.asa_ifaces.specs.declared.iface.Iface.{Iface}
use Rattle.asa_ifaces.specs.declared.iface.RouteLine.{RouteLine}
use Rattle.asa_ifaces.specs.Interfaces.{Interfaces, has_name, interface_of}
use Rattle.asa_ifaces.specs.Routes.{with_route, same_route}

-- stands for an interface that isn't there
no_iface : Iface
no_iface = record { hardware = []; name = None; level = 0; addr = None; shutdown = false }

-- the number of an interface's name is that of one of the interfaces
pub interface_within : (i : Interfaces) (left : Left) (n : ℕ) (rest : Left) → interface_at (interface_of i) left ≡ Ok (n, rest) → n < length i.ifaces
unfolding interface_at
interface_within i left n rest e = of_name (name_at left) e
  where
    of_number : (l : Left) (number : Option ℕ) → interface_or_fault (column_at left) l number ≡ Ok (n, rest) → number ≡ Some n
    of_number l None e = absurd (cc)
    of_number l (Some m) e = let same : (m, l) ≡ (n, rest) = cc in ap (λ (read : ℕ × Left). Some read.0) same

    of_name : (name : Read (List ℕ)) → (name >>= λ (name, l). interface_or_fault (column_at left) l (interface_of i name)) ≡ Ok (n, rest) → n < length i.ifaces
    of_name (Err why) e = absurd (cc)
    of_name (Ok (name, l)) e = (position-Some (has_name name) i.ifaces n no_iface (of_number l (interface_of i name) e)).0

-- the first line that equals r but for the distance is the one that r replaces
pub with_route_at : (qs : List RouteLine) (i : ℕ) (r : RouteLine) (d : RouteLine) → take i qs ++ with_route (drop i qs) r ≡ with_route qs r
    → i < length qs → same_route (get_or qs i d) r ≡ true → with_route qs r ≡ set qs i r
with_route_at qs i r d joined lt same =
    sym joined ∙ ap (λ x. take i qs ++ with_route x r) (drop-cons qs i d lt)
    ∙ ap (λ (b : Bool). take i qs ++ (if b then r ∷ drop (suc i) qs else get_or qs i d ∷ with_route (drop (suc i) qs) r)) same
    ∙ sym (set_split qs i r lt)

-- The test of equality tells exactly the lines that are the same value.
use Rattle.std.proofs.Common.{◌≡◌, ℕ, Bool, true, ◌&&◌, ◌==◌, List, [], ◌∷◌, Option, Some, None, IsTrue, refl, sym, ap, ◌∙◌}
use Rattle.std.proofs.lemmas.Bool.{and_parts}
use Rattle.std.proofs.lemmas.Bool.Decides.{Decides-eqb}
use Rattle.std.proofs.lemmas.Slice.Eq.{bytes_eq-Decides}
use Rattle.std.proofs.Math.Bool.{beq}
use Rattle.std.specs.Bool.{Decides}
use Rattle.std.specs.Cmp.{booleans_Decides}
use Rattle.std.specs.Cmp.Lexicographic.{pointwise}
use Rattle.std.specs.Option.{option_eq}
use Rattle.std.specs.Str.{bytes_eq}
use Rattle.asa_text.specs.declared.numbers.Addr.{Addr}
use Rattle.asa_base.specs.Networks.{Network}
use Rattle.asa_base.specs.Ranges.{PortSpan}
use Rattle.asa_base.specs.declared.boxes.Service.{Service}
use Rattle.asa_acl_line.specs.declared.ace.AddrRef.{AddrRef}
use Rattle.asa_acl_line.specs.declared.ace.AddrRef.TheVariants as address
use Rattle.asa_acl_line.specs.declared.ace.PortRef.{PortRef}
use Rattle.asa_acl_line.specs.declared.ace.PortRef.TheVariants as port
use Rattle.asa_acl_line.specs.declared.ace.ServiceRef.{ServiceRef}
use Rattle.asa_acl_line.specs.declared.ace.ServiceRef.TheVariants as service
use Rattle.asa_acl_line.specs.declared.ace.Ace.{Ace}
use Rattle.asa_acl_line.specs.declared.ace.AclLine.{AclLine}
use Rattle.asa_acl_line.specs.declared.ace.AclLine.TheVariants as line
use Rattle.asa_acl_line.specs.Lines.{number_eq, network_eq, span_eq, service_eq, address_eq, ports_eq, service_ref_eq, ace_eq, line_eq}

abbrev Tells : {X : Type 0} → (X → X → Bool) → Type 0
Tells {X} eq = (a b : X) → eq a b ≡ true → a ≡ b

module _ {X : Type 0} (eq : X → X → Bool) (tells : (a b : X) → eq a b ≡ true → a ≡ b) where
  option_tells : (a b : Option X) → option_eq eq a b ≡ true → a ≡ b
  option_tells None None h = refl
  option_tells None (Some _) h = absurd (cc)
  option_tells (Some _) None h = absurd (cc)
  option_tells (Some a) (Some b) h = ap Some (tells a b h)

  list_tells : (as' bs : List X) → pointwise eq as' bs ≡ true → as' ≡ bs
  list_tells [] [] h = refl
  list_tells [] (_ ∷ _) h = absurd (cc)
  list_tells (_ ∷ _) [] h = absurd (cc)
  list_tells (a ∷ more) (b ∷ others) h = let parts = and_parts _ _ h in
      ap (λ x. x ∷ more) (tells a b parts.0) ∙ ap (λ xs. b ∷ xs) (list_tells more others parts.1)

number_tells : (a b : ℕ) → number_eq a b ≡ true → a ≡ b
number_tells a b h = (Decides-eqb a b).0 h

address_number_tells : (a b : Addr) → (a.0 == b.0) ≡ true → a ≡ b
address_number_tells a b h = ap (λ (n : ℕ). record { 0 = n }) ((Decides-eqb a.0 b.0).0 h)

bytes_tells : (a b : List ℕ) → bytes_eq a b ≡ true → a ≡ b
bytes_tells a b h = (bytes_eq-Decides a b).0 h

network_tells : (a b : Network) → network_eq a b ≡ true → a ≡ b
network_tells a b h = let parts = and_parts _ _ h in
    ap (λ (x : Addr). record { addr = x; len = a.len }) (address_number_tells a.addr b.addr parts.0)
    ∙ ap (λ (n : ℕ). record { addr = b.addr; len = n }) ((Decides-eqb a.len b.len).0 parts.1)

span_tells : (a b : PortSpan) → span_eq a b ≡ true → a ≡ b
span_tells a b h = let parts = and_parts _ _ h in
    ap (λ (n : ℕ). record { first = n; last = a.last }) ((Decides-eqb a.first b.first).0 parts.0)
    ∙ ap (λ (n : ℕ). record { first = b.first; last = n }) ((Decides-eqb a.last b.last).0 parts.1)

service_tells : (a b : Service) → service_eq a b ≡ true → a ≡ b
unfolding service_eq
service_tells a b h =
    let p = and_parts _ _ h in
    let q = and_parts _ _ p.0 in
    let r = and_parts _ _ q.0 in
    let s = and_parts _ _ r.0 in
    let proto = option_tells number_eq number_tells a.proto b.proto s.0 in
    let sport = span_tells a.sport b.sport s.1 in
    let dport = span_tells a.dport b.dport r.1 in
    let itype = option_tells number_eq number_tells a.itype b.itype q.1 in
    let icode = option_tells number_eq number_tells a.icode b.icode p.1 in
    ap (λ (x : Option ℕ). record a { proto = x }) proto
    ∙ ap (λ (x : PortSpan). record a { proto = b.proto; sport = x }) sport
    ∙ ap (λ (x : PortSpan). record a { proto = b.proto; sport = b.sport; dport = x }) dport
    ∙ ap (λ (x : Option ℕ). record b { itype = x; icode = a.icode }) itype
    ∙ ap (λ (x : Option ℕ). record b { icode = x }) icode

address_tells : (a b : AddrRef) → address_eq a b ≡ true → a ≡ b
unfolding address_eq
address_tells address.Any address.Any h = refl
address_tells address.Nothing address.Nothing h = refl
address_tells (address.Host a) (address.Host b) h = ap address.Host (address_number_tells a b h)
address_tells (address.Net a) (address.Net b) h = ap address.Net (network_tells a b h)
address_tells (address.Named a) (address.Named b) h = ap address.Named (bytes_tells a b h)
address_tells (address.Interface a) (address.Interface b) h = ap address.Interface ((Decides-eqb a b).0 h)
address_tells _ _ h = absurd (cc)

ports_tells : (a b : PortRef) → ports_eq a b ≡ true → a ≡ b
unfolding ports_eq
ports_tells port.All port.All h = refl
ports_tells (port.Ranges a) (port.Ranges b) h = ap port.Ranges (list_tells span_eq span_tells a b h)
ports_tells (port.Named a) (port.Named b) h = ap port.Named (bytes_tells a b h)
ports_tells _ _ h = absurd (cc)

service_ref_tells : (a b : ServiceRef) → service_ref_eq a b ≡ true → a ≡ b
unfolding service_ref_eq
service_ref_tells (service.Plain a) (service.Plain b) h = ap service.Plain (service_tells a b h)
service_ref_tells (service.Named a) (service.Named b) h = ap service.Named (bytes_tells a b h)
service_ref_tells (service.Ported group proto source dest) (service.Ported group' proto' source' dest') h =
    let p = and_parts _ _ h in
    let q = and_parts _ _ p.0 in
    let r = and_parts _ _ q.0 in
    ap (λ x. service.Ported x proto source dest) (option_tells bytes_eq bytes_tells group group' r.0)
    ∙ ap (λ x. service.Ported group' x source dest) (option_tells number_eq number_tells proto proto' r.1)
    ∙ ap (λ x. service.Ported group' proto' x dest) (ports_tells source source' q.1)
    ∙ ap (λ x. service.Ported group' proto' source' x) (ports_tells dest dest' p.1)
service_ref_tells (service.Icmp a) (service.Icmp b) h = ap service.Icmp (bytes_tells a b h)
service_ref_tells _ _ h = absurd (cc)

ace_tells : (a b : Ace) → ace_eq a b ≡ true → a ≡ b
unfolding ace_eq
ace_tells a b h =
    let p = and_parts _ _ h in
    let q = and_parts _ _ p.0 in
    let r = and_parts _ _ q.0 in
    let s = and_parts _ _ r.0 in
    let permit = (booleans_Decides a.permit b.permit).0 s.0 in
    let active = (booleans_Decides a.active b.active).0 s.1 in
    let service = service_ref_tells a.service b.service r.1 in
    let source = address_tells a.source b.source q.1 in
    let dest = address_tells a.dest b.dest p.1 in
    ap (λ (x : Bool). record a { permit = x }) permit
    ∙ ap (λ (x : Bool). record a { permit = b.permit; active = x }) active
    ∙ ap (λ (x : ServiceRef). record a { permit = b.permit; active = b.active; service = x }) service
    ∙ ap (λ (x : AddrRef). record b { source = x; dest = a.dest }) source
    ∙ ap (λ (x : AddrRef). record b { dest = x }) dest

-- lines that pass the test are the same
pub line_tells : (a b : AclLine) → line_eq a b ≡ true → a ≡ b
unfolding line_eq
line_tells (line.Ace a) (line.Ace b) h = ap line.Ace (ace_tells a b h)
line_tells (line.Remark a) (line.Remark b) h = ap line.Remark (bytes_tells a b h)
line_tells _ _ h = absurd (cc)

-- a line passes the test with itself -----------------------------------------------------------------------------------

bytes_same : (a : List ℕ) → bytes_eq a a ≡ true
bytes_same a = (bytes_eq-Decides a a).1 refl

number_same : (n : ℕ) → (n == n) ≡ true
number_same n = (Decides-eqb n n).1 refl

both : (a b : Bool) → a ≡ true → b ≡ true → (a && b) ≡ true
both a b h k = ap (λ x. x && b) h ∙ k

module _ {X : Type 0} (eq : X → X → Bool) (same : (a : X) → eq a a ≡ true) where
  option_same : (a : Option X) → option_eq eq a a ≡ true
  option_same None = refl
  option_same (Some a) = same a

  list_same : (xs : List X) → pointwise eq xs xs ≡ true
  list_same [] = refl
  list_same (x ∷ xs) = both (eq x x) (pointwise eq xs xs) (same x) (list_same xs)

span_same : (a : PortSpan) → span_eq a a ≡ true
span_same a = both _ _ (number_same a.first) (number_same a.last)

service_same : (a : Service) → service_eq a a ≡ true
unfolding service_eq
service_same a = both _ _ (both _ _ (both _ _ (both _ _ (option_same number_eq number_same a.proto) (span_same a.sport)) (span_same a.dport))
    (option_same number_eq number_same a.itype)) (option_same number_eq number_same a.icode)

address_same : (a : AddrRef) → address_eq a a ≡ true
unfolding address_eq
address_same address.Any = refl
address_same address.Nothing = refl
address_same (address.Host a) = number_same a.0
address_same (address.Net a) = both _ _ (number_same a.addr.0) (number_same a.len)
address_same (address.Named a) = bytes_same a
address_same (address.Interface a) = number_same a

ports_same : (a : PortRef) → ports_eq a a ≡ true
unfolding ports_eq
ports_same port.All = refl
ports_same (port.Ranges a) = list_same span_eq span_same a
ports_same (port.Named a) = bytes_same a

service_ref_same : (a : ServiceRef) → service_ref_eq a a ≡ true
unfolding service_ref_eq
service_ref_same (service.Plain a) = service_same a
service_ref_same (service.Named a) = bytes_same a
service_ref_same (service.Ported group proto source dest) = both _ _ (both _ _ (both _ _ (option_same bytes_eq bytes_same group)
    (option_same number_eq number_same proto)) (ports_same source)) (ports_same dest)
service_ref_same (service.Icmp a) = bytes_same a

flag_same : (a : Bool) → beq a a ≡ true
flag_same a = (booleans_Decides a a).1 refl

ace_same : (a : Ace) → ace_eq a a ≡ true
unfolding ace_eq
ace_same a = both _ _ (both _ _ (both _ _ (both _ _ (flag_same a.permit) (flag_same a.active)) (service_ref_same a.service))
    (address_same a.source)) (address_same a.dest)

line_same : (a : AclLine) → line_eq a a ≡ true
unfolding line_eq
line_same (line.Ace a) = ace_same a
line_same (line.Remark a) = bytes_same a

-- the test of equality tells exactly the lines that are the same value
pub line_decides : (a b : AclLine) → Decides (line_eq a b) (a ≡ b)
line_decides a b = (line_tells a b, λ e. ap (λ (x : AclLine). line_eq a x) (sym e) ∙ line_same a)

-- the answer of a test of equality
pub line_tested : (a b : AclLine) (r : Bool) → r ≡ line_eq a b → (IsTrue r → a ≡ b) × (a ≡ b → IsTrue r)
line_tested a b r tested = (λ yes. (line_decides a b).0 (sym tested ∙ yes), λ same. tested ∙ (line_decides a b).1 same)

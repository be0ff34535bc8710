-- The protocol and the ports of a rule.
use Rattle.std.specs.Prelude.{ℕ, Bool, not, ◌&&◌, ◌||◌, ◌==◌, List, [], ◌∷◌, codes, Option, Some, None, Ok, Err, if◌then◌else◌}
use Rattle.std.specs.Option.{option_eq}
use Rattle.std.proofs.Math.Bool.{beq}
use Rattle.asa_text.specs.declared.readers.LineFault.TheVariants.{Bad}
use Rattle.asa_text.specs.Words.{Left}
use Rattle.asa_text.specs.Readers.{Read, ◌>>=◌, after_one, next_is, column_at, keyword_at}
use Rattle.asa_base.specs.Kinds.{Known}
use Rattle.asa_base.specs.Ranges.{PortSpan}
use Rattle.asa_base.specs.Readers.{named_at, port_word_at}
use Rattle.asa_base.specs.declared.kinds.Kind.TheVariants as kind
use Rattle.asa_base.specs.declared.boxes.Service.{Service}
use Rattle.asa_nat_lines.specs.declared.rule.ServicePart.{ServicePart}
use Rattle.asa_nat_lines.specs.declared.rule.ServicePart.TheVariants as service

-- the ports are stated: a range of all ports counts as not stated
abbrev pub states : PortSpan → Bool
states ports = not ((ports.first == 0) && (ports.last == 65535))

-- the service alone makes the rule wrong: nothing is stated, a source in a dynamic rule, or a destination in a rule
-- without one
abbrev pub is_wrong : Bool → Bool → Service → Bool
is_wrong is_static has_dest s =
    not (states s.sport || states s.dport) || (states s.sport && not is_static) || (states s.dport && not has_dest)

-- two services of one protocol, which both state the source, or both the destination, or both both
abbrev pub agree : Service → Service → Bool
agree a b = option_eq (λ x y. x == y) a.proto b.proto && beq (states a.sport) (states b.sport) && beq (states a.dport) (states b.dport)

-- the service of an object of tcp or udp that has one; another is Bad
abbrev pub service_or_bad : ℕ → List ℕ → Left → Option Service → Read (List ℕ × Service)
service_or_bad column name left None = Err (Bad column)
service_or_bad column name left (Some s) = Ok ((name, s), left)

-- the name of a service object of tcp or udp with one range of ports each
unfoldable pub service_name_at : Known → Left → Read (List ℕ × Service)
service_name_at known left = named_at known (kind.ServiceObject ∷ []) left >>= λ (named, rest).
    service_or_bad (column_at left) named.0 rest (known.service_range named.0)

-- the first name, which doesn't make the rule wrong
unfoldable pub first_service_at : Known → Bool → Bool → Left → Read (List ℕ × Service)
first_service_at known is_static has_dest left = service_name_at known left >>= λ (named, rest).
    if is_wrong is_static has_dest named.1 then Err (Bad (column_at left)) else Ok (named, rest)

-- the second name, which agrees with the first
unfoldable pub second_service_at : Known → Service → Left → Read (List ℕ)
second_service_at known first left = service_name_at known left >>= λ (named, rest).
    if agree first named.1 then Ok (named.0, rest) else Err (Bad (column_at left))

-- `N N` after `service`
unfoldable pub service_names_at : Known → Bool → Bool → Left → Read ServicePart
service_names_at known is_static has_dest left = do
  (first, left) ← first_service_at known is_static has_dest left
  (second, left) ← second_service_at known first.1 left
  Ok (service.Named first.0 second, left)

-- `[service N N]` of a manual rule
unfoldable pub manual_service_at : Known → Bool → Bool → Left → Read ServicePart
manual_service_at known is_static has_dest left =
    if next_is (codes "service") left then service_names_at known is_static has_dest (after_one left) else Ok (service.None, left)

-- `tcp` or `udp`
unfoldable pub tcp_or_udp_at : Left → Read ℕ
tcp_or_udp_at left =
    if next_is (codes "tcp") left then Ok (6, after_one left) else (keyword_at (codes "udp") left >>= λ (_, rest). Ok (17, rest))

-- `tcp|udp P P` after `service`
unfoldable pub own_ports_at : Left → Read ServicePart
own_ports_at left = do
  (proto, left) ← tcp_or_udp_at left
  (real, left) ← port_word_at left
  (mapped, left) ← port_word_at left
  Ok (service.Ports proto real mapped, left)

-- `[service tcp|udp P P]` of an object's static rule
unfoldable pub own_service_at : Left → Read ServicePart
own_service_at left = if next_is (codes "service") left then own_ports_at (after_one left) else Ok (service.None, left)

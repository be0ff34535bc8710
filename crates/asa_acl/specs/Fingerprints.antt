-- Fingerprints of lines: a number for each line, which is the same for lines that are equal. Lines whose fingerprints
-- differ need no further comparison.
use Rattle.std.specs.Prelude.{ℕ, ◌+◌, ◌*◌, ◌%◌, ◌^◌, List, fold, Option, Some, None, if◌then◌else◌, Bool}
use Rattle.asa_base.specs.Ranges.{PortSpan}
use Rattle.asa_base.specs.declared.boxes.Service.{Service}
use Rattle.asa_acl_line.specs.declared.ace.AddrRef.{AddrRef}
use Rattle.asa_acl_line.specs.declared.ace.AddrRef.TheVariants as address
use Rattle.asa_acl_line.specs.declared.ace.PortRef.{PortRef}
use Rattle.asa_acl_line.specs.declared.ace.PortRef.TheVariants as port
use Rattle.asa_acl_line.specs.declared.ace.ServiceRef.{ServiceRef}
use Rattle.asa_acl_line.specs.declared.ace.ServiceRef.TheVariants as service
use Rattle.asa_acl_line.specs.declared.ace.Ace.{Ace}
use Rattle.asa_acl_line.specs.declared.ace.AclLine.{AclLine}
use Rattle.asa_acl_line.specs.declared.ace.AclLine.TheVariants as line

-- a number mixed into a fingerprint
unfoldable pub mixed : ℕ → ℕ → ℕ
mixed mark number = (mark * 6364136223846793005 % 2 ^ 64 + number) % 2 ^ 64

-- bytes mixed in one after another
unfoldable pub mixed_bytes : ℕ → List ℕ → ℕ
mixed_bytes mark bytes = fold mixed mark bytes

-- a number that may be unstated
unfoldable pub mixed_option : ℕ → Option ℕ → ℕ
mixed_option mark None = mixed mark 256
mixed_option mark (Some n) = mixed mark n

unfoldable pub mixed_span : ℕ → PortSpan → ℕ
mixed_span mark span = mixed (mixed mark span.first) span.last

unfoldable pub mixed_spans : ℕ → List PortSpan → ℕ
mixed_spans mark spans = fold mixed_span mark spans

unfoldable pub mixed_address : ℕ → AddrRef → ℕ
mixed_address mark address.Any = mixed mark 1
mixed_address mark address.Nothing = mixed mark 2
mixed_address mark (address.Host a) = mixed (mixed mark 3) a.0
mixed_address mark (address.Net n) = mixed (mixed (mixed mark 4) n.addr.0) n.len
mixed_address mark (address.Named name) = mixed_bytes (mixed mark 5) name
mixed_address mark (address.Interface ifc) = mixed (mixed mark 6) ifc

unfoldable pub mixed_ports : ℕ → PortRef → ℕ
mixed_ports mark port.All = mixed mark 1
mixed_ports mark (port.Ranges spans) = mixed_spans (mixed mark 2) spans
mixed_ports mark (port.Named name) = mixed_bytes (mixed mark 3) name

unfoldable pub mixed_plain : ℕ → Service → ℕ
mixed_plain mark s = mixed_option (mixed_option (mixed_span (mixed_span (mixed_option mark s.proto) s.sport) s.dport) s.itype) s.icode

-- the name of a group of protocols, where there is one
unfoldable pub mixed_name : ℕ → Option (List ℕ) → ℕ
mixed_name mark None = mixed mark 1
mixed_name mark (Some name) = mixed_bytes (mixed mark 2) name

unfoldable pub mixed_service : ℕ → ServiceRef → ℕ
mixed_service mark (service.Plain s) = mixed_plain (mixed mark 1) s
mixed_service mark (service.Named name) = mixed_bytes (mixed mark 2) name
mixed_service mark (service.Ported group proto source dest) =
    mixed_ports (mixed_ports (mixed_option (mixed_name (mixed mark 3) group) proto) source) dest
mixed_service mark (service.Icmp name) = mixed_bytes (mixed mark 4) name

unfoldable pub mixed_flag : ℕ → Bool → ℕ
mixed_flag mark flag = mixed mark (if flag then 1 else 2)

unfoldable pub mixed_ace : ℕ → Ace → ℕ
mixed_ace mark a = mixed_address (mixed_address (mixed_service (mixed_flag (mixed_flag mark a.permit) a.active) a.service) a.source) a.dest

-- the fingerprint of a line
unfoldable pub mark_of : AclLine → ℕ
mark_of (line.Ace a) = mixed_ace 1 a
mark_of (line.Remark text) = mixed_bytes 2 text

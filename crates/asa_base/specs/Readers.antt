-- Reading ports, protocols, ICMP types, interfaces and names of objects and groups.
use Rattle.std.specs.Prelude.{ℕ, ◌+◌, ◌-◌, Bool, ◌||◌, ◌==◌, nat_le, List, [], ◌∷◌, ◌++◌, codes, Option, Some, None, Ok, Err, if◌then◌else◌}
use Rattle.std.specs.List.{list_any}
use Rattle.std.specs.Str.{bytes_eq}
use Rattle.asa_text.specs.declared.readers.LineFault.TheVariants.{Bad, Unknown, NoSuchInterface}
use Rattle.asa_text.specs.Words.{Left}
use Rattle.asa_text.specs.Readers.{Read, ◌>>=◌, word_at, column_at, next_is, number_at, value_or_bad}
use Rattle.asa_text_names.specs.Numbers.{port_of, proto_of, icmp_type_of}
use Rattle.asa_base.specs.declared.kinds.Kind.{Kind}
use Rattle.asa_base.specs.declared.kinds.Kind.TheVariants as kind
use Rattle.asa_base.specs.Kinds.{Known}
use Rattle.asa_base.specs.Names.{name_at}
use Rattle.asa_base.specs.Ranges.{PortSpan, only_port}

-- a port: digits or a name
unfoldable pub port_word_at : Left → Read ℕ
port_word_at left = word_at left >>= λ (w, rest). value_or_bad w rest (port_of w.word)

-- a protocol: `ip`, digits or a name
unfoldable pub protocol_at : Left → Read (Option ℕ)
protocol_at left = word_at left >>= λ (w, rest). value_or_bad w rest (proto_of w.word)

-- an ICMP type: digits or a name
unfoldable pub icmp_type_at : Left → Read ℕ
icmp_type_at left = word_at left >>= λ (w, rest). value_or_bad w rest (icmp_type_of w.word)

-- an ICMP code
abbrev pub icmp_code_at : Left → Read ℕ
icmp_code_at left = number_at 0 255 left

-- the next word says how ports are stated
abbrev pub states_ports : Left → Bool
states_ports left = next_is (codes "eq") left || next_is (codes "lt") left || next_is (codes "gt") left || next_is (codes "neq") left
    || next_is (codes "range") left

-- the ports below one, and those above one
abbrev pub ports_below : ℕ → List PortSpan
ports_below p = if p == 0 then [] else record { first = 0; last = p - 1 } ∷ []

abbrev pub ports_above : ℕ → List PortSpan
ports_above p = if p == 65535 then [] else record { first = p + 1; last = 65535 } ∷ []

-- ranges of ports; where there is none, the word at the column is Bad
abbrev pub some_ports : ℕ → List PortSpan → Left → Read (List PortSpan)
some_ports column [] left = Err (Bad column)
some_ports column (span ∷ spans) left = Ok (span ∷ spans, left)

-- the ports that a port stands for, by the meaning of the word before it
abbrev pub ports_by : (ℕ → List PortSpan) → Left → Read (List PortSpan)
ports_by meaning left = port_word_at left >>= λ (p, rest). some_ports (column_at left) (meaning p) rest

-- the range between two ports; a first above the last is Bad at the last
abbrev pub ports_between : ℕ → ℕ → List PortSpan
ports_between first last = if nat_le first last then record { first = first; last = last } ∷ [] else []

unfoldable pub port_span_at : Left → Read (List PortSpan)
port_span_at left = port_word_at left >>= λ (first, l). ports_by (ports_between first) l

-- `eq P`, `lt P`, `gt P`, `neq P` or `range P P`; `lt 0` and `gt 65535` are Bad at the number
unfoldable pub ports_at : Left → Read (List PortSpan)
ports_at left = word_at left >>= λ (w, rest).
    if bytes_eq w.word (codes "eq") then ports_by (λ p. only_port p ∷ []) rest
    else (if bytes_eq w.word (codes "lt") then ports_by ports_below rest
    else (if bytes_eq w.word (codes "gt") then ports_by ports_above rest
    else (if bytes_eq w.word (codes "neq") then ports_by (λ p. ports_below p ++ ports_above p) rest
    else (if bytes_eq w.word (codes "range") then port_span_at rest
    else Err (Bad w.column)))))

-- the number of an interface's name; a name that no interface has is NoSuchInterface
abbrev pub interface_or_fault : ℕ → Left → Option ℕ → Read ℕ
interface_or_fault column left None = Err (NoSuchInterface column)
interface_or_fault column left (Some number) = Ok (number, left)

-- an interface's name
unfoldable pub interface_at : (List ℕ → Option ℕ) → Left → Read ℕ
interface_at interface_of left = name_at left >>= λ (name, rest). interface_or_fault (column_at left) rest (interface_of name)

-- two kinds are one
abbrev pub kind_place : Kind → ℕ
kind_place kind.NetObject = 0
kind_place kind.ServiceObject = 1
kind_place kind.NetGroup = 2
kind_place kind.ServiceGroup = 3
kind_place kind.PortGroup = 4
kind_place kind.ProtocolGroup = 5
kind_place kind.IcmpGroup = 6

abbrev pub same_kind : Kind → Kind → Bool
same_kind a b = kind_place a == kind_place b

-- a name of one of these kinds; one that isn't defined is Unknown, one of another kind is Bad
abbrev pub kind_or_fault : List Kind → ℕ → List ℕ → Left → Option Kind → Read (List ℕ × Kind)
kind_or_fault kinds column name left None = Err (Unknown column)
kind_or_fault kinds column name left (Some k) = if list_any (same_kind k) kinds then Ok ((name, k), left) else Err (Bad column)

-- the name of an object or a group of one of these kinds
unfoldable pub named_at : Known → List Kind → Left → Read (List ℕ × Kind)
named_at known kinds left = name_at left >>= λ (name, rest). kind_or_fault kinds (column_at left) name rest (known.kind_of name)

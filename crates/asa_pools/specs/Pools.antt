-- What live connections hold of pools, and which value a pool gives next.
use Rattle.std.specs.Prelude.{◌≡◌, ℕ, ◌+◌, ◌-◌, ◌≤◌, Bool, true, false, not, ◌&&◌, ◌||◌, ◌==◌, nat_lt, if◌then◌else◌, List, [], ◌∷◌, length, map, Option, Some, None}
use Rattle.std.specs.List.{count_by, find, list_all, list_any, range_with_len}
use Rattle.std.specs.Option.{option_map, option_or}
use Rattle.asa_text.specs.declared.numbers.Addr.{Addr}
use Rattle.asa_base.specs.Ranges.{AddressSpan, PortSpan, all_ports}
use Rattle.asa_pool_values.specs.Reserved.{Test}
use Rattle.asa_pool_values.specs.declared.pool.PatSpan.{PatSpan}
use Rattle.asa_pool_values.specs.declared.pool.Pool.{Pool}
use Rattle.asa_pool_values.specs.declared.pool.PortRule.{PortRule}
use Rattle.asa_pool_values.specs.declared.pool.PortRule.TheVariants as rule
use Rattle.asa_pools.specs.declared.held.Held.{Held}
use Rattle.asa_pools.specs.declared.held.Binding.{Binding}
use Rattle.asa_pools.specs.declared.held.Flow.{Flow}
use Rattle.asa_pools.specs.declared.held.Mapped.{Mapped}
use Rattle.asa_pools.specs.declared.held.Mapped.TheVariants as mapped
use Rattle.asa_pools.specs.Keys.{same_binding, same_end, same_held}

-- the ports and the whole addresses that live connections hold, one element for each connection, by no order, and how many
-- may be held at once
pub record Ports : Type 0 where
  pub held : List Held
  pub bound : List Binding
  pub room : ℕ

-- how much is held
abbrev pub size : Ports → ℕ
size t = length t.held + length t.bound

-- a list has the elements of another and this one, by whatever order: for each test as many more pass
abbrev pub HasMore : {A : Type 0} → A → List A → List A → Type 0
HasMore {A} x less more = (t : A → Bool) → count_by t more ≡ count_by t less + (if t x then 1 else 0)

-- each test has as many elements in one list as in another
abbrev pub HasSame : {A : Type 0} → List A → List A → Type 0
HasSame {A} xs ys = (t : A → Bool) → count_by t ys ≡ count_by t xs

-- what a value is in `held` or `bound`
abbrev pub held_of : ℕ → Addr → ℕ → Option (Addr × ℕ) → Held
held_of proto a n to = record { proto = proto; addr = a; port = n; to = to }

abbrev pub binding_of : Addr → ℕ → Addr → Binding
binding_of a ifc src = record { addr = a; ifc = ifc; src = src }

-- one of two tables has this value more than the other
abbrev pub OneMore : Mapped → ℕ → ℕ → Addr → Ports → Ports → Type 0
OneMore (mapped.Pat a n to) ifc proto src less more = HasMore (held_of proto a n to) less.held more.held × HasSame less.bound more.bound
OneMore (mapped.Bound a) ifc proto src less more = HasMore (binding_of a ifc src) less.bound more.bound × HasSame less.held more.held

-- whether an entry holds this port of this address
abbrev pub is_at : ℕ → Addr → ℕ → Held → Bool
is_at proto a n h = (proto == h.proto) && (a.0 == h.addr.0) && (n == h.port)

-- whether an entry counts against a flow to `end`: on an extended address an extended one to another end doesn't
abbrev pub counts_for : Bool → Addr × ℕ → Held → Bool
counts_for false end h = true
counts_for true end h = same_end None h.to || same_end (Some end) h.to

-- whether no entry keeps a port from a flow to `end`
abbrev pub is_open : List Held → ℕ → Bool → Addr × ℕ → Addr → ℕ → Bool
is_open held proto extended end a n = not (list_any (λ h. is_at proto a n h && counts_for extended end h) held)

-- whether a port is never given: port 0 of TCP and UDP
abbrev pub is_barred : ℕ → ℕ → Bool
is_barred proto n = ((proto == 6) || (proto == 17)) && (n == 0)

-- whether a flow may get a port of an address
abbrev pub is_free : Ports → Test → Flow → Bool → Addr → ℕ → Bool
is_free t keeps f extended a n = is_open t.held f.proto extended (f.dst, f.dport) a n && not (keeps f.proto a n) && not (is_barred f.proto n)

-- the ports of a class
abbrev pub class_of : ℕ → PortSpan
class_of sport =
    if nat_lt sport 512 then record { first = 0; last = 511 }
    else (if nat_lt sport 1024 then record { first = 512; last = 1023 } else record { first = 1024; last = 65535 })

-- the span of a rule for a TCP or UDP flow from this port
abbrev pub rule_span : PortRule → ℕ → PortSpan
rule_span rule.Plain sport = class_of sport
rule_span rule.Flat sport = record { first = 1024; last = 65535 }
rule_span rule.FlatReserve sport = record { first = 1; last = 65535 }

-- the span of an address's ports; ICMP identifiers are one span
abbrev pub span_of : PortRule → ℕ → ℕ → PortSpan
span_of r proto sport = if proto == 1 then all_ports else rule_span r sport

-- the numbers from a first to a last, which both count
abbrev pub numbers : ℕ → ℕ → List ℕ
numbers first last = range_with_len first (last + 1 - first)

-- the real port if it is free, else the least free port of the span
abbrev pub port_choice : (ℕ → Bool) → ℕ → PortSpan → Option ℕ
port_choice free sport s = if free sport then Some sport else find free (numbers s.first s.last)

-- the first answer
abbrev pub first_of : {A B : Type 0} → (A → Option B) → List A → Option B
first_of f [] = None
first_of f (x ∷ xs) = option_or (f x) (first_of f xs)

abbrev pub addr_of : ℕ → Addr
addr_of n = record { 0 = n }

-- the whereto of a port: the flow's real destination where the address is extended
abbrev pub end_for : Bool → Flow → Option (Addr × ℕ)
end_for false f = None
end_for true f = Some (f.dst, f.dport)

-- what an address that is given out port by port has for a flow
abbrev pub choice : Ports → Test → Flow → PatSpan → ℕ → Option Mapped
choice t keeps f s n =
    option_map (λ port. mapped.Pat (addr_of n) port (end_for s.extended f))
    (port_choice (is_free t keeps f s.extended (addr_of n)) f.sport (span_of s.ports f.proto f.sport))

-- what the first address of a span that has something has for a flow
abbrev pub span_choice : Ports → Test → Flow → PatSpan → Option Mapped
span_choice t keeps f s = first_of (choice t keeps f s) (numbers s.range.first.0 s.range.last.0)

-- whether an address is bound by the flow's input and source
abbrev pub is_own : Ports → Flow → ℕ → Bool
is_own t f n = list_any (same_binding (binding_of (addr_of n) f.ifc f.src)) t.bound

-- the first address of a range that is bound by this input and source
abbrev pub own_address : Ports → Flow → AddressSpan → Option ℕ
own_address t f r = find (is_own t f) (numbers r.first.0 r.last.0)

-- an address between two, which both count, that is bound by the flow's input and source; none where none is
abbrev pub IsBoundBetween : Ports → Flow → ℕ → ℕ → Option ℕ → Type 0
IsBoundBetween t f first last (Some n) = (first ≤ n) × (n ≤ last) × (is_own t f n ≡ true)
IsBoundBetween t f first last None = (n : ℕ) → first ≤ n → n ≤ last → is_own t f n ≡ false

-- the first address of a range that nobody has bound
abbrev pub open_address : Ports → AddressSpan → Option ℕ
open_address t r = find (λ n. not (list_any (λ b. n == b.addr.0) t.bound)) (numbers r.first.0 r.last.0)

-- the protocols that have ports or identifiers
abbrev pub has_ports : ℕ → Bool
has_ports proto = (proto == 6) || (proto == 17) || (proto == 1)

-- a whole address
abbrev pub whole : Option ℕ → Option Mapped
whole n = option_map (λ a. mapped.Bound (addr_of a)) n

-- what the addresses that are given out port by port have for a flow
abbrev pub pat_value : Ports → Test → Flow → List PatSpan → Option Mapped
pat_value t keeps f spans = if has_ports f.proto then first_of (span_choice t keeps f) spans else None

-- the pool's value: the first address that this input and source have bound, else the first that nobody has bound, else a port
abbrev pub value : Ports → Test → Flow → Pool → Option Mapped
value t keeps f pool =
    option_or (whole (first_of (own_address t f) pool.nat))
    (option_or (whole (first_of (open_address t) pool.nat)) (pat_value t keeps f pool.pat))

-- whether an entry and a new one to `to` may hold one port: both are extended, and to different ends
abbrev pub may_share : Option (Addr × ℕ) → Held → Bool
may_share None h = false
may_share (Some end) h = not (same_end None h.to) && not (same_end (Some end) h.to)

-- whether a value is free: a port that no entry holds but such as may share it; an address that is bound by nobody else
abbrev pub is_untaken : Ports → Mapped → ℕ → ℕ → Addr → Bool
is_untaken t (mapped.Pat a n to) ifc proto src = list_all (λ h. not (is_at proto a n h) || may_share to h) t.held
is_untaken t (mapped.Bound a) ifc proto src = list_all (λ b. not (a.0 == b.addr.0) || same_binding (binding_of a ifc src) b) t.bound

-- whether a value may be taken: there is room, and it is free
abbrev pub fits : Ports → Mapped → ℕ → ℕ → Addr → Bool
fits t m ifc proto src = nat_lt (size t) t.room && is_untaken t m ifc proto src

-- whether a value is held
abbrev pub is_held : Ports → Mapped → ℕ → ℕ → Addr → Bool
is_held t (mapped.Pat a n to) ifc proto src = list_any (same_held (held_of proto a n to)) t.held
is_held t (mapped.Bound a) ifc proto src = list_any (same_binding (binding_of a ifc src)) t.bound

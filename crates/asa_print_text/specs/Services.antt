-- Ports and protocols as words of a printed line.
use Rattle.std.specs.Prelude.{ℕ, ◌+◌, ◌-◌, ◌<◌, ◌≤◌, ◌==◌, List, [], ◌∷◌, codes, decimal, Option, Some, None, if◌then◌else◌}
use Rattle.asa_base.specs.Ranges.{PortSpan}

-- one port as `eq P`, a longer range as `range P P`
abbrev pub span_words : PortSpan → List (List ℕ)
span_words s = if s.first == s.last then codes "eq" ∷ decimal s.first ∷ [] else codes "range" ∷ decimal s.first ∷ decimal s.last ∷ []

-- one range, or two as `neq P`
abbrev pub port_words : List PortSpan → List (List ℕ)
port_words [] = []
port_words (s ∷ []) = span_words s
port_words (s ∷ _ ∷ _) = codes "neq" ∷ decimal (s.last + 1) ∷ []

-- the ports that a line can state: one range, or all ports but one
pub data CanSpans : List PortSpan → Type 0 where
  One : (s : PortSpan) → s.first ≤ s.last → s.last ≤ 65535 → CanSpans (s ∷ [])
  AllBut : (p : ℕ) → 0 < p → p < 65535 → CanSpans (record { first = 0; last = p - 1 } ∷ record { first = p + 1; last = 65535 } ∷ [])

-- a protocol that has its name in print, or its number
abbrev pub number_word : ℕ → List ℕ
number_word p =
    if p == 1 then codes "icmp"
    else (if p == 6 then codes "tcp"
    else (if p == 17 then codes "udp"
    else decimal p))

-- a protocol; `ip` is every protocol
abbrev pub protocol_word : Option ℕ → List ℕ
protocol_word None = codes "ip"
protocol_word (Some p) = number_word p

abbrev pub protocol_words : Option ℕ → List (List ℕ)
protocol_words protocol = protocol_word protocol ∷ []

-- every protocol, or one from 1 to 255
abbrev pub CanProtocol : Option ℕ → Type 0
CanProtocol None = Unit {0}
CanProtocol (Some p) = (1 ≤ p) × (p ≤ 255)

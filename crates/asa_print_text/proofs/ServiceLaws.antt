-- Printed ports and protocols are read back.
use Rattle.std.proofs.Common.{◌≡◌, ◌==◌, ℕ, ◌+◌, ◌-◌, ◌<◌, ◌≤◌, Bool, true, false, nat_le, List, [], ◌∷◌, ◌++◌, length, codes, decimal, Option, Some, None, Ok, refl, ap, sym, subst, ◌∙◌, arith}
use Rattle.std.proofs.lemmas.Bool.Decides.{nat_tests}
use Rattle.asa_text.specs.Readers.{word_at}
use Rattle.asa_text_names.specs.Tables.{protocol_names}
use Rattle.asa_text_names.specs.Numbers.{proto_of}
use Rattle.asa_base.specs.Ranges.{PortSpan, only_port}
use Rattle.asa_base.specs.Readers.{protocol_at, ports_at, ports_by, ports_below, ports_above, port_span_at}
use Rattle.asa_print_text.specs.Spelling.{left_of}
use Rattle.asa_print_text.specs.Backs.{Spells}
use Rattle.asa_print_text.specs.Services.{span_words, port_words, CanSpans, number_word, protocol_word, CanProtocol}
use Rattle.asa_print_text.specs.Services.CanSpans.{One, AllBut}
use Rattle.asa_print_text.proofs.DigitLaws.{no_length, decimal_digits, number_decimal, number_no_word}
use Rattle.asa_print_text.proofs.ReaderLaws.{port_here}

-- the word that says how ports are stated
to_one : (n end : ℕ) (ws : List (List ℕ)) → ports_at (left_of n end (codes "eq" ∷ ws)) ≡ ports_by (λ p. only_port p ∷ []) (left_of (n + 2 + 1) end ws)
unfolding ports_at word_at
to_one n end ws = refl

to_range : (n end : ℕ) (ws : List (List ℕ)) → ports_at (left_of n end (codes "range" ∷ ws)) ≡ port_span_at (left_of (n + 5 + 1) end ws)
unfolding ports_at word_at
to_range n end ws = refl

to_others : (n end : ℕ) (ws : List (List ℕ)) → ports_at (left_of n end (codes "neq" ∷ ws)) ≡ ports_by (λ p. ports_below p ++ ports_above p) (left_of (n + 3 + 1) end ws)
unfolding ports_at word_at
to_others n end ws = refl

one_here : (n end p : ℕ) (ws : List (List ℕ)) → p ≤ 65535
    → ports_by (λ p. only_port p ∷ []) (left_of n end (decimal p ∷ ws)) ≡ Ok (only_port p ∷ [], left_of (n + length (decimal p) + 1) end ws)
one_here n end p ws h = rw (port_here n end p ws h)

range_here : (n end first last : ℕ) (ws : List (List ℕ)) → first ≤ 65535 → last ≤ 65535 → nat_le first last ≡ true
    → port_span_at (left_of n end (decimal first ∷ decimal last ∷ ws))
    ≡ Ok (record { first = first; last = last } ∷ [], left_of (n + length (decimal first) + 1 + length (decimal last) + 1) end ws)
unfolding port_span_at
range_here n end first last ws h h2 low =
    rw (port_here n end first (decimal last ∷ ws) h, port_here (n + length (decimal first) + 1) end last ws h2, low)

all_but : (p : ℕ) → (p == 0) ≡ false → (p == 65535) ≡ false
    → ports_below p ++ ports_above p ≡ record { first = 0; last = p - 1 } ∷ record { first = p + 1; last = 65535 } ∷ []
all_but p least greatest = rw (least, greatest)

others_here : (n end p : ℕ) (ws : List (List ℕ)) → p ≤ 65535 → (p == 0) ≡ false → (p == 65535) ≡ false
    → ports_by (λ p. ports_below p ++ ports_above p) (left_of n end (decimal p ∷ ws))
    ≡ Ok (record { first = 0; last = p - 1 } ∷ record { first = p + 1; last = 65535 } ∷ [], left_of (n + length (decimal p) + 1) end ws)
others_here n end p ws h least greatest = rw (port_here n end p ws h, all_but p least greatest)

is_least : (a b : ℕ) → a ≤ b → nat_le a b ≡ true
is_least a b h = grind (arith, nat_tests)

is_other : (a b : ℕ) → a < b → ((a == b) ≡ false) × ((b == a) ≡ false)
is_other a b h = (grind (arith, nat_tests), grind (arith, nat_tests))

same_number : (a b : ℕ) → (a == b) ≡ true → a ≡ b
same_number a b h = grind (arith, nat_tests)

-- one range, by whether it has one port
span_back : (s : PortSpan) → s.first ≤ s.last → s.last ≤ 65535 → (t : Bool) → (s.first == s.last) ≡ t → Spells ports_at (span_words s) (s ∷ [])
span_back s low high true one n end ws =
    let same : s.first ≡ s.last = same_number s.first s.last one in (
      n + 2 + 1 + length (decimal s.first) + 1,
      rw (one, to_one n end (decimal s.first ∷ ws), one_here (n + 2 + 1) end s.first ws (omega arith))
          (ap (λ k. Ok (record { first = s.first; last = k } ∷ [], left_of (n + 2 + 1 + length (decimal s.first) + 1) end ws)) same),
    )
span_back s low high false more n end ws = (
  n + 5 + 1 + length (decimal s.first) + 1 + length (decimal s.last) + 1,
  rw (more, to_range n end (decimal s.first ∷ decimal s.last ∷ ws))
      (range_here (n + 5 + 1) end s.first s.last ws (omega arith) high (is_least s.first s.last low)),
)

others_back : (p : ℕ) → 0 < p → p < 65535
    → Spells ports_at (codes "neq" ∷ decimal p ∷ []) (record { first = 0; last = p - 1 } ∷ record { first = p + 1; last = 65535 } ∷ [])
others_back p low high n end ws = (
  n + 3 + 1 + length (decimal p) + 1,
  to_others n end (decimal p ∷ ws)
      ∙ others_here (n + 3 + 1) end p ws (omega arith) (is_other 0 p low).1 (is_other p 65535 high).0,
)

others_words : (p : ℕ) → 0 < p → port_words (record { first = 0; last = p - 1 } ∷ record { first = p + 1; last = 65535 } ∷ []) ≡ codes "neq" ∷ decimal p ∷ []
others_words p h =
    let back : p - 1 + 1 ≡ p = omega arith in
    rw back

-- printed ports are read as those ports
pub ports_back : (spans : List PortSpan) → CanSpans spans → Spells ports_at (port_words spans) spans
ports_back _ (One s low high) = span_back s low high (s.first == s.last) refl
ports_back _ (AllBut p low high) =
    subst (λ front. Spells ports_at front (record { first = 0; last = p - 1 } ∷ record { first = p + 1; last = 65535 } ∷ []))
    (sym (others_words p low)) (others_back p low high)

-- a number that has no name in print
number_back : (p : ℕ) → 1 ≤ p → p ≤ 255 → proto_of (decimal p) ≡ Ok (Some p)
unfolding proto_of
number_back p low high =
    rw (number_no_word p (codes "ip") (omega arith) refl, no_length p (omega arith), decimal_digits p (omega arith), number_decimal 1 255 p low high (omega arith))

named_back : (p : ℕ) → 1 ≤ p → p ≤ 255 → (icmp tcp udp : Bool) → (p == 1) ≡ icmp → (p == 6) ≡ tcp → (p == 17) ≡ udp → proto_of (number_word p) ≡ Ok (Some p)
unfolding proto_of protocol_names
named_back p low high true tcp udp one six seventeen = rw one (ap (λ k. Ok (Some k)) (sym (same_number p 1 one)))
named_back p low high false true udp one six seventeen = rw (one, six) (ap (λ k. Ok (Some k)) (sym (same_number p 6 six)))
named_back p low high false false true one six seventeen = rw (one, six, seventeen) (ap (λ k. Ok (Some k)) (sym (same_number p 17 seventeen)))
named_back p low high false false false one six seventeen = rw (one, six, seventeen) (number_back p low high)

protocol_back : (protocol : Option ℕ) → CanProtocol protocol → proto_of (protocol_word protocol) ≡ Ok protocol
unfolding proto_of
protocol_back None can = refl
protocol_back (Some p) can = named_back p can.0 can.1 (p == 1) (p == 6) (p == 17) refl refl refl

-- a printed protocol is read as that protocol
pub protocol_here : (n end : ℕ) (protocol : Option ℕ) (ws : List (List ℕ)) → CanProtocol protocol
    → protocol_at (left_of n end (protocol_word protocol ∷ ws)) ≡ Ok (protocol, left_of (n + length (protocol_word protocol) + 1) end ws)
unfolding protocol_at word_at
protocol_here n end protocol ws can = rw (protocol_back protocol can)

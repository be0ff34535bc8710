-- Each reader takes from a printed line the words that were printed for it, and leaves those behind them.
use Rattle.std.proofs.Common.{◌≡◌, ℕ, ◌+◌, ◌<◌, ◌≤◌, ◌^◌, true, nat_le, List, [], ◌∷◌, length, codes, decimal, Option, Some, Ok, refl, arith}
use Rattle.std.specs.List.{list_any}
use Rattle.std.proofs.lemmas.Bool.{and_parts}
use Rattle.std.proofs.lemmas.Bool.Decides.{nat_tests}
use Rattle.asa_text.specs.declared.numbers.Addr.{Addr}
use Rattle.asa_text.specs.Printed.{dotted}
use Rattle.asa_text.specs.Readers.{word_at, keyword_at, number_at, address_at, mask_at, end_at}
use Rattle.asa_text_names.specs.Numbers.{port_of, icmp_type_of}
use Rattle.asa_base.specs.declared.kinds.Kind.{Kind}
use Rattle.asa_base.specs.Kinds.{Known}
use Rattle.asa_base.specs.Names.{is_name, name_at}
use Rattle.asa_base.specs.Networks.{Network, is_prefix, zero_or_address_at, zero_or_mask_at, network_at, route_network_at}
use Rattle.asa_base.specs.Readers.{port_word_at, icmp_type_at, icmp_code_at, interface_at, same_kind, named_at}
use Rattle.asa_print_text.specs.Words.{mask_addr}
use Rattle.asa_print_text.specs.Spelling.{left_of}
use Rattle.asa_print_text.proofs.ByteLaws.{bytes_same}
use Rattle.asa_print_text.proofs.DigitLaws.{no_length, decimal_digits, number_decimal}
use Rattle.asa_print_text.proofs.AddressLaws.{address_dotted, mask_dotted, no_colon, dotted_no_word, mask_no_word}

pub word_here : (n end : ℕ) (w : List ℕ) (ws : List (List ℕ)) → word_at (left_of n end (w ∷ ws)) ≡ Ok (record { column = n; word = w }, left_of (n + length w + 1) end ws)
unfolding word_at
word_here n end w ws = refl

pub keyword_here : (n end : ℕ) (w : List ℕ) (ws : List (List ℕ)) → keyword_at w (left_of n end (w ∷ ws)) ≡ Ok (tt, left_of (n + length w + 1) end ws)
unfolding keyword_at word_at
keyword_here n end w ws = rw (bytes_same w)

pub end_here : (n end : ℕ) → end_at (left_of n end []) ≡ Ok (tt, left_of n end [])
unfolding end_at
end_here n end = refl

pub number_here : (n end least greatest k : ℕ) (ws : List (List ℕ)) → least ≤ k → k ≤ greatest → k < 2 ^ 64
    → number_at least greatest (left_of n end (decimal k ∷ ws)) ≡ Ok (k, left_of (n + length (decimal k) + 1) end ws)
unfolding number_at word_at
number_here n end least greatest k ws low high small = rw (number_decimal least greatest k low high small)

pub address_here : (n end : ℕ) (a : Addr) (ws : List (List ℕ)) → a.0 < 2 ^ 32
    → address_at (left_of n end (dotted a ∷ ws)) ≡ Ok (a, left_of (n + length (dotted a) + 1) end ws)
unfolding address_at word_at
address_here n end a ws h = rw (no_colon a h, address_dotted a h)

pub mask_here : (n end len : ℕ) (ws : List (List ℕ)) → len ≤ 32
    → mask_at (left_of n end (dotted (mask_addr len) ∷ ws)) ≡ Ok (len, left_of (n + length (dotted (mask_addr len)) + 1) end ws)
unfolding mask_at word_at
mask_here n end len ws h = rw (mask_dotted len h)

pub name_here : (n end : ℕ) (w : List ℕ) (ws : List (List ℕ)) → is_name w ≡ true
    → name_at (left_of n end (w ∷ ws)) ≡ Ok (w, left_of (n + length w + 1) end ws)
unfolding name_at word_at
name_here n end w ws h = rw h

pub interface_here : (interface_of : List ℕ → Option ℕ) (n end : ℕ) (w : List ℕ) (ws : List (List ℕ)) (k : ℕ) → is_name w ≡ true → interface_of w ≡ Some k
    → interface_at interface_of (left_of n end (w ∷ ws)) ≡ Ok (k, left_of (n + length w + 1) end ws)
unfolding interface_at name_at word_at
interface_here interface_of n end w ws k h found = rw (h, found)

pub named_here : (known : Known) (kinds : List Kind) (n end : ℕ) (w : List ℕ) (ws : List (List ℕ)) (k : Kind)
    → is_name w ≡ true → known.kind_of w ≡ Some k → list_any (same_kind k) kinds ≡ true
    → named_at known kinds (left_of n end (w ∷ ws)) ≡ Ok ((w, k), left_of (n + length w + 1) end ws)
unfolding named_at name_at word_at
named_here known kinds n end w ws k h found one = rw (h, found, one)

prefix_len : (a len : ℕ) → is_prefix a len ≡ true → len ≤ 32
prefix_len a len h = few len (and_parts _ _ h).0
  where
    few : (len : ℕ) → nat_le len 32 ≡ true → len ≤ 32
    few len h = grind (arith, nat_tests)

pub network_here : (n end : ℕ) (p : Network) (ws : List (List ℕ)) → p.addr.0 < 2 ^ 32 → is_prefix p.addr.0 p.len ≡ true
    → network_at (left_of n end (dotted p.addr ∷ dotted (mask_addr p.len) ∷ ws))
    ≡ Ok (p, left_of (n + length (dotted p.addr) + 1 + length (dotted (mask_addr p.len)) + 1) end ws)
unfolding network_at
network_here n end p ws small whole =
    rw (
      address_here n end p.addr (dotted (mask_addr p.len) ∷ ws) small,
      mask_here (n + length (dotted p.addr) + 1) end p.len ws (prefix_len p.addr.0 p.len whole),
      whole,
    )

pub zero_or_address_here : (n end : ℕ) (a : Addr) (ws : List (List ℕ)) → a.0 < 2 ^ 32
    → zero_or_address_at (left_of n end (dotted a ∷ ws)) ≡ Ok (a, left_of (n + length (dotted a) + 1) end ws)
unfolding zero_or_address_at
zero_or_address_here n end a ws h = rw (dotted_no_word a (codes "0") h refl, address_here n end a ws h)

pub zero_or_mask_here : (n end len : ℕ) (ws : List (List ℕ)) → len ≤ 32
    → zero_or_mask_at (left_of n end (dotted (mask_addr len) ∷ ws)) ≡ Ok (len, left_of (n + length (dotted (mask_addr len)) + 1) end ws)
unfolding zero_or_mask_at
zero_or_mask_here n end len ws h = rw (mask_no_word len (codes "0") h refl, mask_here n end len ws h)

pub route_network_here : (n end : ℕ) (p : Network) (ws : List (List ℕ)) → p.addr.0 < 2 ^ 32 → is_prefix p.addr.0 p.len ≡ true
    → route_network_at (left_of n end (dotted p.addr ∷ dotted (mask_addr p.len) ∷ ws))
    ≡ Ok (p, left_of (n + length (dotted p.addr) + 1 + length (dotted (mask_addr p.len)) + 1) end ws)
unfolding route_network_at
route_network_here n end p ws small whole =
    rw (
      zero_or_address_here n end p.addr (dotted (mask_addr p.len) ∷ ws) small,
      zero_or_mask_here (n + length (dotted p.addr) + 1) end p.len ws (prefix_len p.addr.0 p.len whole),
      whole,
    )

port_decimal : (k : ℕ) → k ≤ 65535 → port_of (decimal k) ≡ Ok k
unfolding port_of
port_decimal k h =
    rw (no_length k (omega arith), decimal_digits k (omega arith), number_decimal 0 65535 k (omega arith) h (omega arith))

pub port_here : (n end k : ℕ) (ws : List (List ℕ)) → k ≤ 65535
    → port_word_at (left_of n end (decimal k ∷ ws)) ≡ Ok (k, left_of (n + length (decimal k) + 1) end ws)
unfolding port_word_at word_at
port_here n end k ws h = rw (port_decimal k h)

type_decimal : (k : ℕ) → k ≤ 255 → icmp_type_of (decimal k) ≡ Ok k
unfolding icmp_type_of
type_decimal k h =
    rw (no_length k (omega arith), decimal_digits k (omega arith), number_decimal 0 255 k (omega arith) h (omega arith))

pub icmp_type_here : (n end k : ℕ) (ws : List (List ℕ)) → k ≤ 255
    → icmp_type_at (left_of n end (decimal k ∷ ws)) ≡ Ok (k, left_of (n + length (decimal k) + 1) end ws)
unfolding icmp_type_at word_at
icmp_type_here n end k ws h = rw (type_decimal k h)

pub icmp_code_here : (n end k : ℕ) (ws : List (List ℕ)) → k ≤ 255
    → icmp_code_at (left_of n end (decimal k ∷ ws)) ≡ Ok (k, left_of (n + length (decimal k) + 1) end ws)
icmp_code_here n end k ws h = number_here n end 0 255 k ws (omega arith) h (omega arith)

-- A printed route is read back.
use Rattle.std.proofs.Common.{◌≡◌, ℕ, ◌+◌, ◌<◌, ◌≤◌, ◌^◌, true, nat_le, List, [], ◌∷◌, length, codes, decimal, Ok, refl, arith}
use Rattle.std.proofs.lemmas.Bool.{and_parts}
use Rattle.std.proofs.lemmas.Bool.Decides.{nat_tests}
use Rattle.asa_text.specs.Printed.{dotted}
use Rattle.asa_text.specs.Readers.{end_at}
use Rattle.asa_base.specs.Networks.{is_prefix}
use Rattle.asa_ifaces.specs.declared.iface.RouteLine.{RouteLine}
use Rattle.asa_ifaces.specs.Answers.{value_read, of_text}
use Rattle.asa_ifaces.specs.Interfaces.{Interfaces, interface_of}
use Rattle.asa_ifaces.specs.Routes.{distance_at, route_end_at, route_line}
use Rattle.asa_print_text.specs.Words.{mask_addr, spaced}
use Rattle.asa_print_text.specs.Spelling.{all_plain, left_of}
use Rattle.asa_print_text.proofs.DigitLaws.{plain_decimal, number_no_word}
use Rattle.asa_print_text.proofs.AddressLaws.{plain_dotted, plain_mask}
use Rattle.asa_print_text.proofs.ReaderLaws.{keyword_here, interface_here, route_network_here, zero_or_address_here, number_here}
use Rattle.asa_print_text.proofs.NameLaws.{plain_name}
use Rattle.asa_print_net.specs.Routes.{route_words, CanRoute}
use Rattle.asa_print_net.proofs.LineLaws.{top_read}

distance_here : (n end d : ℕ) → 1 ≤ d → d ≤ 255 → distance_at (left_of n end (decimal d ∷ [])) ≡ Ok (d, left_of (n + length (decimal d) + 1) end [])
unfolding distance_at
distance_here n end d low high =
    rw (number_no_word d (codes "tunneled") (omega arith) refl, number_no_word d (codes "track") (omega arith) refl, number_here n end 1 255 d [] low high (omega arith))

route_here : (i : Interfaces) (n end : ℕ) (name : List ℕ) (r : RouteLine) → CanRoute i name r
    → value_read (route_line i (left_of n end (route_words name r))) ≡ Ok r
unfolding route_line route_end_at end_at
route_here i n end name r can =
    let last = decimal r.distance ∷ [] in
    let gateway = dotted r.gateway ∷ last in
    let network = dotted r.prefix.addr ∷ dotted (mask_addr r.prefix.len) ∷ gateway in
    let n1 = n + 5 + 1 in
    let n2 = n1 + length name + 1 in
    let n3 = n2 + length (dotted r.prefix.addr) + 1 + length (dotted (mask_addr r.prefix.len)) + 1 in
    let n4 = n3 + length (dotted r.gateway) + 1 in
    rw (
      keyword_here n end (codes "route") (name ∷ network),
      interface_here (interface_of i) n1 end name network r.ifc can.is_named can.leaves,
      route_network_here n2 end r.prefix gateway can.small can.whole,
      zero_or_address_here n3 end r.gateway last can.gateway,
      distance_here n4 end r.distance can.least can.greatest,
    )

at_most_32 : (len : ℕ) → nat_le len 32 ≡ true → len ≤ 32
at_most_32 len h = grind (arith, nat_tests)

few_ones : (a len : ℕ) → is_prefix a len ≡ true → len ≤ 32
few_ones a len h = at_most_32 len (and_parts _ _ h).0

route_plain : (i : Interfaces) (name : List ℕ) (r : RouteLine) → CanRoute i name r → all_plain (route_words name r) ≡ true
route_plain i name r can =
    rw (
      plain_name name can.is_named,
      plain_dotted r.prefix.addr can.small,
      plain_mask r.prefix.len (few_ones r.prefix.addr.0 r.prefix.len can.whole),
      plain_dotted r.gateway can.gateway,
      plain_decimal r.distance (small r.distance can.greatest),
    )
  where
    small : (d : ℕ) → d ≤ 255 → d < 2 ^ 64
    small d h = omega arith

-- the line of a route is read as that route
pub route_back : (i : Interfaces) (name : List ℕ) (r : RouteLine) → CanRoute i name r → of_text (route_line i) (spaced (route_words name r)) ≡ Ok r
route_back i name r can = top_read (route_line i) (route_words name r) r (route_plain i name r can) (λ end. route_here i 1 end name r can)

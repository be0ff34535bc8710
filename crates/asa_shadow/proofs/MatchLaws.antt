-- First matches over boxes and over their regions.
use Rattle.std.proofs.Common.{◌≡◌, ℕ, zero, suc, ◌+◌, ◌-◌, ◌<◌, ◌≤◌, Bool, true, false, not, ◌&&◌, ◌||◌, ◌==◌, nat_le, nat_lt, List, [], ◌∷◌, map, Option, Some, None, refl, sym, ap, ◌∙◌, arith}
use Rattle.std.specs.List.{list_any}
use Rattle.std.proofs.lemmas.Bool.Decides.{nat_tests}
use Rattle.asa_base.specs.Ranges.{span_holds, port_span_holds}
use Rattle.asa_base.specs.declared.flow.Packet.{Packet}
use Rattle.asa_base.specs.declared.boxes.LineBox.{LineBox}
use Rattle.asa_base.specs.Boxes.{box_holds, service_holds, unstated_or}
use Rattle.asa_shadow.specs.Regions.{has, holds, point_of, region_of, stated_or_from}
use Rattle.asa_shadow.specs.Matches.{box_at, is_first, is_first_box, IsInRange}

stated_has : (least n : ℕ) (stated : Option ℕ) → least ≤ n → n ≤ 255 → has (stated_or_from least stated) n ≡ unstated_or stated n
stated_has least n None from to = grind (arith, nat_tests)
stated_has least n (Some m) from to = grind (arith, nat_tests)

regroup : (a b c d e f g : Bool) → (a && (b && (c && (d && (e && (f && (g && true))))))) ≡ (a && b && (c && d && e && f && g))
regroup false b c d e f g = refl
regroup true false c d e f g = refl
regroup true true false d e f g = refl
regroup true true true false e f g = refl
regroup true true true true false f g = refl
regroup true true true true true false g = refl
regroup true true true true true true false = refl
regroup true true true true true true true = refl

-- a region has the packets of its box
region_holds : (b : LineBox) (p : Packet) → IsInRange p → holds (region_of b) (point_of p) ≡ box_holds b p
region_holds b p range =
    regroup (span_holds b.source p.src) (span_holds b.dest p.dst) (has (stated_or_from 1 b.service.proto) p.proto)
    (port_span_holds b.service.sport p.sport) (port_span_holds b.service.dport p.dport)
    (has (stated_or_from 0 b.service.itype) p.itype) (has (stated_or_from 0 b.service.icode) p.icode)
    ∙ ap (λ t. span_holds b.source p.src && span_holds b.dest p.dst && (t && port_span_holds b.service.sport p.sport && port_span_holds b.service.dport p.dport
    && has (stated_or_from 0 b.service.itype) p.itype && has (stated_or_from 0 b.service.icode) p.icode))
    (stated_has 1 p.proto b.service.proto range.proto_from range.proto_to)
    ∙ ap (λ t. span_holds b.source p.src && span_holds b.dest p.dst && (unstated_or b.service.proto p.proto && port_span_holds b.service.sport p.sport
    && port_span_holds b.service.dport p.dport && t && has (stated_or_from 0 b.service.icode) p.icode))
    (stated_has 0 p.itype b.service.itype (omega arith) range.itype_to)
    ∙ ap (λ t. span_holds b.source p.src && span_holds b.dest p.dst && (unstated_or b.service.proto p.proto && port_span_holds b.service.sport p.sport
    && port_span_holds b.service.dport p.dport && unstated_or b.service.itype p.itype && t))
    (stated_has 0 p.icode b.service.icode (omega arith) range.icode_to)

any_region : (test : ℕ → Bool) (bs : List LineBox) (p : Packet) → IsInRange p →
    list_any (λ b. test b.line && holds b.region (point_of p)) (map box_at bs) ≡ list_any (λ b. test b.line && box_holds b p) bs
any_region test [] p range = refl
any_region test (b ∷ bs) p range =
    ap (λ t. (test b.line && t) || list_any (λ b. test b.line && holds b.region (point_of p)) (map box_at bs)) (region_holds b p range)
    ∙ ap (λ t. (test b.line && box_holds b p) || t) (any_region test bs p range)

-- the first match over regions is that over boxes
pub first_regions : (bs : List LineBox) (line : ℕ) (p : Packet) → IsInRange p → is_first (map box_at bs) line p ≡ is_first_box bs line p
first_regions bs line p range =
    ap (λ t. t && not (list_any (λ b. nat_lt b.line line && holds b.region (point_of p)) (map box_at bs))) (any_region (λ n. n == line) bs p range)
    ∙ ap (λ t. list_any (λ b. (b.line == line) && box_holds b p) bs && not t) (any_region (λ n. nat_lt n line) bs p range)

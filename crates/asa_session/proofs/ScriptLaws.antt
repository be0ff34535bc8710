-- The packets of an accepted script.
use Rattle.std.proofs.Common.{◌≡◌, ℕ, ◌+◌, ◌≤◌, Bool, true, false, not, ◌&&◌, ◌==◌, if◌then◌else◌, List, [], ◌∷◌, ◌++◌, length, length-append, get_or, All, Option, Some, None, Ok, Err, refl, sym, ap, subst, ◌∙◌, ◌⊎◌, inl, inr, arith, codes, is_some}
use Rattle.std.proofs.lemmas.Bool.Decides.{nat_tests}
use Rattle.std.proofs.lemmas.List.Elements.{All-push}
use Rattle.std.proofs.lemmas.List.Quantifiers.{position-Some}
use Rattle.std.proofs.lemmas.Option.{slice_get-get_or}
use Rattle.asa_text.specs.declared.lines.Line.{Line}
use Rattle.asa_text.specs.declared.readers.LineFault.{LineFault}
use Rattle.asa_text.specs.Lines.{is_kept, is_indented}
use Rattle.asa_text.specs.Words.{Left, line_left}
use Rattle.asa_text.specs.Readers.{Read, ◌>>=◌, word_at, next_is, keyword_at, number_at, address_at, end_at}
use Rattle.asa_base.specs.Names.{name_at}
use Rattle.asa_base.specs.declared.flow.Packet.{Packet}
use Rattle.asa_ifaces.specs.declared.iface.Iface.{Iface}
use Rattle.asa_base.specs.Readers.{interface_at}
use Rattle.asa_ifaces.specs.Interfaces.{has_name, interface_of, is_named}
use Rattle.asa_config.specs.Settings.{Settings}
use Rattle.asa_session.specs.declared.session.SessionError.{SessionError}
use Rattle.asa_session.specs.Refusals.{and_then, unbuilt_script}
use Rattle.asa_session.specs.Scripts.{packet_line, lane_line, built_at, has_new_ends, with_packet, command_line, script_line, script_packets}
use Rattle.asa_session.proofs.StartupLaws.{and_then_ok, passed_test}

-- what was read before the rest
bind_ok : {X Y : Type 0} (r : Read X) (f : X × Left → Read Y) (y : Y × Left) → (r >>= f) ≡ Ok y → (x : X × Left) × (r ≡ Ok x) × (f x ≡ Ok y)
bind_ok (Ok x) f y e = (x, refl, e)
bind_ok (Err why) f y e = absurd (cc)

-- a reader's answer
abbrev gave : {X : Type 0} → X × Left → Read X
gave x = Ok x

same_value : {X : Type 0} (x y : X × Left) → gave x ≡ gave y → x.0 ≡ y.0
same_value x y e = let same : x ≡ y = cc in ap (λ z. z.0) same

passed_form : {X : Type 0} (b : Bool) (r : Read X) (why : LineFault) (x : X × Left) → (if b then r else Err why) ≡ Ok x → r ≡ Ok x
passed_form true r why x e = e
passed_form false r why x e = absurd (cc)

none_or_some : {X : Type 0} (o : Option X) → (o ≡ None) ⊎ ((x : X) × (o ≡ Some x))
none_or_some None = inl refl
none_or_some (Some x) = inr (x, refl)

-- stands for an element that isn't there
no_iface : Iface
no_iface = record { hardware = []; name = None; level = 0; addr = None; shutdown = false }

-- an interface that has a name is a named one
has_name_named : (name : List ℕ) (i : Iface) → has_name name i ≡ true → is_some i.name ≡ true
has_name_named name i h = elim (none_or_some i.name) [
  | inl none ↦ absurd (let e = rw none at h in cc)
  | inr some ↦ rw some.1 refl
]

named_place : (c : Settings) (name : List ℕ) (ifc : ℕ) → interface_of c.net name ≡ Some ifc → is_named c.net ifc ≡ true
named_place c name ifc e =
    let w = position-Some (has_name name) c.net.ifaces ifc no_iface e in
    let there = slice_get-get_or c.net.ifaces ifc no_iface w.0 in
    rw there (has_name_named name (get_or c.net.ifaces ifc no_iface) w.1)

-- the interface that a word names is a named one
interface_named : (c : Settings) (left : Left) (ifc : ℕ) (rest : Left) → interface_at (interface_of c.net) left ≡ Ok (ifc, rest) → is_named c.net ifc ≡ true
unfolding interface_at
interface_named c left ifc rest e =
    let w = bind_ok (name_at left) _ (ifc, rest) e in
    let found = w.2 in
    elim (none_or_some (interface_of c.net w.0.0)) [
      | inl none ↦ absurd (let h = rw none at found in cc)
      | inr some ↦ (let h = rw some.1 at found in let same = same_value (some.0, w.0.1) (ifc, rest) h in named_place c w.0.0 ifc (some.1 ∙ ap Some same))
    ]

-- so is that of a packet line
packet_named : (c : Settings) (left : Left) (p : Packet) (rest : Left) → packet_line c left ≡ Ok (p, rest) → is_named c.net p.ifc ≡ true
unfolding packet_line
packet_named c left p rest e =
    let w1 = bind_ok (keyword_at (codes "packet") left) _ (p, rest) e in
    let w2 = bind_ok (interface_at (interface_of c.net) w1.0.1) _ (p, rest) w1.2 in
    let w3 = bind_ok (keyword_at (codes "tcp") w2.0.1) _ (p, rest) w2.2 in
    let w4 = bind_ok (address_at w3.0.1) _ (p, rest) w3.2 in
    let w5 = bind_ok (number_at 0 65535 w4.0.1) _ (p, rest) w4.2 in
    let w6 = bind_ok (address_at w5.0.1) _ (p, rest) w5.2 in
    let w7 = bind_ok (number_at 0 65535 w6.0.1) _ (p, rest) w6.2 in
    let w8 = bind_ok (keyword_at (codes "S") w7.0.1) _ (p, rest) w7.2 in
    let w9 = bind_ok (end_at w8.0.1) _ (p, rest) w8.2 in
    let same = ap (λ (q : Packet). q.ifc) (same_value _ (p, rest) w9.2) in
    subst (λ i. is_named c.net i ≡ true) same (interface_named c w1.0.1 w2.0.0 w2.0.1 w2.1)

built_ok : {X : Type 0} (n : ℕ) (r : Read X) (x : X) → built_at n r ≡ Ok x → (rest : Left) × (r ≡ Ok (x, rest))
built_ok n (Ok read) x e = let same : read.0 ≡ x = cc in (read.1, ap (λ y. Ok (y, read.1)) same)
built_ok n (Err why) x e = absurd (cc)

-- the packets are those of before, or one more that comes in on a named interface
abbrev Gains : Settings → List Packet → List Packet → Type 0
Gains c earlier packets = (packets ≡ earlier)
    ⊎ ((p : Packet) × (packets ≡ earlier ++ p ∷ []) × (is_named c.net p.ifc ≡ true) × ((length earlier == 8192) ≡ false))

fits_and : {X : Type 0} (full new : Bool) (x y : X) (why : SessionError) → (if not full && new then Ok x else Err why) ≡ Ok y → (full ≡ false) × (y ≡ x)
fits_and true new x y why e = absurd (cc)
fits_and false true x y why e = (refl, cc)
fits_and false false x y why e = absurd (cc)

command_gains : (c : Settings) (earlier : List Packet) (n : ℕ) (left : Left) (packets : List Packet) → command_line c earlier n left ≡ Ok packets → Gains c earlier packets
unfolding command_line
command_gains c earlier n left packets e = by (next_is (codes "lane") left) (next_is (codes "packet") left) e
  where
    by : (lane packet : Bool) → (if lane then and_then (built_at n (lane_line left)) (λ _. Ok earlier)
        else (if packet then and_then (built_at n (packet_line c left)) (with_packet n earlier) else unbuilt_script n)) ≡ Ok packets → Gains c earlier packets
    by true packet e = let w = and_then_ok (built_at n (lane_line left)) (λ _. Ok earlier) packets e in inl (let same : packets ≡ earlier = cc in same)
    by false true e =
        let w = and_then_ok (built_at n (packet_line c left)) (with_packet n earlier) packets e in
        let r = built_ok n (packet_line c left) w.0 w.1 in
        let f = fits_and (length earlier == 8192) (has_new_ends earlier w.0) (earlier ++ w.0 ∷ []) packets _ w.2 in
        inr (w.0, f.1, packet_named c left w.0 r.0 r.1, f.0)
    by false false e = absurd (cc)

line_gains : (c : Settings) (earlier : List Packet) (l : Line) (packets : List Packet) → script_line c earlier l ≡ Ok packets → Gains c earlier packets
unfolding script_line
line_gains c earlier l packets e = by (is_kept l) (is_indented l) e
  where
    by : (kept indented : Bool) → (if not kept then Ok earlier else (if indented then unbuilt_script l.number
        else command_line c earlier l.number (line_left l.text))) ≡ Ok packets → Gains c earlier packets
    by false indented e = inl (let same : packets ≡ earlier = cc in same)
    by true true e = absurd (cc)
    by true false e = command_gains c earlier l.number (line_left l.text) packets e

-- the packets of a script are few, and each comes in on a named interface
pub record AreCarried (c : Settings) (packets : List Packet) : Type 0 where
  pub few : length packets ≤ 8192
  pub named : All (λ p. is_named c.net p.ifc ≡ true) packets

gains_carried : (c : Settings) (earlier packets : List Packet) → AreCarried c earlier → Gains c earlier packets → AreCarried c packets
gains_carried c earlier packets known (inl same) = subst (AreCarried c) (sym same) known
gains_carried c earlier packets known (inr more) = subst (AreCarried c) (sym more.1) (record {
  few = let below = known.few in let full = more.3 in simp length-append (grind (arith, nat_tests));
  named = All-push (λ p. is_named c.net p.ifc ≡ true) earlier more.0 known.named more.2;
})

pub script_carried : (c : Settings) (n : ℕ) (earlier : List Packet) (ls : List Line) (packets : List Packet) → AreCarried c earlier → script_packets c n earlier ls ≡ Ok packets → AreCarried c packets
script_carried c n earlier [] packets known e = let same : earlier ≡ packets = cc in subst (AreCarried c) same known
script_carried c n earlier (l ∷ ls) packets known e =
    let t = passed_test (n == 262144) _ (and_then (script_line c earlier l) (λ next. script_packets c (n + 1) next ls)) packets e in
    let w = and_then_ok (script_line c earlier l) (λ next. script_packets c (n + 1) next ls) packets t.1 in
    script_carried c (n + 1) w.0 ls packets (gains_carried c earlier w.0 known (line_gains c earlier l w.0 w.1)) w.2

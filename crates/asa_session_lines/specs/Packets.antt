-- The packets of `packet` and `packet-tracer` lines: the form of the line first, then its interface, then its numbers.
use Rattle.std.specs.Prelude.{ℕ, ◌+◌, Bool, ◌&&◌, ◌||◌, ◌==◌, List, codes, length, Option, Some, None, Ok, Err, if◌then◌else◌}
use Rattle.asa_text.specs.declared.numbers.Addr.{Addr}
use Rattle.asa_text.specs.Words.{Spelled}
use Rattle.asa_base.specs.Kinds.{Known}
use Rattle.asa_base.specs.declared.flow.Packet.{Packet}
use Rattle.asa_session_lines.specs.declared.line.ScriptFault.TheVariants.{Syntax, BadNumber}
use Rattle.asa_session_lines.specs.declared.packet.Ends.{Ends}
use Rattle.asa_session_lines.specs.Flags.{flags_of}
use Rattle.asa_session_lines.specs.Words.{Judged, ◌>>=◌, text_at, word_is, number_at, address_at, interface_at}

-- this, where the line has so many words
abbrev pub of_words : {X : Type 0} → ℕ → List Spelled → Judged X → Judged X
of_words count ws more = if length ws == count then more else Err Syntax

-- `A SPORT A DPORT` from a place on
unfoldable pub ends_at : List Spelled → ℕ → Judged Ends
ends_at ws place = do
  src ← address_at ws place
  sport ← number_at ws (place + 1) 0 65535
  dst ← address_at ws (place + 2)
  dport ← number_at ws (place + 3) 0 65535
  Ok (record { src = src; sport = sport; dst = dst; dport = dport })

-- `I tcp A SPORT A DPORT`, or the same of udp, from a place on
unfoldable pub with_ports : Known → List Spelled → ℕ → ℕ → ℕ → Judged Packet
with_ports known ws place proto flags = do
  ifc ← interface_at known ws place
  ends ← ends_at ws (place + 2)
  Ok (record {
    ifc = ifc;
    proto = proto;
    src = ends.src;
    sport = ends.sport;
    dst = ends.dst;
    dport = ends.dport;
    flags = flags;
    itype = 0;
    icode = 0;
  })

-- `I icmp A TYPE CODE ID A` from a place on: the identifier of an echo reply is its destination port, of any other packet
-- its source port
unfoldable pub icmp_at : Known → List Spelled → ℕ → Judged Packet
icmp_at known ws place = do
  ifc ← interface_at known ws place
  src ← address_at ws (place + 2)
  itype ← number_at ws (place + 3) 0 255
  icode ← number_at ws (place + 4) 0 255
  id ← number_at ws (place + 5) 0 65535
  dst ← address_at ws (place + 6)
  Ok (record {
    ifc = ifc;
    proto = 1;
    src = src;
    sport = if itype == 0 then 0 else id;
    dst = dst;
    dport = if itype == 0 then id else 0;
    flags = 0;
    itype = itype;
    icode = icode;
  })

-- a protocol without a form of its own
abbrev pub is_other : ℕ → Judged ℕ
is_other proto = if (proto == 1) || (proto == 6) || (proto == 17) then Err BadNumber else Ok proto

-- the number of such a protocol, 1 to 255
abbrev pub other_protocol : List Spelled → ℕ → Judged ℕ
other_protocol ws place = number_at ws place 1 255 >>= is_other

-- `I PROTO A A` from a place on
unfoldable pub other_at : Known → List Spelled → ℕ → Judged Packet
other_at known ws place = do
  ifc ← interface_at known ws place
  proto ← other_protocol ws (place + 1)
  src ← address_at ws (place + 2)
  dst ← address_at ws (place + 3)
  Ok (record { ifc = ifc; proto = proto; src = src; sport = 0; dst = dst; dport = 0; flags = 0; itype = 0; icode = 0 })

-- the TCP packet with these flags
abbrev pub with_flags : Known → List Spelled → Option ℕ → Judged Packet
with_flags known ws None = Err Syntax
with_flags known ws (Some flags) = of_words 8 ws (with_ports known ws 1 6 flags)

-- `packet I tcp A SPORT A DPORT FLAGS`
unfoldable pub tcp_line : Known → List Spelled → Judged Packet
tcp_line known ws = with_flags known ws (flags_of (text_at ws 7))

-- `packet ..`, by the word of the protocol
unfoldable pub packet_line : Known → List Spelled → Judged Packet
packet_line known ws =
    if word_is ws 2 (codes "tcp") then tcp_line known ws
    else (if word_is ws 2 (codes "udp") then of_words 7 ws (with_ports known ws 1 17 0)
    else (if word_is ws 2 (codes "icmp") then of_words 8 ws (icmp_at known ws 1)
    else of_words 5 ws (other_at known ws 1)))

-- what follows `packet-tracer input`; the flags of a TCP packet are `S`
unfoldable pub input_line : Known → List Spelled → Judged Packet
input_line known ws =
    if word_is ws 3 (codes "tcp") && (length ws == 8) then with_ports known ws 2 6 1
    else (if word_is ws 3 (codes "udp") && (length ws == 8) then with_ports known ws 2 17 0
    else (if word_is ws 3 (codes "icmp") && (length ws == 9) then icmp_at known ws 2
    else Err Syntax))

-- `packet-tracer input ..`
unfoldable pub traced_line : Known → List Spelled → Judged Packet
traced_line known ws = if word_is ws 1 (codes "input") then input_line known ws else Err Syntax

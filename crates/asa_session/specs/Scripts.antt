-- The script: the lines after the startup part, `lane 1` and `packet I tcp A SPORT A DPORT S`. A script line is built
-- where one of these readers reads it whole.
use Rattle.std.specs.Prelude.{ℕ, ◌+◌, Bool, not, ◌&&◌, ◌||◌, ◌==◌, List, [], ◌∷◌, ◌++◌, length, codes, Result, Ok, Err, if◌then◌else◌}
use Rattle.std.specs.List.{list_any}
use Rattle.asa_text.specs.declared.lines.Line.{Line}
use Rattle.asa_text.specs.declared.numbers.Addr.{Addr}
use Rattle.asa_text.specs.Lines.{is_kept, is_indented}
use Rattle.asa_text.specs.Words.{Left, line_left}
use Rattle.asa_text.specs.Readers.{Read, ◌>>=◌, next_is, keyword_at, number_at, address_at, end_at}
use Rattle.asa_base.specs.declared.flow.Packet.{Packet}
use Rattle.asa_base.specs.Readers.{interface_at}
use Rattle.asa_ifaces.specs.Interfaces.{interface_of}
use Rattle.asa_config.specs.Settings.{Settings}
use Rattle.asa_session.specs.declared.session.SessionError.{SessionError}
use Rattle.asa_session.specs.Refusals.{and_then, unbuilt_script}

-- `packet I tcp A SPORT A DPORT S`
unfoldable pub packet_line : Settings → Left → Read Packet
packet_line c left = do
  (_, left) ← keyword_at (codes "packet") left
  (ifc, left) ← interface_at (interface_of c.net) left
  (_, left) ← keyword_at (codes "tcp") left
  (src, left) ← address_at left
  (sport, left) ← number_at 0 65535 left
  (dst, left) ← address_at left
  (dport, left) ← number_at 0 65535 left
  (_, left) ← keyword_at (codes "S") left
  (_, left) ← end_at left
  Ok (record { ifc = ifc; proto = 6; src = src; sport = sport; dst = dst; dport = dport; flags = 1; itype = 0; icode = 0 }, left)

-- `lane 1`
unfoldable pub lane_line : Left → Read (Unit {0})
lane_line left = do
  (_, left) ← keyword_at (codes "lane") left
  (_, left) ← keyword_at (codes "1") left
  end_at left

-- what a reader gave of the line with this number, where the line is built
abbrev pub built_at : {X : Type 0} → ℕ → Read X → Result X SessionError
built_at n (Ok read) = Ok read.0
built_at n (Err _) = unbuilt_script n

-- an end of a flow
abbrev pub same_end : Addr → ℕ → Addr → ℕ → Bool
same_end a port b other = (a.0 == b.0) && (port == other)

-- two packets have the same two ends, in either order
abbrev pub same_ends : Packet → Packet → Bool
same_ends p q = (same_end p.src p.sport q.src q.sport && same_end p.dst p.dport q.dst q.dport)
    || (same_end p.dst p.dport q.src q.sport && same_end p.src p.sport q.dst q.dport)

-- the packet's ends differ, and no earlier packet has the same two
abbrev pub has_new_ends : List Packet → Packet → Bool
has_new_ends earlier p = not (same_end p.src p.sport p.dst p.dport) && not (list_any (same_ends p) earlier)

-- the packets with that of line n; the 8,193rd isn't built, nor is one without new ends
abbrev pub with_packet : ℕ → List Packet → Packet → Result (List Packet) SessionError
with_packet n earlier p = if not (length earlier == 8192) && has_new_ends earlier p then Ok (earlier ++ p ∷ []) else unbuilt_script n

-- the packets after a line that says something, from its words
unfoldable pub command_line : Settings → List Packet → ℕ → Left → Result (List Packet) SessionError
command_line c earlier n left =
    if next_is (codes "lane") left then and_then (built_at n (lane_line left)) (λ _. Ok earlier)
    else (if next_is (codes "packet") left then and_then (built_at n (packet_line c left)) (with_packet n earlier)
    else unbuilt_script n)

-- the packets after a line of the script
unfoldable pub script_line : Settings → List Packet → Line → Result (List Packet) SessionError
script_line c earlier l =
    if not (is_kept l) then Ok earlier
    else (if is_indented l then unbuilt_script l.number
    else command_line c earlier l.number (line_left l.text))

-- the packets after lines, of which n came before; the 262,145th isn't built
abbrev pub script_packets : Settings → ℕ → List Packet → List Line → Result (List Packet) SessionError
script_packets c n earlier [] = Ok earlier
script_packets c n earlier (l ∷ ls) = if n == 262144 then unbuilt_script l.number
    else and_then (script_line c earlier l) (λ packets. script_packets c (n + 1) packets ls)

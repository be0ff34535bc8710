-- What holds of each session that a text gives.
use Rattle.std.proofs.Common.{◌≡◌, ℕ, suc, ◌+◌, ◌≤◌, true, List, [], ◌∷◌, length, map, All, Ok, refl, sym, ap, subst, arith}
use Rattle.std.specs.List.{fold, range_with_len}
use Rattle.std.proofs.lemmas.List.{append-nil}
use Rattle.std.proofs.lemmas.List.Elements.{All-cons, All-head, All-tail}
use Rattle.asa_text.specs.declared.lines.Line.{Line}
use Rattle.asa_text.specs.declared.blocks.Block.{Block}
use Rattle.asa_base.specs.declared.flow.Packet.{Packet}
use Rattle.asa_config.specs.Settings.{Settings, nothing}
use Rattle.asa_config.specs.Steps.{startup_edit, after_edit, config_of}
use Rattle.asa_session.specs.declared.session.Command.{Command}
use Rattle.asa_session.specs.declared.session.Command.TheVariants as command
use Rattle.asa_session.specs.declared.session.Session.{Session}
use Rattle.asa_session.specs.Refusals.{and_then}
use Rattle.asa_session.specs.Openings.{opening_of}
use Rattle.asa_session.specs.Scripts.{script_packets}
use Rattle.asa_session.specs.Sessions.{commands_from, session_with, with_packets, session_of_lines}
use Rattle.asa_session.specs.StartupTexts.{silence, startup_of_lines}
use Rattle.asa_session.specs.Readiness.{IsReady, enters_named, commands_of}
use Rattle.asa_session.proofs.StartupLaws.{and_then_ok}
use Rattle.asa_session.proofs.OpeningLaws.{opening_configured}
use Rattle.asa_session.proofs.ScriptLaws.{AreCarried, script_carried}

length-commands_from : (i : ℕ) (ps : List Packet) → length (commands_from i ps) ≡ length ps
length-commands_from i [] = refl
length-commands_from i (p ∷ ps) = ap suc (length-commands_from (i + 1) ps)

indices : (i : ℕ) (ps : List Packet) → map (λ asked. asked.1) (commands_from i ps) ≡ range_with_len i (length (commands_from i ps))
indices i [] = refl
indices i (p ∷ ps) = ap (λ xs. i ∷ xs) (indices (i + 1) ps)

-- what holds of each packet holds of each command
each_command : (P : ℕ × ℕ × Command → Type 0) (i : ℕ) (ps : List Packet) → All (λ p. (k : ℕ) → P (1, k, command.Packet p)) ps → All P (commands_from i ps)
each_command P i [] each = λ k d below. absurd (omega (arith, below))
each_command P i (p ∷ ps) each =
    All-cons P _ (commands_from (i + 1) ps) (All-head (λ q. (k : ℕ) → P (1, k, command.Packet q)) p ps each i)
    (each_command P (i + 1) ps (All-tail (λ q. (k : ℕ) → P (1, k, command.Packet q)) p ps each))

-- the commands of a session of one lane are its packets
commands_of_session : (bs : List Block) (n : ℕ) (c : Settings) (ps : List Packet) → commands_of (session_with bs n c ps) ≡ commands_from 1 ps
commands_of_session bs n c [] = refl
commands_of_session bs n c (p ∷ ps) = append-nil (commands_from 1 (p ∷ ps))

-- no packets
none_carried : (c : Settings) → AreCarried c []
none_carried c = record { few = omega arith; named = λ k d below. absurd (omega (arith, below)) }

ready_with : (bs : List Block) (n : ℕ) (c : Settings) (ps : List Packet) → fold after_edit nothing (map startup_edit bs) ≡ c → AreCarried c ps → IsReady (session_with bs n c ps)
unfolding config_of
ready_with bs n c ps configured carried =
    let asked = commands_of_session bs n c ps in
    record {
      configured = sym configured;
      named = rw asked (each_command (λ a. enters_named c a.2 ≡ true) 1 ps (λ k d below h. carried.named k d below));
      one_lane = rw asked (each_command (λ a. a.0 ≡ 1) 1 ps (λ k d below h. refl));
      indices = rw asked (indices 1 ps);
      few_commands = rw (asked, length-commands_from) carried.few;
    }

-- a session whose packets are the script's
with_packets_ok : (kept : List Block) (n : ℕ) (c : Settings) (script : List Line) (s : Session) → with_packets kept n c script ≡ Ok s
    → (ps : List Packet) × AreCarried c ps × (session_with kept n c ps ≡ s)
with_packets_ok kept n c script s e =
    let w = and_then_ok (script_packets c 0 [] script) (λ ps. Ok (session_with kept n c ps)) s e in
    (w.0, script_carried c 0 [] script w.0 (none_carried c) w.1, (let same : session_with kept n c w.0 ≡ s = cc in same))

pub session_is_ready : (ls : List Line) (s : Session) → session_of_lines ls ≡ Ok s → IsReady s
unfolding session_of_lines
session_is_ready ls s e =
    let o = and_then_ok (opening_of ls) (λ o. with_packets o.kept o.passed o.config o.rest) s e in
    let w = with_packets_ok o.0.kept o.0.passed o.0.config o.0.rest s o.2 in
    subst IsReady w.2 (ready_with o.0.kept o.0.passed o.0.config w.0 (opening_configured ls o.0 o.1) w.1)

pub startup_is_ready : (ls : List Line) (s : Session) → startup_of_lines ls ≡ Ok s → IsReady s
unfolding startup_of_lines
startup_is_ready ls s e =
    let o = and_then_ok (opening_of ls) (λ o. and_then (silence 0 o.rest) (λ _. Ok (session_with o.kept o.passed o.config []))) s e in
    let w = and_then_ok (silence 0 o.0.rest) (λ _. Ok (session_with o.0.kept o.0.passed o.0.config [])) s o.2 in
    subst IsReady (let same : session_with o.0.kept o.0.passed o.0.config [] ≡ s = let e' = w.2 in cc in same)
    (ready_with o.0.kept o.0.passed o.0.config [] (opening_configured ls o.0 o.1) (none_carried o.0.config))

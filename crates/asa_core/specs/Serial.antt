-- The serial run of a session: the commands of each phase in order, each answered at the present state.
use Rattle.std.specs.Prelude.{ℕ, ◌+◌, List, [], ◌∷◌, ◌++◌, length, option_to_list}
use Rattle.std.specs.List.{fold}
use Rattle.asa_session.specs.declared.session.Command.{Command}
use Rattle.asa_session.specs.declared.session.PhaseText.{PhaseText}
use Rattle.asa_session.specs.declared.session.Session.{Session}
use Rattle.asa_core.specs.declared.history.Entry.{Entry}
use Rattle.asa_core.specs.declared.history.Answer.{Answer}
use Rattle.asa_core.specs.declared.history.Given.{Given}
use Rattle.asa_core.specs.declared.history.PhaseReport.{PhaseReport}
use Rattle.asa_core.specs.Machine.{Machine, init, reply, change_by, entry_of, changed}

-- a phase so far: the state, the entries that the history gained in the phase, and the answers
pub record Progress : Type 0 where
  pub machine : Machine
  pub entries : List Entry
  pub given : List Given

-- the start of a phase
abbrev pub started : Machine → Progress
started m = record { machine = m; entries = []; given = [] }

-- one command, after as many entries of earlier phases: its answer names the length of the history before its own entry
abbrev pub asked : ℕ → Progress → ℕ × ℕ × Command → Progress
asked before at placed = answered placed.0 placed.1 placed.2 (reply at.machine placed.2)
  where
    answered : ℕ → ℕ → Command → Answer → Progress
    answered lane index c a = record {
      machine = changed at.machine (change_by at.machine lane index c a);
      entries = at.entries ++ option_to_list (entry_of lane index a);
      given = at.given ++ record { lane = lane; index = index; number = before + length at.entries; answer = a } ∷ [];
    }

-- the commands of a phase in order
abbrev pub asked_all : ℕ → Progress → List (ℕ × ℕ × Command) → Progress
asked_all before at cs = fold (asked before) at cs

-- the report of a phase
abbrev pub report_of : Progress → PhaseReport
report_of at = record { entries = at.entries; given = at.given; table = [] }

-- the reports of the phases, of which the first starts at a state after as many entries
abbrev pub phases_run : Machine → ℕ → List PhaseText → List PhaseReport
phases_run m before [] = []
phases_run m before (phase ∷ more) =
    let after = asked_all before (started m) phase.commands in
    report_of after ∷ phases_run after.machine (before + length after.entries) more

-- the serial run of a session with room for 8,192 connections
unfoldable pub serial : Session → List PhaseReport
serial s = phases_run (init s 8192) 0 s.phases

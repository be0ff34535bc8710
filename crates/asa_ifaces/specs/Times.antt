-- `timeout ..`: each of the words `conn`, `half-closed`, `udp` and `icmp` is followed by a time `H:MM:SS`; every other
-- word is ignored.
use Rattle.std.specs.Prelude.{ℕ, ◌+◌, ◌*◌, ◌==◌, nat_le, List, [], ◌∷◌, length, codes, Option, Some, None, Result, Ok, Err, if◌then◌else◌}
use Rattle.std.specs.Str.{bytes_eq}
use Rattle.asa_text.specs.declared.lines.Line.{Line}
use Rattle.asa_text.specs.declared.numbers.WordFault.{WordFault}
use Rattle.asa_text.specs.declared.readers.LineFault.{LineFault}
use Rattle.asa_text.specs.declared.readers.LineFault.TheVariants.{Bad}
use Rattle.asa_text.specs.Words.{Left, Spelled}
use Rattle.asa_text.specs.Numbers.{number_of}
use Rattle.asa_text.specs.Runs.{runs_between}
use Rattle.asa_text.specs.Readers.{Read, ◌>>=◌, word_at, keyword_at}
use Rattle.asa_ifaces.specs.declared.iface.Timeouts.{Timeouts}
use Rattle.asa_ifaces.specs.declared.timeouts.Timed.{Timed}
use Rattle.asa_ifaces.specs.declared.timeouts.Timed.TheVariants.{Conn, HalfClosed, Udp, Icmp}
use Rattle.asa_ifaces.specs.Interfaces.{Interfaces}
use Rattle.asa_ifaces.specs.Answers.{of_line, and_then}

-- a number of a word, where it is one
abbrev pub some_number : Result ℕ WordFault → Option ℕ
some_number (Ok n) = Some n
some_number (Err _) = None

-- the number of a word, from 0 to this
abbrev pub number_to : ℕ → List ℕ → Option ℕ
number_to greatest run = some_number (number_of run 0 greatest)

-- hours: digits, 0 to 1193
abbrev pub hours_of : List ℕ → Option ℕ
hours_of run = number_to 1193 run

-- minutes or seconds: one or two digits, at most 59
abbrev pub sixtieths_of : List ℕ → Option ℕ
sixtieths_of run = if nat_le (length run) 2 then number_to 59 run else None

-- the seconds of hours, minutes and seconds
abbrev pub in_seconds : Option ℕ → Option ℕ → Option ℕ → Option ℕ
in_seconds None _ _ = None
in_seconds (Some h) None _ = None
in_seconds (Some h) (Some m) None = None
in_seconds (Some h) (Some m) (Some s) = Some (h * 3600 + m * 60 + s)

-- the runs of a word between its colons
abbrev pub colon_runs : List ℕ → List (List ℕ)
colon_runs word = runs_between 58 word

-- the seconds of three runs, which are hours, minutes and seconds
abbrev pub time_of_runs : List (List ℕ) → Option ℕ
time_of_runs [] = None
time_of_runs (_ ∷ []) = None
time_of_runs (_ ∷ _ ∷ []) = None
time_of_runs (h ∷ m ∷ s ∷ []) = in_seconds (hours_of h) (sixtieths_of m) (sixtieths_of s)
time_of_runs (_ ∷ _ ∷ _ ∷ _ ∷ _) = None

-- the seconds of a word `H:MM:SS`
unfoldable pub time_of : List ℕ → Option ℕ
time_of word = if length (colon_runs word) == 3 then time_of_runs (colon_runs word) else None

-- a time, or Bad at this column
abbrev pub time_or_bad : ℕ → Left → Option ℕ → Read ℕ
time_or_bad column left None = Err (Bad column)
time_or_bad column left (Some seconds) = Ok (seconds, left)

-- a time; a word that is none is Bad
unfoldable pub time_at : Left → Read ℕ
time_at left = word_at left >>= λ (w, rest). time_or_bad w.column rest (time_of w.word)

-- what a word sets the time of
unfoldable pub timed_of : List ℕ → Option Timed
timed_of word =
    if bytes_eq word (codes "conn") then Some Conn
    else (if bytes_eq word (codes "half-closed") then Some HalfClosed
    else (if bytes_eq word (codes "udp") then Some Udp
    else (if bytes_eq word (codes "icmp") then Some Icmp
    else None)))

-- the times after one is set
abbrev pub with_time : Timeouts → Timed → ℕ → Timeouts
with_time t Conn seconds = record t { conn = seconds }
with_time t HalfClosed seconds = record t { half_closed = seconds }
with_time t Udp seconds = record t { udp = seconds }
with_time t Icmp seconds = record t { icmp = seconds }

-- the line is at its end
abbrev pub ended : ℕ → Left
ended end = record { words = []; end = end }

-- the times after what a word sets: nothing, or the time that follows
abbrev pub after_timed : Timeouts → Left → Option Timed → Read Timeouts
after_timed t left None = Ok (t, left)
after_timed t left (Some timed) = time_at left >>= λ (seconds, rest). Ok (with_time t timed seconds, rest)

-- the times after a word
unfoldable pub after_word : Timeouts → List ℕ → Left → Read Timeouts
after_word t word left = after_timed t left (timed_of word)

-- a word that sets no time is passed over; one that does takes the time after it
abbrev pub passed_or_set : Option Timed → Read Timeouts → (Timed → Read Timeouts) → Read Timeouts
passed_or_set None passed set = passed
passed_or_set (Some timed) passed set = set timed

-- the times after the words that are left of a line with this end
unfoldable pub times_of : ℕ → Timeouts → List Spelled → Read Timeouts
times_of end t [] = Ok (t, ended end)
times_of end t (w ∷ []) = passed_or_set (timed_of w.word) (Ok (t, ended end)) (λ _. Err (Bad end))
times_of end t (w ∷ v ∷ more) = passed_or_set (timed_of w.word) (times_of end t (v ∷ more))
    (λ timed. time_at (record { words = v ∷ more; end = end }) >>= (λ (seconds, _). times_of end (with_time t timed seconds) more))

-- the same of what is left of a line
unfoldable pub times_at : Timeouts → Left → Read Timeouts
times_at t left = times_of left.end t left.words

-- a whole line `timeout ..`, where these are the times before it
unfoldable pub timeout_line : Timeouts → Left → Read Timeouts
timeout_line t left = do
  (_, left) ← keyword_at (codes "timeout") left
  times_at t left

-- what is configured with these times
abbrev pub with_times : Interfaces → Timeouts → Interfaces
with_times i t = record i { timeouts = t }

-- what is configured after a line `timeout ..`
unfoldable pub timeout_step : Interfaces → Line → Result Interfaces LineFault
timeout_step i l = and_then (of_line (timeout_line i.timeouts) l) (λ t. Ok (with_times i t))

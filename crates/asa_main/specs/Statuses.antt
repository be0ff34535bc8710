-- The exit status of the program, and the line that tells how a run ended.
use Rattle.std.specs.Prelude.{ℕ, List, [], codes}
use Rattle.asa_report.specs.Faults.{kind_text, refused_line, write_failed_line}
use Rattle.asa_main.specs.declared.statuses.Reason.{Reason}
use Rattle.asa_main.specs.declared.statuses.Reason.TheVariants as reason
use Rattle.asa_main.specs.declared.statuses.Status.{Status}
use Rattle.asa_main.specs.declared.statuses.Status.TheVariants as status

abbrev pub exit_code_of : Status → ℕ
exit_code_of status.Done = 0
exit_code_of (status.Refused _ _) = 1
exit_code_of status.Usage = 2
exit_code_of status.ReadFault = 3
exit_code_of (status.WriteFault _) = 4
exit_code_of status.Memory = 5

abbrev pub reason_text : Reason → List ℕ
reason_text (reason.Session kind) = kind_text kind
reason_text reason.TooLong = codes "too-long"

-- the line on standard error; for Done there is none
unfoldable pub status_text : Status → List ℕ
status_text status.Done = []
status_text (status.Refused line why) = refused_line line (reason_text why)
status_text status.Usage = codes "asa: usage: asa run [--conns N] | check | gen START SIZE | shadow\n"
status_text status.ReadFault = codes "asa: read failed\n"
status_text (status.WriteFault written) = write_failed_line written
status_text status.Memory = codes "asa: out of memory\n"

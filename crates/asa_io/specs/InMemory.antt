-- Sources and sinks in memory, which tell their bytes, and fail at the calls that they are made to fail at.
use Rattle.std.specs.Prelude.{ℕ, Bool, true, false, ◌-◌, ◌==◌, ◌||◌, if◌then◌else◌, nat_le, min, List, ◌++◌, length, take, drop, Result, Ok, Err}
use Rattle.std.specs.List.{list_any}
use Rattle.asa_io.specs.Faults.{one_more}
use Rattle.asa_io.specs.declared.traits.Failed.{Failed}

-- the numbers of the calls that are to fail, how many calls were made, and how many of them failed
pub record Calls : Type 0 where
  pub fail_at : List ℕ
  pub made : ℕ
  pub failed : ℕ

-- the next call, by its number, is one that is to fail
abbrev pub is_named : Calls → Bool
is_named calls = list_any (λ k. k == one_more calls.made) calls.fail_at

-- the calls after one more, which failed or didn't
abbrev pub after_call : Bool → Calls → Calls
after_call fails calls =
    record calls { made = one_more calls.made; failed = if fails then one_more calls.failed else calls.failed }

-- a source in memory: the bytes still to come, and its reads
pub record Input : Type 0 where
  pub left : List ℕ
  pub calls : Calls

-- a sink in memory: the bytes given, how many it takes, whether it was flushed since, and its writes and flushes
pub record Output : Type 0 where
  pub given : List ℕ
  pub room : ℕ
  pub flushed : Bool
  pub calls : Calls

-- a call fails, or answers this
abbrev pub fails_or : {T : Type 0} → Bool → T → Result T Failed
fails_or fails answer = if fails then Err (record {}) else Ok answer

-- a read into a piece of this size: its answer, and the source after it
abbrev pub read_answer : Input → ℕ → Result ℕ Failed
read_answer input size = fails_or (is_named input.calls) (min size (length input.left))

abbrev pub after_read : Input → ℕ → Input
after_read input size = record {
  left = if is_named input.calls then input.left else drop size input.left;
  calls = after_call (is_named input.calls) input.calls;
}

-- a write fails where it is to fail, and where the room is used up
abbrev pub write_fails : Output → Bool
write_fails output = is_named output.calls || nat_le output.room (length output.given)

-- a write of a piece: its answer, and the sink after it
abbrev pub write_answer : Output → List ℕ → Result ℕ Failed
write_answer output piece = fails_or (write_fails output) (min (length piece) (output.room - length output.given))

abbrev pub after_write : Output → List ℕ → Output
after_write output piece =
    record output {
      given = if write_fails output then output.given else output.given ++ take (output.room - length output.given) piece;
      flushed = if write_fails output then output.flushed else false;
      calls = after_call (write_fails output) output.calls;
    }

-- the sink after a flush
abbrev pub after_flush : Output → Output
after_flush output =
    record output {
      flushed = if is_named output.calls then output.flushed else true;
      calls = after_call (is_named output.calls) output.calls;
    }

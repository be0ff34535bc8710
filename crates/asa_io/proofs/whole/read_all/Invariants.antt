-- What was read so far was taken from the told bytes, a byte or more at each read.
use Rattle.std.proofs.Common.{◌≡◌, ◌+◌, ◌-◌, ◌≤◌, length, vec_len}
use Rattle.std.specs.Io.KnownBytes.{Consumes}
use Rattle.asa_io.proofs.whole.read_all.Given as goal

abbrev pub invariant-loop-bytes : goal.invariant-loop-bytes
invariant-loop-bytes g l = record {
  within : vec_len l.bytes ≤ l.limit;
  taken : Consumes (g.S.Source.left l.fn.src) (g.S.Source.left l.src) l.bytes.items;
  later : g.S.Source.faults l.fn.src ≤ g.S.Source.faults l.src;
  few_reads : g.S.Source.reads l.src ≤ g.S.Source.reads l.fn.src + vec_len l.bytes;
  piece : length l.piece ≡ 8192;
}

abbrev pub decreases-loop-bytes : goal.decreases-loop-bytes
decreases-loop-bytes g l = l.limit - vec_len l.bytes

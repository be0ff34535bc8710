-- the bytes that are still to come lead to the same fingerprint
use Rattle.std.proofs.Common.{◌≡◌, drop, fold}
use Rattle.asa_acl.specs.Fingerprints.{mixed}
use Rattle.asa_acl.proofs.fingerprint.mix_bytes.Given as goal

abbrev pub invariant-loop-byte : goal.invariant-loop-byte
invariant-loop-byte l = fold mixed l.mixed (drop l.byte-index l.bytes) ≡ fold mixed l.mark l.bytes

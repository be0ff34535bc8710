-- How reading to the end and writing all may end.
use Rattle.std.specs.Prelude.{ℕ}
use Rattle.asa_io.specs.declared.whole.WriteError.{WriteError}
use Rattle.asa_io.specs.declared.whole.WriteError.TheVariants.{Failed}

-- how many bytes were given before the failure
abbrev pub written_of : WriteError → ℕ
written_of (Failed written) = written

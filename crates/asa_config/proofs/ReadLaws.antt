-- A reader that may want memory, and goes on after it.
use Rattle.std.proofs.Common.{ap}
use Rattle.asa_text.specs.declared.readers.LineFault.{LineFault}
use Rattle.asa_text.specs.declared.readers.LineFault.TheVariants.{Bad, Unsupported, Unknown, NoSuchInterface, NoMemory}
use Rattle.asa_text.specs.Words.{Left}
use Rattle.asa_text.specs.Readers.{Read, ◌>>=◌}
use Rattle.asa_base.specs.Memory.{MayFault}

-- a fault ends the reading
pub may_after : {X Y : Type 0} (f : LineFault) (s : Read X) (more : X × Left → Read Y) → MayFault f s → MayFault f (s >>= more)
may_after (Bad k) s more h = ap (λ r. r >>= more) h
may_after (Unsupported k) s more h = ap (λ r. r >>= more) h
may_after (Unknown k) s more h = ap (λ r. r >>= more) h
may_after (NoSuchInterface k) s more h = ap (λ r. r >>= more) h
may_after NoMemory s more h = tt

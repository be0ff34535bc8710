use Rattle.std.proofs.Common.{◌≡◌, map, drop}
use Rattle.std.specs.Map.{lookup}
use Rattle.std.specs.Str.{bytes_eq}
use Rattle.asa_text_names.proofs.lookup.look_up.Given as goal

abbrev pub invariant-loop-row : goal.invariant-loop-row
invariant-loop-row g l = lookup (bytes_eq l.word) (map (λ r. (r.0.now, r.1)) (drop l.row-index l.rows)) ≡ lookup (bytes_eq l.word) (map (λ r. (r.0.now, r.1)) l.rows)

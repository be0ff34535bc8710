-- The entries of a case: one for each network of its sources and each of its destinations.
use Rattle.std.specs.Prelude.{ℕ, List, [], ◌∷◌, ◌++◌, Bool, Option, Some, None, if◌then◌else◌}
use Rattle.asa_base.specs.Networks.{Network}
use Rattle.asa_base.specs.declared.boxes.Service.{Service}
use Rattle.asa_pair_trie.specs.declared.entries.Entry.{Entry}

-- for one network of its sources
abbrev pub dest_entries : Network → List Network → Service → ℕ → List Entry
dest_entries s [] v rank = []
dest_entries s (d ∷ ds) v rank = record { source = s; dest = d; service = v; rank = rank } ∷ dest_entries s ds v rank

-- for all of them
abbrev pub pair_entries : List Network → List Network → Service → ℕ → List Entry
pair_entries [] ds v rank = []
pair_entries (s ∷ ss) ds v rank = dest_entries s ds v rank ++ pair_entries ss ds v rank

-- a rank, where a test holds
abbrev pub rank_if : Bool → ℕ → Option ℕ
rank_if holds rank = if holds then Some rank else None

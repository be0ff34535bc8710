-- The cases of one part, each at the place of its interfaces.
use Rattle.std.specs.Prelude.{ℕ, Bool, ◌&&◌, ◌==◌}
use Rattle.asa_base.specs.declared.flow.NatPlace.{NatPlace}
use Rattle.asa_base.specs.declared.flow.Packet.{Packet}
use Rattle.asa_nat_rules.specs.declared.case.Case.{Case}
use Rattle.asa_nat_index.specs.declared.part.Part.{Part}
use Rattle.asa_nat_index.specs.declared.part.Part.TheVariants.{Dest, Source}
use Rattle.asa_nat_index.specs.Index.{side, pair_key}
use Rattle.asa_nat_index.specs.Matches.{has_dest_part, has_source_part, fits, case_covering, count_if}

abbrev pub has_part : Part → Case → Bool
has_part Dest c = has_dest_part c
has_part Source c = has_source_part c

-- the place of a case
abbrev pub key_of : Part → Case → ℕ
key_of Dest c = side c.from
key_of Source c = pair_key c.from c.to

-- the case stands at this place
abbrev pub is_at : Part → ℕ → NatPlace × Case → Bool
is_at part key k = has_part part k.1 && (key_of part k.1 == key)

-- and it holds the packet
abbrev pub holds_at : Part → ℕ → Packet → NatPlace × Case → Bool
holds_at part key p k = is_at part key k && fits p k.1

-- how many prefix pairs of the cases at this place cover the packet's addresses
abbrev pub covering_at : Part → ℕ → Packet → NatPlace × Case → ℕ
covering_at part key p k = count_if (is_at part key k) (case_covering p k.1)

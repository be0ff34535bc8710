use Rattle.std.proofs.Common.{sym}
use Rattle.asa_base.proofs.NameLaws.{name_is_text}
use Rattle.asa_base.proofs.names.Name.new.Goals as goal

pub unreachable-requires : goal.unreachable-requires
unreachable-requires c = c.in_default.ensures.cases.0 (name_is_text _ (sym c.if-not-is_name_text.ensures))

use Rattle.std.proofs.Common.{◌++◌, ap, ◌∙◌}
use Rattle.std.proofs.lemmas.List.{append-nil}
use Rattle.asa_objects_values.specs.Drafts.{standing}
use Rattle.asa_objects_values.proofs.DraftLaws.{standing-all}
use Rattle.asa_objects_values.proofs.draft.Draft.new.Goals as goal

pub returns-clause-members : goal.returns-clause-members
returns-clause-members c =
    ap (λ xs. standing c.items.result.now c.new.result.keys ++ xs) c.new-2.ensures ∙ append-nil _
    ∙ standing-all c.items.result.now c.new.result.keys c.new.ensures.empty ∙ c.items.ensures

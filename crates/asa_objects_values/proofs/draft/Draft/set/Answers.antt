use Rattle.asa_objects_values.proofs.DraftLaws.{new-alone, stands-alone}
use Rattle.asa_objects_values.proofs.draft.Draft.set.Goals as goal

pub invariant_of-self : goal.invariant_of-self
invariant_of-self c = (
  new-alone c.self.inside.former.now c.in_ok-gone.gone.keys c.in_ok-added.added c.args.item c.in_ok-gone.ensures.none c.in_ok-added.ensures,
  c.in_ok-gone.ensures.former,
)

pub returns-clause-members : goal.returns-clause-members
returns-clause-members c = stands-alone c.self.inside.former.now c.in_ok-gone.gone.keys c.in_ok-added.added c.args.item c.in_ok-gone.ensures.none c.in_ok-added.ensures

use Rattle.std.proofs.Common.{◌≡◌, Some, true, sym, ap, subst, ◌∙◌}
use Rattle.std.proofs.lemmas.Bool.{false≢true}
use Rattle.asa_objects_values.specs.Definition.{has_item, without_item}
use Rattle.asa_objects_values.specs.Drafts.{AreNew, Marked, marked, standing}
use Rattle.asa_objects_values.proofs.DraftLaws.{further-goes, new-fewer, there-former, found-none, stored-goes}
use Rattle.asa_objects_values.proofs.draft.Draft.remove.Goals as goal

pub invariant_of-self : goal.invariant_of-self
invariant_of-self c = (
  subst (AreNew (standing c.self.inside.former.now c.self.inside.gone.keys)) (sym c.remove.ensures)
      (new-fewer (standing c.self.inside.former.now c.self.inside.gone.keys) c.self.inside.added c.args.item c.self.invariant.0),
  c.self.invariant.1,
)

pub returns-then-has-clause-members : goal.returns-then-has-clause-members
returns-then-has-clause-members c =
    further-goes (standing c.self.inside.former.now c.self.inside.gone.keys) c.self.inside.added c.remove.new.self c.args.item c.self.invariant.0 (sym c.has.ensures.value ∙ c.if-has.true) c.remove.ensures
    ∙ ap (λ (m : Marked). without_item (marked m) c.args.item) c.self.view_is

pub invariant_of-self-in-Some : goal.invariant_of-self-in-Some
invariant_of-self-in-Some c =
    (stored-goes c.self.inside.former.now c.self.inside.gone.keys c.self.inside.added c.insert.new.self.keys c.args.item c.copy.result c.self.invariant.0 c.self.invariant.1
    (sym c.in-Some.ensures ∙ ap Some (sym c.copy.ensures)) (sym c.has.ensures.value ∙ c.if-has.false) c.in_ok-insert-in-Some.ensures.updates.0 c.in_ok-insert-in-Some.ensures.keys).0

pub unreachable-requires : goal.unreachable-requires
unreachable-requires c =
    let there : has_item c.self.inside.former.now c.args.item ≡ true =
    there-former c.self.inside.former.now c.self.inside.gone.keys c.self.inside.added c.args.item
    (ap (λ (m : Marked). has_item (marked m) c.args.item) c.self.view_is ∙ c.requires) (sym c.has.ensures.value ∙ c.if-has.false) in
    false≢true (sym (found-none c.self.inside.former.now c.args.item (sym c.in-None.ensures)) ∙ there)

pub returns-clause-members : goal.returns-clause-members
returns-clause-members c =
    (stored-goes c.self.inside.former.now c.self.inside.gone.keys c.self.inside.added c.insert.new.self.keys c.args.item c.copy.result c.self.invariant.0 c.self.invariant.1
    (sym c.in-Some.ensures ∙ ap Some (sym c.copy.ensures)) (sym c.has.ensures.value ∙ c.if-has.false) c.in_ok-insert-in-Some.ensures.updates.0 c.in_ok-insert-in-Some.ensures.keys).1
    ∙ ap (λ (m : Marked). without_item (marked m) c.args.item) c.self.view_is

-- The least place is the first, in whatever order the pieces are read.
use Rattle.std.proofs.Common.{ap, ◌∙◌}
use Rattle.asa_nat_maps.specs.Places.{least_place, first_place}
use Rattle.asa_nat_maps.proofs.FirstLaws.{first_listed, first_sorted}
use Rattle.asa_nat_maps.proofs.places.Places.place.Goals as goal

pub returns-then-self : goal.returns-then-self
returns-then-self c =
    c.place_apart.ensures ∙ ap (λ ys. least_place ys c.args.address.0) c.deref.ensures.value
    ∙ first_sorted c.self.inside.listed.items c.self.inside.sorted.items c.args.address.0 c.self.invariant.numbered c.self.invariant.same
    ∙ ap (λ s. first_place s c.args.address.0) c.self.view_is

pub returns-else-self : goal.returns-else-self
returns-else-self c =
    c.least_place.ensures ∙ ap (λ ys. least_place ys c.args.address.0) c.deref-else-self.ensures.value
    ∙ first_listed c.self.inside.listed.items c.args.address.0 c.self.invariant.numbered
    ∙ ap (λ s. first_place s c.args.address.0) c.self.view_is

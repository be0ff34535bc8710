-- A place, and the address there.
use Rattle.std.proofs.Common.{option_and_then, sym, ap, ◌∙◌}
use Rattle.asa_nat_rules.specs.Maps.{static_map}
use Rattle.asa_nat_maps.specs.Places.{address_at}
use Rattle.asa_nat_maps.proofs.MapLaws.{sent_at}
use Rattle.asa_nat_maps.proofs.map.StaticMap.sent.Goals as goal

pub returns-in-None : goal.returns-in-None
returns-in-None c =
    sym (ap (option_and_then (address_at c.self.inside.to)) (sym c.place.ensures ∙ c.in-None.is))
    ∙ sent_at c.self.inside.from c.self.inside.to c.args.address.0
    ∙ ap (λ m. static_map m.from m.to c.args.address.0) c.self.view_is

pub returns-in-Some : goal.returns-in-Some
returns-in-Some c =
    c.at.ensures ∙ sym (ap (option_and_then (address_at c.self.inside.to)) (sym c.place.ensures ∙ c.in-Some.is))
    ∙ sent_at c.self.inside.from c.self.inside.to c.args.address.0
    ∙ ap (λ m. static_map m.from m.to c.args.address.0) c.self.view_is

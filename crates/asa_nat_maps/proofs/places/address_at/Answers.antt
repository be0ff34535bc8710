-- The last piece that begins at the place or ahead of it decides.
use Rattle.std.proofs.Common.{◌≡◌, None, Some, option_and_then, sym, ap, ◌∙◌}
use Rattle.std.specs.Option.{option_copied}
use Rattle.asa_nat_maps.specs.Places.{address_in, before}
use Rattle.asa_nat_maps.proofs.PlaceLaws.{numbered_rises, at_place, before_within}
use Rattle.asa_nat_maps.proofs.places.address_at.Goals as goal

pub count_up_to_place-next-requires : goal.count_up_to_place-next-requires
count_up_to_place-next-requires c = numbered_rises _ c.requires

pub address_at-requires : goal.address_at-requires
address_at-requires c =
    before_within c.args.listed.now c.count_up_to_place-next.result c.args.place c.in-Some.piece.now (sym c.before-2.ensures ∙ ap option_copied c.in-Some.is) c.count_up_to_place-next.ensures

pub returns-in-None : goal.returns-in-None
returns-in-None c =
    let none : before c.args.listed.now c.count_up_to_place-next.result ≡ None = sym c.before-2.ensures ∙ ap option_copied c.in-None.is in
    sym (ap (option_and_then (λ x. address_in x c.args.place)) none) ∙ at_place c.args.listed.now _ c.args.place c.requires c.count_up_to_place-next.ensures

pub returns-in-Some : goal.returns-in-Some
returns-in-Some c =
    let found : before c.args.listed.now c.count_up_to_place-next.result ≡ Some c.in-Some.piece.now = sym c.before-2.ensures ∙ ap option_copied c.in-Some.is in
    c.address_at.ensures ∙ sym (ap (option_and_then (λ x. address_in x c.args.place)) found) ∙ at_place c.args.listed.now _ c.args.place c.requires c.count_up_to_place-next.ensures

-- The last piece that begins at the address or ahead of it decides.
use Rattle.std.proofs.Common.{◌≡◌, None, Some, option_and_then, sym, ap, ◌∙◌}
use Rattle.std.specs.Option.{option_copied}
use Rattle.asa_nat_maps.specs.Places.{place_in, before}
use Rattle.asa_nat_maps.proofs.FirstLaws.{searched}
use Rattle.asa_nat_maps.proofs.places.place_apart.Goals as goal

pub returns-in-None : goal.returns-in-None
returns-in-None c =
    let none : before c.args.sorted.now c.count_up_to_address-next.result ≡ None = sym c.before-2.ensures ∙ ap option_copied c.in-None.is in
    sym (ap (option_and_then (λ x. place_in x c.args.address.0)) none) ∙ searched c.args.address.0 0 c.args.sorted.now _ c.requires.apart c.count_up_to_address-next.ensures

pub returns-in-Some : goal.returns-in-Some
returns-in-Some c =
    let found : before c.args.sorted.now c.count_up_to_address-next.result ≡ Some c.in-Some.piece.now = sym c.before-2.ensures ∙ ap option_copied c.in-Some.is in
    c.place_of.ensures ∙ sym (ap (option_and_then (λ x. place_in x c.args.address.0)) found) ∙ searched c.args.address.0 0 c.args.sorted.now _ c.requires.apart c.count_up_to_address-next.ensures

-- A name is a word of a printed line.
use Rattle.std.proofs.Common.{◌≡◌, ◌==◌, ℕ, true, not, nat_le, List, [], ◌∷◌, length, refl, arith}
use Rattle.std.specs.List.{list_all}
use Rattle.std.proofs.lemmas.Bool.{and_parts}
use Rattle.std.proofs.lemmas.Bool.Decides.{nat_tests}
use Rattle.asa_base.specs.Names.{is_graphic, is_name}
use Rattle.asa_print_text.specs.Spelling.{is_inner, is_plain}

graphic_inner : (b : ℕ) → is_graphic b ≡ true → is_inner b ≡ true
graphic_inner b h =
    let least : nat_le 33 b ≡ true = (and_parts _ _ h).0 in
    grind (arith, nat_tests, least)

pub graphics_inner : (w : List ℕ) → list_all is_graphic w ≡ true → list_all is_inner w ≡ true
graphics_inner [] h = refl
graphics_inner (b ∷ bs) h =
    let here : is_graphic b ≡ true = (and_parts _ _ h).0 in
    let more : list_all is_graphic bs ≡ true = (and_parts _ _ h).1 in
    rw (graphic_inner b here, graphics_inner bs more)

pub plain_name : (w : List ℕ) → is_name w ≡ true → is_plain w ≡ true
plain_name w h =
    let some : not (length w == 0) ≡ true = (and_parts _ _ (and_parts _ _ h).0).0 in
    let graphic : list_all is_graphic w ≡ true = (and_parts _ _ h).1 in
    rw (some, graphics_inner w graphic)

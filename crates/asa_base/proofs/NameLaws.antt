-- A name is ASCII text.
use Rattle.std.proofs.Common.{◌≡◌, ℕ, ◌<◌, List, length, true, leb, arith}
use Rattle.std.proofs.lemmas.Bool.{and_parts}
use Rattle.std.proofs.lemmas.Bool.Decides.{nat_tests}
use Rattle.std.specs.List.{list_all}
use Rattle.std.specs.Prelude.{IsUtf8}
use Rattle.std.proofs.lemmas.List.Sums.{AllPass-from_list_all}
use Rattle.std.proofs.lemmas.Str.{IsUtf8-from_ascii}
use Rattle.std.proofs.lemmas.Str.Ascii.{IsAscii-from_reads}
use Rattle.asa_base.specs.Names.{is_graphic, is_name}

below_128 : (b : ℕ) → is_graphic b ≡ true → b < 128
below_128 b h = let most : leb b 126 ≡ true = (and_parts _ _ h).1 in grind (arith, nat_tests, most)

pub name_is_text : (bs : List ℕ) → is_name bs ≡ true → IsUtf8 bs
name_is_text bs h = let graphic : list_all is_graphic bs ≡ true = (and_parts _ _ h).1 in
    IsUtf8-from_ascii bs (IsAscii-from_reads bs (length bs) (omega arith) (λ k less. below_128 _ (AllPass-from_list_all is_graphic bs graphic k 0 less)))

-- Members in order, each at a number of its own, and the numbers of members.
use Rattle.std.specs.Prelude.{◌≡◌, ℕ, ◌+◌, ◌<◌, ◌≤◌, cond, List, [], ◌∷◌, ◌++◌, length, Option, Some, None}
use Rattle.std.specs.List.{AllByRecursion}
use Rattle.std.specs.Map.{lookup, values_of}
use Rattle.asa_objects_lines.specs.declared.statement.Item.{Item}
use Rattle.asa_objects_values.specs.Definition.{same_item}
use Rattle.asa_objects_values.specs.Drafts.{AreDistinct}

-- members at numbers
abbrev pub Numbered : Type 0
Numbered = List (ℕ × Item)

-- each number is below those after it
abbrev pub AreRising : Numbered → Type 0
AreRising [] = Unit {0}
AreRising (e ∷ es) = AllByRecursion (λ f. e.0 < f.0) es × AreRising es

-- each number is below n
abbrev pub AreBelow : ℕ → Numbered → Type 0
AreBelow n es = AllByRecursion (λ e. e.0 < n) es

-- each number is n at least
abbrev pub AreFrom : ℕ → Numbered → Type 0
AreFrom n es = AllByRecursion (λ e. n ≤ e.0) es

-- members at n and the numbers that follow it
abbrev pub numbered : ℕ → List Item → Numbered
numbered n [] = []
numbered n (i ∷ is) = (n, i) ∷ numbered (n + 1) is

-- the number of the first member that is equal to this one
abbrev pub number_of : Numbered → Item → Option ℕ
number_of [] i = None
number_of (e ∷ es) i = cond (same_item i e.1) (Some e.0) (number_of es i)

-- a number, or else another
abbrev pub or_number : Option ℕ → Option ℕ → Option ℕ
or_number None other = other
or_number (Some n) other = Some n

-- members stand at rising numbers below the next one, none stands twice, and the number of each is known
pub record IsNumbered (order : Numbered) (numbers : List (Item × ℕ)) (next : ℕ) : Type 0 where
  pub rising : AreRising order
  pub early : AreBelow next order
  pub distinct : AreDistinct (values_of order)
  pub known : (i : Item) → lookup (same_item i) numbers ≡ number_of order i

-- the same of these members, behind which others stand whose numbers aren't known yet
pub record IsSplit (order : Numbered) (numbers : List (Item × ℕ)) (first : ℕ) (back : Numbered) (items : List Item) : Type 0 where
  pub front : Numbered
  pub whole : order ≡ front ++ back
  pub sound : IsNumbered front numbers first
  pub values : values_of front ≡ items

-- behind the old ones stand members from the number `first` on, of which the rest are still to come from `number` on
pub record ArePlaced (old now : Numbered) (first number : ℕ) (all rest : List Item) : Type 0 where
  pub whole : now ++ numbered number rest ≡ old ++ numbered first all
  pub early : AreBelow number now
  pub many : length now + first ≡ length old + number
  pub after : first ≤ number
  pub left : number + length rest ≡ first + length all

-- members have their numbers from `first` on, of which the rest are still to come from `number` on
pub record AreNoted (old now : List (Item × ℕ)) (first number : ℕ) (all rest : List Item) : Type 0 where
  pub known : (q : Item) → or_number (number_of (numbered number rest) q) (lookup (same_item q) now) ≡ or_number (number_of (numbered first all) q) (lookup (same_item q) old)
  pub distinct : AreDistinct rest
  pub left : number + length rest ≡ first + length all

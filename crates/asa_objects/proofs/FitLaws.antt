-- The members that a block gives a name refer to names that are there and don't lead back.
use Rattle.std.proofs.Common.{◌≡◌, ℕ, ◌+◌, Bool, true, false, cond, not, if◌then◌else◌, List, [], ◌∷◌, ◌++◌, Option, Some, None, Result, Ok, Err, is_some, refl, subst, arith}
use Rattle.std.specs.List.{AllByRecursion, filter, list_any}
use Rattle.std.specs.Option.{option_map}
use Rattle.asa_text.specs.Blocks.{inner_lines}
use Rattle.asa_text.specs.declared.lines.Line.{Line}
use Rattle.asa_text.specs.declared.blocks.Block.{Block}
use Rattle.asa_text.specs.Words.{line_left}
use Rattle.asa_text.specs.Readers.{Read}
use Rattle.asa_objects_lines.specs.declared.kinds.BlockKind.{BlockKind}
use Rattle.asa_objects_lines.specs.declared.statement.Item.{Item}
use Rattle.asa_objects_lines.specs.declared.statement.ObjectValue.{ObjectValue}
use Rattle.asa_objects_lines.specs.declared.statement.ObjectValue.TheVariants as value
use Rattle.asa_objects_lines.specs.declared.statement.Statement.{Statement}
use Rattle.asa_objects_lines.specs.declared.statement.Statement.TheVariants as says
use Rattle.asa_objects_lines.specs.declared.top.Top.{Top}
use Rattle.asa_objects_lines.specs.Blocks.{kind_of_block}
use Rattle.asa_objects_lines.specs.Groups.{statement_at}
use Rattle.asa_objects_values.specs.declared.faults.ObjectFault.{ObjectFault}
use Rattle.asa_objects_values.specs.declared.faults.ObjectFault.TheVariants as fault
use Rattle.asa_objects_values.specs.Tables.{Entry, Table, entry_of, items_of, named, reaches, refers_to, known_of}
use Rattle.asa_objects_table.specs.Ranks.{IsSound, IsThere, Ranks, Uses, label_of}
use Rattle.asa_objects_table.specs.Changes.{Fits}
use Rattle.asa_objects_values.specs.Definition.{after_line, after_lines, and_then, has_item, item_of_value, leads_to, read_at, same_item, stated, with_item, without_item, stated_by}
use Rattle.asa_objects_values.proofs.ReachLaws.{test_of}
use Rattle.asa_objects_values.proofs.ListLaws.{all-push}
use Rattle.asa_objects_table.proofs.ClimbLaws.{above-it, refers-below}
use Rattle.asa_objects_table.proofs.ChangeLaws.{each-ref, from-ref}
use Rattle.asa_objects.proofs.StateLaws.{Passes, IsKnown, States, states-known}

all-kept : (P : Item → Type 0) (p : Item → Bool) (xs : List Item) → AllByRecursion P xs → AllByRecursion P (filter p xs)
all-kept P p [] all = tt
all-kept P p (x ∷ xs) all = by (p x) (all-kept P p xs all.1)
  where
    by : (b : Bool) → AllByRecursion P (filter p xs) → AllByRecursion P (cond b (x ∷ filter p xs) (filter p xs))
    by true more = (all.0, more)
    by false more = more

module _ (t : Table) (name : List ℕ) where
  abbrev pub AllFit : List Item → Type 0
  AllFit items = AllByRecursion (λ i. Fits t name (named i)) items

  fit : (o : Option (List ℕ)) → IsKnown (known_of t) o → test_of (λ c. reaches t c name) o ≡ false → Fits t name o
  fit None k l = tt
  fit (Some c) k l = (there (entry_of t c) k, l)
    where
      there : (o : Option Entry) → is_some (option_map (λ e. kind_of_block e.block) o) ≡ true → is_some o ≡ true
      there None h = h
      there (Some e) h = refl

  single : (v : ObjectValue) → AllFit (item_of_value v ∷ [])
  single (value.Network m) = (tt, tt)
  single (value.Service s) = (tt, tt)

  added : (items : List Item) (i : Item) → AllFit items → Fits t name (named i) → AllFit (with_item items i)
  added items i all one = by (has_item items i)
    where
      by : (b : Bool) → AllFit (if b then items else items ++ i ∷ [])
      by true = all
      by false = all-push (λ j. Fits t name (named j)) items i all one

  said : (n : ℕ) (items out : List Item) (s : Statement) → AllFit items → States (known_of t) s → stated t name n items s ≡ Ok out → AllFit out
  said n items out (says.Value v) all k e = let same : item_of_value v ∷ [] ≡ out = cc in subst AllFit same (single v)
  said n items out (says.Member i) all k e = by (leads_to t name i) refl e
    where
      by : (b : Bool) → leads_to t name i ≡ b → (if b then Err (fault.Cycle n) else Ok (with_item items i)) ≡ Ok out → AllFit out
      by true l h = absurd (cc)
      by false l h = let same : with_item items i ≡ out = cc in subst AllFit same (added items i all (fit (named i) k l))
  said n items out (says.Removed i) all k e = by (has_item items i) e
    where
      by : (b : Bool) → (if b then Ok (without_item items i) else Err (fault.NoSuchMember n)) ≡ Ok out → AllFit out
      by true h = let same : without_item items i ≡ out = cc in subst AllFit same (all-kept (λ j. Fits t name (named j)) (λ j. not (same_item i j)) items all)
      by false h = absurd (cc)
  said n items out says.Nothing all k e = let same : items ≡ out = cc in subst AllFit same all
  said n items out says.Nat all k e = let same : items ≡ out = cc in subst AllFit same all
  said n items out says.NoNat all k e = let same : items ≡ out = cc in subst AllFit same all

  line-fits : (kind : BlockKind) (n : ℕ) (items out : List Item) (l : Line) → AllFit items → after_line t name kind n items l ≡ Ok out → AllFit out
  line-fits kind n items out l all e = by (statement_at (known_of t) kind (line_left l.text)) (states-known (known_of t) kind (line_left l.text)) e
    where
      by : (r : Read Statement) → Passes (States (known_of t)) r → and_then (read_at n r) (λ s. stated t name n items s) ≡ Ok out → AllFit out
      by (Ok read) k h = said n items out read.0 all k h
      by (Err f) k h = absurd (cc)

  lines-fit : (kind : BlockKind) (n : ℕ) (items out : List Item) (ls : List Line) → AllFit items → after_lines t name kind n items ls ≡ Ok out → AllFit out
  unfolding after_lines
  lines-fit kind n items out [] all e = let same : items ≡ out = cc in subst AllFit same all
  lines-fit kind n items out (l ∷ ls) all e = by (after_line t name kind n items l) refl e (λ next fits h. lines-fit kind (n + 1) next out ls fits h)
    where
      by : (r : Result (List Item) ObjectFault) → after_line t name kind n items l ≡ r → and_then r (λ next. after_lines t name kind (n + 1) next ls) ≡ Ok out
          → ((next : List Item) → AllFit next → after_lines t name kind (n + 1) next ls ≡ Ok out → AllFit out) → AllFit out
      by (Ok next) here h more = more next (line-fits kind n items next l all here) h
      by (Err f) here h more = absurd (cc)

  module _ (ranks : Ranks) (uses : Uses) (stamp : ℕ) (sound : IsSound t ranks uses stamp) where
    -- the members that a name has fit
    former-fit : AllFit (items_of t name)
    former-fit = each-ref (Fits t name) tt (items_of t name) (λ c r. (from-ref (IsThere t) (items_of t name) c (sound.there name) r, back c r))
      where
        back : (c : List ℕ) → list_any (refers_to c) (items_of t name) ≡ true → reaches t c name ≡ false
        back c r = by (reaches t c name) refl
          where
            by : (b : Bool) → reaches t c name ≡ b → reaches t c name ≡ false
            by false e = e
            by true e =
                let le = above-it t name ranks uses stamp sound c e in
                let lt = refers-below (label_of ranks) (label_of ranks name) c (items_of t name) (sound.falls name) r in
                absurd (omega (arith, le, lt))

-- so do those that its block leaves it
pub drafted-fit : (t : Table) (ranks : Ranks) (uses : Uses) (stamp : ℕ) → IsSound t ranks uses stamp → (b : Block) (top : Top) (items : List Item) → stated_by t b top ≡ Ok items
    → AllByRecursion (λ i. Fits t top.name (named i)) items
drafted-fit t ranks uses stamp sound b top items drafted =
    lines-fit t top.name top.block 2 (items_of t top.name) items (inner_lines b) (former-fit t top.name ranks uses stamp sound) drafted

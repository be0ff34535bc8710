-- Lists keep their pairs after a change of names that they don't use.
use Rattle.std.proofs.Common.{◌≡◌, ℕ, ◌+◌, ◌≤◌, Bool, true, false, cond, not, nat_le, ◌||◌, if◌then◌else◌, List, [], ◌∷◌, Option, Some, None, is_some, Result, Ok, Err, refl, sym, ap, ◌∙◌}
use Rattle.std.specs.List.{list_any}
use Rattle.std.specs.Option.{option_map}
use Rattle.std.proofs.lemmas.Bool.{le-leb}
use Rattle.std.proofs.lemmas.List.Sums.{sum_by-cons}
use Rattle.asa_text.specs.declared.blocks.Block.{Block}
use Rattle.asa_text.specs.Words.{line_left}
use Rattle.asa_ifaces.specs.declared.iface.Iface.{Iface}
use Rattle.asa_acl.specs.Acls.{AccessLines, list_uses}
use Rattle.asa_objects_lines.specs.declared.top.Top.{Top}
use Rattle.asa_objects_lines.specs.Tops.{top_at}
use Rattle.asa_objects_values.specs.declared.faults.ObjectFault.{ObjectFault}
use Rattle.asa_text.specs.Blocks.{top_text}
use Rattle.asa_objects_values.specs.Definition.{and_then, read_at, defined_by, defined}
use Rattle.asa_objects.specs.Frames.{ForName, KeepsOthers, KeepsRest}
use Rattle.asa_objects.specs.Frames as keeping
use Rattle.asa_objects_table.specs.Ranks.{has_name}
use Rattle.asa_objects_values.specs.Tables.{Table, reaches, same_name}
use Rattle.asa_objects_values.proofs.LabelLaws.{same-is}
use Rattle.asa_acl_boxes.specs.Pairs.{list_pairs}
use Rattle.asa_config_edit.specs.declared.fault.EditFault.TheVariants.{TooLarge}
use Rattle.asa_config_edit.specs.Refusals.{refused}
use Rattle.asa_acl_table.specs.Lists.{first_using}
use Rattle.asa_acl_table.specs.Names.{meanings_in, pairs_of_lists}
use Rattle.asa_acl_table.specs.Limits.{capped}
use Rattle.asa_acl_table.proofs.SameLaws.{list_same}
use Rattle.asa_config.specs.Settings.{Settings}
use Rattle.asa_config.specs.Names.{pair_count}
use Rattle.asa_config.specs.Limits.{fitting}
use Rattle.asa_config.specs.Objects.{IsApart, list_using, with_objects, changed}

-- a name that a list uses is among those that lists use
using_first : (l : AccessLines) (ls : List AccessLines) (q : List ℕ) → list_uses q l ≡ true → is_some (list_using (l ∷ ls) q) ≡ true
using_first l ls q uses = ap (λ b. is_some (option_map (λ x. x.name) (cond b (Some l) (first_using ls q)))) uses

using_rest : (l : AccessLines) (ls : List AccessLines) (q : List ℕ) → is_some (list_using ls q) ≡ true → is_some (list_using (l ∷ ls) q) ≡ true
using_rest l ls q used = by (list_uses q l)
  where
    by : (b : Bool) → is_some (option_map (λ x. x.name) (cond b (Some l) (first_using ls q))) ≡ true
    by true = refl
    by false = used

-- a list that is found has a name
pub listed_same : (o : Option AccessLines) → is_some o ≡ is_some (option_map (λ l. l.name) o)
listed_same None = refl
listed_same (Some l) = refl

-- the lists keep their pairs
pub pairs_same : (old new : Table) (is : List Iface) (ls : List AccessLines) → ((q : List ℕ) → is_some (list_using ls q) ≡ true → keeping.IsKept old new q)
    → pairs_of_lists (meanings_in new is) ls ≡ pairs_of_lists (meanings_in old is) ls
pairs_same old new is [] same = refl
pairs_same old new is (l ∷ ls) same =
    sum_by-cons (λ x. list_pairs (meanings_in new is) x.lines) l ls
    ∙ ap (λ n. n + pairs_of_lists (meanings_in new is) ls) (list_same old new is l (λ q h. same q (using_first l ls q h)))
    ∙ ap (λ n. list_pairs (meanings_in old is) l.lines + n) (pairs_same old new is ls (λ q h. same q (using_rest l ls q h)))
    ∙ sym (sum_by-cons (λ x. list_pairs (meanings_in old is) x.lines) l ls)

-- so there are as few pairs as before
pub fits_same : (c : Settings) (new : Table) → ((q : List ℕ) → is_some (list_using c.lists q) ≡ true → keeping.IsKept c.objects new q) → pair_count c ≤ 262144
    → changed c new ≡ Ok (with_objects c new)
unfolding fitting
fits_same c new same few =
    ap (λ n. if nat_le n 262144 then Ok (with_objects c new) else refused 1 (TooLarge (capped n))) (pairs_same c.objects new c.net.ifaces c.lists same)
    ∙ ap (λ (b : Bool). if b then Ok (with_objects c new) else refused 1 (TooLarge (capped (pair_count c)))) (le-leb (pair_count c) 262144 few)

-- the names that lists use stand for the same after a block of which none of them is told
pub apart_keeps : (c : Settings) (b : Block) (new : Table) → IsApart c b → defined c.objects b ≡ Ok new → KeepsOthers c.objects new b
    → (q : List ℕ) → is_some (list_using c.lists q) ≡ true → keeping.IsKept c.objects new q
unfolding defined
apart_keeps c b new apart made keeps q used = by (read_at 1 (top_at (line_left (top_text b)))) refl made
  where
    by : (r : Result Top ObjectFault) → read_at 1 (top_at (line_left (top_text b))) ≡ r → and_then r (λ top. defined_by c.objects b top) ≡ Ok new → keeping.IsKept c.objects new q
    by (Err f) is h = absurd (cc)
    by (Ok top) is h = keeps top is q (other (reaches c.objects q top.name) refl)
      where
        other : (v : Bool) → reaches c.objects q top.name ≡ v → reaches c.objects q top.name ≡ false
        other false e = e
        other true e = let none : list_using c.lists q ≡ None = apart top is q e in absurd (cc)

-- and after another name has gone
pub rest_keeps : (c : Settings) (name : List ℕ) (new : Table) → list_using c.lists name ≡ None → KeepsRest c.objects new name
    → (q : List ℕ) → is_some (list_using c.lists q) ≡ true → keeping.IsKept c.objects new q
rest_keeps c name new unused keeps q used = keeps q (other (same_name name q) refl)
  where
    other : (v : Bool) → same_name name q ≡ v → same_name name q ≡ false
    other false e = e
    other true e = let none : list_using c.lists q ≡ None = ap (list_using c.lists) (sym (same-is name q e)) ∙ unused in absurd (cc)

or_parts : (a b : Bool) → (a || b) ≡ false → (a ≡ false) × (b ≡ false)
or_parts true b e = absurd (cc)
or_parts false b e = (refl, e)

not_there : {X : Type 0} (o : Option X) → is_some o ≡ false → o ≡ None
not_there None e = refl
not_there (Some x) e = absurd (cc)

-- no list uses a name among these
pub none_listed : (lists : List AccessLines) (names : List (List ℕ)) (q : List ℕ) → list_any (λ n. is_some (list_using lists n)) names ≡ false → has_name names q ≡ true → list_using lists q ≡ None
none_listed lists [] q none there = absurd (cc)
none_listed lists (n ∷ ns) q none there =
    let parts = or_parts (is_some (list_using lists n)) (list_any (λ m. is_some (list_using lists m)) ns) none in
    by (same_name q n) refl there parts.0 (λ rest. none_listed lists ns q parts.1 rest)
  where
    by : (b : Bool) → same_name q n ≡ b → (b || has_name ns q) ≡ true → is_some (list_using lists n) ≡ false → (has_name ns q ≡ true → list_using lists q ≡ None) → list_using lists q ≡ None
    by true same there none rest = not_there (list_using lists q) (ap (λ m. is_some (list_using lists m)) (same-is q n same) ∙ none)
    by false same there none rest = rest there

-- so no list uses a name that reaches what a block defines
pub apart_from : (c : Settings) (b : Block) (names : List (List ℕ)) (listed : Bool) → ForName b (λ name. (q : List ℕ) → has_name names q ≡ reaches c.objects q name)
    → listed ≡ list_any (λ n. is_some (list_using c.lists n)) names → not listed ≡ true → IsApart c b
apart_from c b names true reaching told none = absurd (cc)
apart_from c b names false reaching told none = λ top is q reaches_it. none_listed c.lists names q (sym told) (reaching top is q ∙ reaches_it)

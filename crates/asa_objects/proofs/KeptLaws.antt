-- A change of one name leaves what the names stand for that don't reach it.
use Rattle.std.proofs.Common.{◌≡◌, ℕ, ◌+◌, ◌<◌, suc, zero, Bool, true, false, cond, ◌||◌, if◌then◌else◌, List, [], ◌∷◌, ◌++◌, length, Option, Some, None, Result, Ok, Err, OnOk, refl, sym, ap, subst, ◌∙◌, arith}
use Rattle.std.specs.List.{flat_map, list_any, AllByRecursion}
use Rattle.std.proofs.lemmas.Bool.{false≢true}
use Rattle.asa_text.specs.Blocks.{top_text}
use Rattle.asa_text.specs.declared.blocks.Block.{Block}
use Rattle.asa_text.specs.Words.{line_left}
use Rattle.asa_objects_lines.specs.declared.statement.Item.{Item}
use Rattle.asa_objects_lines.specs.declared.top.Top.{Top}
use Rattle.asa_objects_lines.specs.Items.{item_services}
use Rattle.asa_objects_lines.specs.Tops.{top_at}
use Rattle.asa_objects_values.specs.declared.faults.ObjectFault.{ObjectFault}
use Rattle.asa_objects_values.specs.declared.faults.ObjectFault.TheVariants as fault
use Rattle.asa_objects_values.specs.Spreads.{of_name, spread}
use Rattle.asa_objects_values.specs.Tables.{Entry, Table, entry_of, items_in, items_of, named, own_members, group_at, reaches, refers_to, same_name, with_entry, without_name}
use Rattle.asa_objects_table.specs.Ranks.{IsSound, Ranks, Uses, label_of}
use Rattle.asa_objects_values.specs.Definition.{and_then, read_at, is_within, limited, missing_column, replaced, stated_by, with_value, begun, opened, opened_from, same_block, changed_by, defined_by, Defines}
use Rattle.asa_objects.specs.Frames.{IsKept, KeepsApart, KeepsOthers, KeepsRest}
use Rattle.asa_objects_values.proofs.SpreadLaws.{Below, Falls, Among, flat_map-same}
use Rattle.asa_objects_values.proofs.LabelLaws.{same-is}
use Rattle.asa_objects_values.proofs.ReachLaws.{test_of}
use Rattle.asa_objects_table.proofs.RankLaws.{IsLabelled, labelled, number, number-falls, number-few, reaches-items}
use Rattle.asa_objects_table.proofs.UseLaws.{same-sym}
use Rattle.asa_objects_table.proofs.ChangeLaws.{each-ref}
use Rattle.asa_objects_table.proofs.PutLaws.{entry-put}
use Rattle.asa_objects.proofs.DefineLaws.{made_of}

-- names whose items and what these give are the same, and lead to such names alone, give the same
module _ {I X : Type 0} (named : I → Option (List ℕ)) (items1 items2 : List ℕ → List I) (given1 given2 : List ℕ → I → List X) (label1 label2 : List ℕ → ℕ) (S : List ℕ → Type 0) where
  abbrev Step : ℕ → ℕ → ℕ → ℕ → Type 0
  Step m n j k = (p : List ℕ) → S p → label1 p < j → label2 p < k → spread named items1 given1 m p ≡ spread named items2 given2 n p

  one : (m n j k : ℕ) → Step m n j k → (o : Option (List ℕ)) → Below label1 j o → Below label2 k o → Among S o
      → of_name (spread named items1 given1 m) o ≡ of_name (spread named items2 given2 n) o
  one m n j k step None a b s = refl
  one m n j k step (Some p) a b s = step p s a b

  each : (m n : ℕ) (q : List ℕ) → ((i : I) → given1 q i ≡ given2 q i) → Step m n (label1 q) (label2 q) → (xs : List I) → AllByRecursion (λ i. Below label1 (label1 q) (named i)) xs
      → AllByRecursion (λ i. Below label2 (label2 q) (named i)) xs → AllByRecursion (λ i. Among S (named i)) xs
      → AllByRecursion (λ i. given1 q i ++ of_name (spread named items1 given1 m) (named i) ≡ given2 q i ++ of_name (spread named items2 given2 n) (named i)) xs
  each m n q same step [] a b s = tt
  each m n q same step (x ∷ xs) a b s = (
    ap (λ g. g ++ of_name (spread named items1 given1 m) (named x)) (same x) ∙ ap (λ r. given2 q x ++ r) (one m n (label1 q) (label2 q) step (named x) a.0 b.0 s.0),
    each m n q same step xs a.1 b.1 s.1,
  )

  pub spread-kept : Falls named items1 label1 → Falls named items2 label2 → ((q : List ℕ) → S q → items1 q ≡ items2 q) → ((q : List ℕ) → S q → (i : I) → given1 q i ≡ given2 q i)
      → ((q : List ℕ) → S q → AllByRecursion (λ i. Among S (named i)) (items1 q)) → (m n : ℕ) (q : List ℕ) → S q → label1 q < m → label2 q < n
      → spread named items1 given1 m q ≡ spread named items2 given2 n q
  unfolding spread
  spread-kept falls1 falls2 same-items same-given closed zero n q s a b = absurd (omega arith)
  spread-kept falls1 falls2 same-items same-given closed (suc m) zero q s a b = absurd (omega arith)
  spread-kept falls1 falls2 same-items same-given closed (suc m) (suc n) q s a b =
      flat_map-same _ _ (items1 q) (each m n q (same-given q s) (λ p t c d. spread-kept falls1 falls2 same-items same-given closed m n p t (omega arith) (omega arith)) (items1 q) (falls1 q)
      (subst (AllByRecursion (λ i. Below label2 (label2 q) (named i))) (sym (same-items q s)) (falls2 q)) (closed q s))
      ∙ ap (flat_map (λ i. given2 q i ++ of_name (spread named items2 given2 n) (named i))) (same-items q s)

-- names that are the same in two tables, and lead to such names alone, stand for the same
pub kept-among : (old new : Table) (before after : List ℕ → ℕ) → IsLabelled old before → IsLabelled new after → (S : List ℕ → Type 0) → ((q : List ℕ) → S q → entry_of new q ≡ entry_of old q)
    → ((q : List ℕ) → S q → AllByRecursion (λ i. Among S (named i)) (items_of new q)) → (q : List ℕ) → S q → IsKept old new q
kept-among old new before after was is S same closed q s = (
  spread-kept named (items_of new) (items_of old) (λ _ i. own_members i) (λ _ i. own_members i) (number new after is) (number old before was) S
      (number-falls new after is) (number-falls old before was) (λ p t. ap items_in (same p t)) (λ p t i. refl) closed
      (suc (length new)) (suc (length old)) q s (number-few new after is q) (number-few old before was q),
  spread-kept named (items_of new) (items_of old) (λ p i. item_services (group_at (entry_of new p)) i) (λ p i. item_services (group_at (entry_of old p)) i) (number new after is) (number old before was) S
      (number-falls new after is) (number-falls old before was) (λ p t. ap items_in (same p t)) (λ p t i. ap (λ o. item_services (group_at o) i) (same p t)) closed
      (suc (length new)) (suc (length old)) q s (number-few new after is q) (number-few old before was q),
)

or-parts : (a b : Bool) → (a || b) ≡ false → (a ≡ false) × (b ≡ false)
or-parts true b h = absurd (cc)
or-parts false b h = (refl, h)

-- items of which none leads to a name of a set
none-leads : (D : List ℕ → Bool) (xs : List Item) → list_any (λ i. test_of D (named i)) xs ≡ false → AllByRecursion (λ i. Among (λ c. D c ≡ false) (named i)) xs
none-leads D [] h = tt
none-leads D (x ∷ xs) h = let parts = or-parts (test_of D (named x)) (list_any (λ i. test_of D (named i)) xs) h in (among (named x) parts.0, none-leads D xs parts.1)
  where
    among : (o : Option (List ℕ)) → test_of D o ≡ false → Among (λ c. D c ≡ false) o
    among None h = tt
    among (Some c) h = h

-- one name is changed
pub kept-apart : (old new : Table) (before after : List ℕ → ℕ) → IsLabelled old before → IsLabelled new after → (name : List ℕ)
    → ((q : List ℕ) → same_name name q ≡ false → entry_of new q ≡ entry_of old q) → KeepsApart old new name
kept-apart old new before after was is name same =
    kept-among old new before after was is (λ q. reaches old q name ≡ false) (λ q h. same q (apart q h).0)
    (λ q h. subst (AllByRecursion (λ i. Among (λ c. reaches old c name ≡ false) (named i))) (sym (ap items_in (same q (apart q h).0)))
    (none-leads (λ c. reaches old c name) (items_of old q) (apart q h).1))
  where
    apart : (q : List ℕ) → reaches old q name ≡ false → (same_name name q ≡ false) × (list_any (λ i. test_of (λ c. reaches old c name) (named i)) (items_of old q) ≡ false)
    apart q h = or-parts (same_name name q) (list_any (λ i. test_of (λ c. reaches old c name) (named i)) (items_of old q)) (sym (reaches-items old before was q name) ∙ h)

-- one name that no name refers to is changed
pub kept-rest : (old new : Table) (before after : List ℕ → ℕ) → IsLabelled old before → IsLabelled new after → (name : List ℕ)
    → ((q : List ℕ) → same_name name q ≡ false → entry_of new q ≡ entry_of old q) → ((q : List ℕ) → list_any (refers_to name) (items_of old q) ≡ false) → KeepsRest old new name
kept-rest old new before after was is name same unused =
    kept-among old new before after was is (λ q. same_name name q ≡ false) same (λ q h. each-ref (Among (λ c. same_name name c ≡ false)) tt (items_of new q) (λ c r. other q h c r))
  where
    other : (q : List ℕ) → same_name name q ≡ false → (c : List ℕ) → list_any (refers_to c) (items_of new q) ≡ true → same_name name c ≡ false
    other q h c r = by (same_name name c) refl
      where
        by : (b : Bool) → same_name name c ≡ b → same_name name c ≡ false
        by false e = e
        by true e = absurd (false≢true (sym (unused q) ∙ ap (λ n. list_any (refers_to n) (items_of old q)) (same-is name c e) ∙ ap (λ o. list_any (refers_to c) (items_in o)) (sym (same q h)) ∙ r))

then-ok : {X Y : Type 0} (r : Result X ObjectFault) (more : X → Result Y ObjectFault) (y : Y) → and_then r more ≡ Ok y → (x : X) × (r ≡ Ok x) × (more x ≡ Ok y)
then-ok (Ok x) more y h = (x, refl, h)
then-ok (Err f) more y h = absurd (cc)

limited-ok : (n : ℕ) (t new : Table) → limited n t ≡ Ok new → t ≡ new
limited-ok n t new h = by (is_within n t) h
  where
    by : (b : Bool) → (if b then Ok t else Err fault.TooMany) ≡ Ok new → t ≡ new
    by true e = cc
    by false e = absurd (cc)

put-apart : (t : Table) (name : List ℕ) (made : Entry) (q : List ℕ) → same_name name q ≡ false → entry_of (with_entry t name made) q ≡ entry_of t q
put-apart t name made q e = entry-put t name made q ∙ ap (λ (b : Bool). cond b (Some made) (entry_of t q)) e

changed-apart : (t new : Table) (b : Block) (top : Top) → changed_by t b top ≡ Ok new → (q : List ℕ) → same_name top.name q ≡ false → entry_of new q ≡ entry_of t q
unfolding changed_by
changed-apart t new b top h q apart =
    let stated = then-ok (stated_by t b top) (λ items. and_then (with_value top (missing_column b) items) (λ given. replaced t top given)) new h in
    let valued = then-ok (with_value top (missing_column b) stated.0) (λ given. replaced t top given) new stated.2 in
    ap (λ (s : Table). entry_of s q) (sym (limited-ok (length t) (with_entry t top.name (made_of top.block valued.0)) new valued.2)) ∙ put-apart t top.name (made_of top.block valued.0) q apart

opened-apart : (t start : Table) (top : Top) (o : Option Entry) → opened_from t top o ≡ Ok start → (q : List ℕ) → same_name top.name q ≡ false → entry_of start q ≡ entry_of t q
opened-apart t start top None h q apart = let same : begun t top ≡ start = cc in ap (λ (s : Table). entry_of s q) (sym same) ∙ put-apart t top.name (made_of top.block []) q apart
opened-apart t start top (Some entry) h q apart = by (same_block entry.block top.block) h
  where
    by : (b : Bool) → (if b then Ok t else Err fault.NameTaken) ≡ Ok start → entry_of start q ≡ entry_of t q
    by true e = let same : t ≡ start = cc in ap (λ (s : Table). entry_of s q) (sym same)
    by false e = absurd (cc)

-- a block changes its own name alone
pub defined-apart : (old new : Table) (b : Block) (top : Top) → defined_by old b top ≡ Ok new → (q : List ℕ) → same_name top.name q ≡ false → entry_of new q ≡ entry_of old q
defined-apart old new b top h q apart =
    let open_ = then-ok (opened old top) (λ start. changed_by start b top) new h in
    changed-apart open_.0 new b top open_.2 q apart ∙ opened-apart old open_.0 top (entry_of old top.name) open_.1 q apart

-- a table without a name has the other ones
pub gone-apart : (t : Table) (name q : List ℕ) → same_name name q ≡ false → entry_of (without_name t name) q ≡ entry_of t q
gone-apart [] name q apart = refl
gone-apart (e ∷ es) name q apart = by (same_name name e.0) refl (gone-apart es name q apart)
  where
    by : (b : Bool) → same_name name e.0 ≡ b → entry_of (without_name es name) q ≡ entry_of es q → entry_of (cond b es (e ∷ without_name es name)) q ≡ entry_of (e ∷ es) q
    by false same more = ap (λ (o : Option Entry). cond (same_name q e.0) (Some e.1) o) more
    by true same more = sym (ap (λ (c : Bool). cond c (Some e.1) (entry_of es q)) (ap (same_name q) (sym (same-is name e.0 same)) ∙ same-sym q name ∙ apart))

-- so the names that don't reach its name stand for the same, by what the code keeps of the table before and after the block
pub define-keeps : (old new : Table) (ranks ranks2 : Ranks) (uses uses2 : Uses) (stamp stamp2 : ℕ) → IsSound old ranks uses stamp → IsSound new ranks2 uses2 stamp2 → (b : Block) (top : Top)
    → read_at 1 (top_at (line_left (top_text b))) ≡ Ok top → (result : Result (Unit {0}) ObjectFault) → Defines result old new (defined_by old b top) → OnOk result (KeepsOthers old new b)
define-keeps old new ranks ranks2 uses uses2 stamp stamp2 was is b top read (Ok u) h = λ other there.
    let same : top ≡ other = cc in
    subst (λ (x : Top). KeepsApart old new x.name) same
    (kept-apart old new (label_of ranks) (label_of ranks2) (labelled old ranks uses stamp was) (labelled new ranks2 uses2 stamp2 is) top.name (defined-apart old new b top h))
define-keeps old new ranks ranks2 uses uses2 stamp stamp2 was is b top read (Err f) h = tt

-- and before and after a name goes
pub remove-keeps : (old new : Table) (ranks ranks2 : Ranks) (uses uses2 : Uses) (stamp stamp2 : ℕ) → IsSound old ranks uses stamp → IsSound new ranks2 uses2 stamp2 → (name : List ℕ)
    → new ≡ without_name old name → ((q : List ℕ) → list_any (refers_to name) (items_of old q) ≡ false) → KeepsRest old new name
remove-keeps old new ranks ranks2 uses uses2 stamp stamp2 was is name gone unused =
    kept-rest old new (label_of ranks) (label_of ranks2) (labelled old ranks uses stamp was) (labelled new ranks2 uses2 stamp2 is) name
    (λ q apart. ap (λ (t : Table). entry_of t q) gone ∙ gone-apart old name q apart) unused

-- What holds of the parts of a configuration goes on holding after a change of its lists.
use Rattle.std.proofs.Common.{◌≡◌, ℕ, ◌≤◌, Bool, true, false, cond, List, [], ◌∷◌, ◌++◌, Option, Some, None, is_some, Decides, refl, sym, ap, subst, ◌∙◌}
use Rattle.std.specs.List.{list_all}
use Rattle.std.specs.Str.{bytes_eq}
use Rattle.std.proofs.lemmas.Slice.Eq.{bytes_eq-Decides}
use Rattle.std.proofs.lemmas.Bool.{and_parts, and_from}
use Rattle.asa_acl.specs.Acls.{AccessLines, with_line}
use Rattle.asa_ifaces.specs.Interfaces.{Interfaces}
use Rattle.asa_objects_values.specs.Tables.{Table}
use Rattle.asa_acl_table.specs.declared.new_line.NewLine.{NewLine}
use Rattle.asa_acl_table.specs.Lists.{list_of, with_list, put_in}
use Rattle.asa_acl_table.specs.Names.{meanings_in, pairs_of_lists}
use Rattle.asa_config.specs.Settings.{has_name, list_among}
use Rattle.asa_config.specs.Soundness.{IsKept, is_global_defined}

-- the same names are there after a list has taken the place of another
pub there_with : (lists : List AccessLines) (new : AccessLines) (name : List ℕ) → is_some (list_among (with_list lists new) name) ≡ is_some (list_among lists name)
there_with [] new name = refl
there_with (l ∷ ls) new name = by (has_name new.name l) (bytes_eq-Decides new.name l.name) (there_with ls new name)
  where
    by : (b : Bool) → Decides b (new.name ≡ l.name) → is_some (list_among (with_list ls new) name) ≡ is_some (list_among ls name)
        → is_some (list_among (cond b (new ∷ ls) (l ∷ with_list ls new)) name) ≡ is_some (list_among (l ∷ ls) name)
    by true same more = ap (λ n. is_some (cond (bytes_eq name n) (Some new) (list_among ls name))) (same.0 refl) ∙ both (bytes_eq name l.name)
      where
        both : (b : Bool) → is_some (cond b (Some new) (list_among ls name)) ≡ is_some (cond b (Some l) (list_among ls name))
        both true = refl
        both false = refl
    by false same more = rest (has_name name l) more
      where
        rest : (b : Bool) → is_some (list_among (with_list ls new) name) ≡ is_some (list_among ls name)
            → is_some (cond b (Some l) (list_among (with_list ls new) name)) ≡ is_some (cond b (Some l) (list_among ls name))
        rest true more = refl
        rest false more = more

there_more : (lists : List AccessLines) (new : AccessLines) (name : List ℕ) → is_some (list_among lists name) ≡ true → is_some (list_among (lists ++ new ∷ []) name) ≡ true
there_more [] new name there = absurd (cc)
there_more (l ∷ ls) new name there = by (has_name name l) there (λ more. there_more ls new name more)
  where
    by : (b : Bool) → is_some (cond b (Some l) (list_among ls name)) ≡ true → (is_some (list_among ls name) ≡ true → is_some (list_among (ls ++ new ∷ []) name) ≡ true)
        → is_some (cond b (Some l) (list_among (ls ++ new ∷ []) name)) ≡ true
    by true there more = refl
    by false there more = more there

pub there_put : (lists : List AccessLines) (new : NewLine) (o : Option AccessLines) (name : List ℕ) → is_some (list_among lists name) ≡ true → is_some (list_among (put_in lists new o) name) ≡ true
there_put lists new (Some l) name there = there_with lists (with_line l new.place new.item) name ∙ there
there_put lists new None name there = there_more lists (list_of new.list new.item) name there

pub list_all-weaker : {X : Type 0} (p q : X → Bool) → ((x : X) → p x ≡ true → q x ≡ true) → (xs : List X) → list_all p xs ≡ true → list_all q xs ≡ true
list_all-weaker p q weaker [] h = refl
list_all-weaker p q weaker (x ∷ xs) h =
    let parts = and_parts (p x) (list_all p xs) h in
    and_from (q x) (list_all q xs) (weaker x parts.0) (list_all-weaker p q weaker xs parts.1)

-- what is defined stays so
abbrev pub Keeps : List AccessLines → List AccessLines → Type 0
Keeps old new = (name : List ℕ) → is_some (list_among old name) ≡ true → is_some (list_among new name) ≡ true

-- what holds goes on holding under other lists, whose pairs are told and few
pub kept_lists : (objects : Table) (net : Interfaces) (old new : List AccessLines) (pairs total : ℕ) (bound : List ((ℕ × Bool) × List ℕ)) (global : Option (List ℕ)) → IsKept objects net old pairs bound global
    → total ≡ pairs_of_lists (meanings_in objects net.ifaces) new → total ≤ 262144 → Keeps old new → IsKept objects net new total bound global
kept_lists objects net old new pairs total bound global kept counted few keeps = record {
  counted = counted;
  few = few;
  within = kept.within;
  defined = list_all-weaker (λ b. is_some (list_among old b.1)) (λ b. is_some (list_among new b.1)) (λ b h. keeps b.1 h) bound kept.defined;
  rising = kept.rising;
  global_defined = by global kept.global_defined;
}
  where
    by : (g : Option (List ℕ)) → is_global_defined old g ≡ true → is_global_defined new g ≡ true
    by None h = refl
    by (Some name) h = keeps name h

-- after a line has gone in
pub kept_put : (objects : Table) (net : Interfaces) (old new : List AccessLines) (pairs total : ℕ) (bound : List ((ℕ × Bool) × List ℕ)) (global : Option (List ℕ)) (line : NewLine) → IsKept objects net old pairs bound global
    → new ≡ put_in old line (list_among old line.list) → total ≡ pairs_of_lists (meanings_in objects net.ifaces) (put_in old line (list_among old line.list)) → total ≤ 262144
    → IsKept objects net new total bound global
kept_put objects net old new pairs total bound global line kept made counted few =
    subst (λ ls. IsKept objects net ls total bound global) (sym made)
    (kept_lists objects net old (put_in old line (list_among old line.list)) pairs total bound global kept counted few
    (λ name there. there_put old line (list_among old line.list) name there))

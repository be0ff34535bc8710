-- A name that isn't in the table is reached by itself alone.
use Rattle.std.proofs.Common.{◌≡◌, ℕ, suc, Bool, true, false, ◌||◌, List, [], ◌∷◌, length, Option, Some, None, is_some, refl, sym, ap, ◌∙◌}
use Rattle.std.specs.List.{list_any}
use Rattle.std.proofs.lemmas.Bool.{false≢true}
use Rattle.asa_objects_values.specs.Tables.{Table, entry_of, items_of, named, names_under, reaches, same_name}
use Rattle.asa_objects_table.specs.Ranks.{IsSound, Ranks, Uses, has_name, label_of, rank_of}
use Rattle.asa_objects_values.proofs.LabelLaws.{same-self}
use Rattle.asa_objects_values.proofs.ReachLaws.{closed-has}
use Rattle.asa_objects_table.proofs.RankLaws.{labelled, number, number-falls, number-few}
use Rattle.asa_objects_table.proofs.UseLaws.{same-sym}
use Rattle.asa_objects_table.proofs.OpenLaws.{no-users}

-- nothing is there
pub none-of : {X : Type 0} (o : Option X) → is_some o ≡ false → o ≡ None
none-of None h = refl
none-of (Some x) h = absurd (cc)

or-false : (b : Bool) → (b || false) ≡ b
or-false true = refl
or-false false = refl

module _ (t : Table) (ranks : Ranks) (uses : Uses) (stamp : ℕ) (name : List ℕ) (sound : IsSound t ranks uses stamp) (absent : is_some (rank_of ranks name) ≡ false) where
  only : (q : List ℕ) → reaches t q name ≡ true → same_name name q ≡ true
  only q r =
      let ok = labelled t ranks uses stamp sound in
      let unused = no-users t ranks uses stamp name sound (none-of (entry_of t name) (sym (sound.ranked name) ∙ absent)) in
      closed-has named (items_of t) (number t (label_of ranks) ok) (suc (length t)) name (same_name name) (number-falls t (label_of ranks) ok) (number-few t (label_of ranks) ok) (same-self name)
      (λ p any. absurd (false≢true (sym (unused p) ∙ any))) (suc (length t)) q (number-few t (label_of ranks) ok q) r

  pub alone : (q : List ℕ) → has_name (name ∷ []) q ≡ reaches t q name
  alone q = or-false (same_name q name) ∙ same-sym q name ∙ by (same_name name q) (reaches t q name) refl refl
    where
      by : (a b : Bool) → same_name name q ≡ a → reaches t q name ≡ b → a ≡ b
      by true true e f = refl
      by false false e f = refl
      by false true e f = absurd (false≢true (sym e ∙ only q f))
      by true false e f = absurd (false≢true (sym f ∙ ap (λ (b : Bool). b || list_any (same_name name) (names_under t q)) e))

-- The table of names as its callers see it.
use Rattle.std.proofs.Common.{◌≡◌, ℕ, ◌≤◌, Bool, true, ◌&&◌, nat_le, List, [], ◌∷◌, length, is_some, refl, sym, ap, subst, ◌∙◌}
use Rattle.std.specs.List.{AllByRecursion, list_all}
use Rattle.std.proofs.lemmas.Bool.{le-leb}
use Rattle.asa_objects_lines.specs.declared.statement.Item.{Item}
use Rattle.asa_objects_values.specs.Definition.{are_small, is_small}
use Rattle.asa_objects_values.specs.Drafts.{changed}
use Rattle.asa_objects_values.specs.Tables.{Table, entry_of, items_of, named, services_of_name}
use Rattle.asa_objects_table.specs.Changes.{Fits}
use Rattle.asa_objects_table.specs.Climbs.{AreReaching, IsAbove}
use Rattle.asa_objects_table.specs.Ranks.{IsSound, Ranks, Uses, rank_of}
use Rattle.asa_objects_table.specs.Table.{AreAbove, IsOrdered}
use Rattle.asa_objects_values.proofs.ListLaws.{all-weaker}
use Rattle.asa_objects_table.proofs.ClimbLaws.{above-reaching}
use Rattle.asa_objects_table.proofs.RankLaws.{kept-members, kept-services}

every : (p : List ℕ → Bool) → ((q : List ℕ) → p q ≡ true) → (es : Table) → list_all (λ e. p e.0) es ≡ true
every p all [] = refl
every p all (e ∷ es) = ap (λ (b : Bool). b && list_all (λ x. p x.0) es) (all e.0) ∙ every p all es

-- what is sound is within the limit
pub sound-small : (t : Table) (ranks : Ranks) (uses : Uses) (stamp : ℕ) → IsSound t ranks uses stamp → are_small t ≡ true
unfolding are_small
sound-small t ranks uses stamp sound = every (is_small t) each t
  where
    each : (q : List ℕ) → is_small t q ≡ true
    each q =
        let m = subst (λ n. n ≤ 65536) (kept-members t ranks uses stamp sound q) (sound.small q).0 in
        let s = subst (λ n. n ≤ 65536) (kept-services t ranks uses stamp sound q) (sound.small q).1 in
        ap (λ (b : Bool). b && nat_le (length (services_of_name t q)) 65536) (le-leb _ _ m) ∙ le-leb _ _ s

-- what is sound is in an order
pub sound-ordered : (t u : Table) (ranks : Ranks) (uses : Uses) (stamp : ℕ) → IsSound t ranks uses stamp → t ≡ u → IsOrdered u
sound-ordered t u ranks uses stamp sound is = record { ranks = ranks; uses = uses; stamp = stamp; sound = subst (λ (x : Table). IsSound x ranks uses stamp) is sound }

-- names that are found by their labels are those above a name
pub above-there : (t u : Table) (ranks : Ranks) (uses : Uses) (stamp : ℕ) → IsSound t ranks uses stamp → t ≡ u → (name : List ℕ) (names : List (List ℕ)) → IsAbove t ranks name names → AreAbove u name names
above-there t u ranks uses stamp sound is name names above = subst (λ (x : Table). AreAbove x name names) is (record {
  there = all-weaker (λ q. is_some (rank_of ranks q) ≡ true) (λ q. is_some (entry_of t q) ≡ true) (λ q h. sym (sound.ranked q) ∙ h) names above.there;
  order = reaching.order;
  laid = reaching.laid;
  whole = above.whole;
})
  where
    reaching : AreReaching t ranks name names
    reaching = above-reaching t ranks uses stamp sound name names above

-- the names above a name have ranks
pub above-ranked : (t u : Table) (ranks : Ranks) (uses : Uses) (stamp : ℕ) → IsSound t ranks uses stamp → t ≡ u → (name : List ℕ) (names : List (List ℕ)) → AreAbove u name names → AreReaching t ranks name names
above-ranked t u ranks uses stamp sound is name names above = by (subst (λ (x : Table). AreAbove x name names) (sym is) above)
  where
    by : AreAbove t name names → AreReaching t ranks name names
    by a = record {
      there = all-weaker (λ q. is_some (entry_of t q) ≡ true) (λ q. is_some (rank_of ranks q) ≡ true) (λ q h. sound.ranked q ∙ h) names a.there;
      order = a.order;
      laid = a.laid;
      whole = a.whole;
    }

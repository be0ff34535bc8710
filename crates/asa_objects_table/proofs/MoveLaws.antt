-- The members of a name change: the totals that it then has, and who uses what.
use Rattle.std.proofs.Common.{◌≡◌, ℕ, ◌+◌, Bool, true, false, cond, not, ◌||◌, ◌&&◌, List, [], ◌∷◌, Option, Some, None, Err, is_some, refl, sym, ap, subst, ◌∙◌, arith}
use Rattle.std.specs.List.{AllByRecursion, list_any}
use Rattle.asa_objects_lines.specs.declared.statement.Item.{Item}
use Rattle.asa_objects_table.specs.Amounts.{Amounts}
use Rattle.asa_objects_values.specs.declared.faults.ObjectFault.{ObjectFault}
use Rattle.asa_objects_values.specs.Spreads.{total, weight_of}
use Rattle.asa_objects_values.specs.Tables.{Entry, Table, entry_of, group_at, group_of, items_in, items_of, named, refers_to, same_name, with_entry, refs_in}
use Rattle.asa_objects_values.specs.Definition.{has_item, same_item}
use Rattle.asa_objects_values.specs.Drafts.{AreDistinct, AreFormer, changed, changed_entry, standing}
use Rattle.asa_objects_table.specs.Ranks.{IsSound, amount, amount_of, Ranks, Uses, rank_of, users_of, has_name, own_totals, both_totals}
use Rattle.asa_objects_table.specs.Climbs.{AreReaching}
use Rattle.asa_objects_table.specs.Renewals.{newer, totals_in_rank, AreSmall, AreSums, IsRenewed, IsTold, Overfills}
use Rattle.asa_objects_table.specs.Users.{AreUsed, AreUnused, unused_in}
use Rattle.asa_objects_table.specs.Changes.{Fits, Replaces, changed_at, changed_in, freed_by}
use Rattle.asa_objects_table.specs.Weights.{weights}
use Rattle.asa_objects_values.proofs.LabelLaws.{same-is, same-self}
use Rattle.asa_objects_values.proofs.SpreadLaws.{total-append}
use Rattle.asa_objects_values.proofs.ReachLaws.{any-append, test_of}
use Rattle.asa_objects_table.proofs.TotalLaws.{amount-rank, amount-both}
use Rattle.asa_objects_table.proofs.ChangeLaws.{IsChange, change-sound}
use Rattle.asa_objects_table.proofs.PutLaws.{entry-put}
use Rattle.asa_objects_table.proofs.ReplaceLaws.{refs-any, refers-former}
use Rattle.asa_objects_table.proofs.ToldLaws.{change-told, change-refused, has-filter, used-all}
use Rattle.asa_objects_table.proofs.EffectLaws.{weights-amount}
use Rattle.asa_objects_table.proofs.StandingLaws.{same-named, total-standing}

-- a member that is to go refers to what an equal one refers to
pub gone-refers : (c : List ℕ) (gone : List Item) (x : Item) → has_item gone x ≡ true → refers_to c x ≡ true → list_any (refers_to c) gone ≡ true
gone-refers c [] x h refers = absurd (cc)
gone-refers c (g ∷ gs) x h refers = by (same_item x g) (λ s. same-named x g s) h (λ more. gone-refers c gs x more refers)
  where
    or-true : (a b : Bool) → b ≡ true → (a || b) ≡ true
    or-true true b e = refl
    or-true false b e = e

    by : (s : Bool) → (s ≡ true → named x ≡ named g) → (s || has_item gs x) ≡ true → (has_item gs x ≡ true → list_any (refers_to c) gs ≡ true) → (refers_to c g || list_any (refers_to c) gs) ≡ true
    by true is h more = ap (λ b. b || list_any (refers_to c) gs) (ap (test_of (same_name c)) (sym (is refl)) ∙ refers)
    by false is h more = or-true (refers_to c g) (list_any (refers_to c) gs) (more h)

-- what passes a test stands, or is gone
pub stands-or-gone : (p : Item → Bool) (xs gone : List Item) → ((x : Item) → has_item gone x ≡ true → p x ≡ true → list_any p gone ≡ true) → list_any p xs ≡ true
    → (list_any p (standing xs gone) || list_any p gone) ≡ true
stands-or-gone p [] gone goes h = absurd (cc)
stands-or-gone p (x ∷ xs) gone goes h = by (has_item gone x) refl (p x) refl h (λ more. stands-or-gone p xs gone goes more)
  where
    or-true : (b : Bool) → (b || true) ≡ true
    or-true true = refl
    or-true false = refl

    either : (a b c : Bool) → (b || c) ≡ true → ((a || b) || c) ≡ true
    either true b c e = refl
    either false b c e = e

    by : (g : Bool) → has_item gone x ≡ g → (b : Bool) → p x ≡ b → (b || list_any p xs) ≡ true → (list_any p xs ≡ true → (list_any p (standing xs gone) || list_any p gone) ≡ true)
        → (list_any p (cond (not g) (x ∷ standing xs gone) (standing xs gone)) || list_any p gone) ≡ true
    by true there true e h more = ap (λ b. list_any p (standing xs gone) || b) (goes x there e) ∙ or-true (list_any p (standing xs gone))
    by true there false e h more = more h
    by false there true e h more = ap (λ b. (b || list_any p (standing xs gone)) || list_any p gone) e
    by false there false e h more = either (p x) (list_any p (standing xs gone)) (list_any p gone) (more h)

-- what stands was there
pub stood : (p : Item → Bool) (xs gone : List Item) → list_any p (standing xs gone) ≡ true → list_any p xs ≡ true
stood p [] gone h = h
stood p (x ∷ xs) gone h = by (has_item gone x) h (λ more. stood p xs gone more)
  where
    right : (a b c : Bool) → (b ≡ true → c ≡ true) → (a || b) ≡ true → (a || c) ≡ true
    right true b c f e = refl
    right false b c f e = f e

    after : (a b : Bool) → b ≡ true → (a || b) ≡ true
    after true b e = refl
    after false b e = e

    by : (g : Bool) → list_any p (cond (not g) (x ∷ standing xs gone) (standing xs gone)) ≡ true → (list_any p (standing xs gone) ≡ true → list_any p xs ≡ true) → (p x || list_any p xs) ≡ true
    by true h more = after (p x) (list_any p xs) (more h)
    by false h more = right (p x) (list_any p (standing xs gone)) (list_any p xs) more h

bool-moved : (o s a g : Bool) → (s ≡ true → o ≡ true) → (o ≡ true → (s || g) ≡ true) → ((o || a) && not (g && not (s || a))) ≡ (s || a)
bool-moved true true a g h i = ap (λ b. not b) (and-false g)
  where
    and-false : (b : Bool) → (b && false) ≡ false
    and-false true = refl
    and-false false = refl
bool-moved true false a false h i = absurd (let e = i refl in cc)
bool-moved true false true true h i = refl
bool-moved true false false true h i = refl
bool-moved false true a g h i = absurd (let e = h refl in cc)
bool-moved false false true true h i = refl
bool-moved false false true false h i = refl
bool-moved false false false g h i = refl

module _ (t : Table) (ranks : Ranks) (uses : Uses) (stamp : ℕ) (name : List ℕ) (gone added : List Item) (names : List (List ℕ)) (sound : IsSound t ranks uses stamp)
    (above : AreReaching t ranks name names) (fits : AllByRecursion (λ i. Fits t name (named i)) (changed (items_of t name) gone added)) where
  module _ (e : Entry) (found : entry_of t name ≡ Some e) where
    pub move-change : IsChange t (with_entry t name (changed_entry e gone added)) ranks uses stamp name (changed_entry e gone added) names
    move-change = record {
      sound = sound;
      was = ap is_some found;
      entry = entry-put t name (changed_entry e gone added);
      above = above;
      fits = subst (λ o. AllByRecursion (λ i. Fits t name (named i)) (changed (items_in o) gone added)) found fits;
    }

    at-name : entry_of (with_entry t name (changed_entry e gone added)) name ≡ Some (changed_entry e gone added)
    at-name = entry-put t name (changed_entry e gone added) name ∙ ap (λ b. cond b (Some (changed_entry e gone added)) (entry_of t name)) (same-self name)

    -- the totals that are told are the sums over the members after the change
    move-sums : AreDistinct e.items → AreFormer e.items gone → (told : Amounts)
        → both_totals told (weights ranks (group_of e.block) gone) ≡ both_totals (totals_in_rank (rank_of ranks name)) (weights ranks (group_of e.block) added)
        → AreSums (with_entry t name (changed_entry e gone added)) [] ranks name told
    move-sums apart former told is k =
        let one = amount-both k told (weights ranks (group_of e.block) gone) in
        let two = amount-both k (totals_in_rank (rank_of ranks name)) (weights ranks (group_of e.block) added) in
        let both = ap (amount k) is in
        let less = weights-amount k ranks (group_of e.block) gone in
        let more = weights-amount k ranks (group_of e.block) added in
        let rank = amount-rank k (rank_of ranks name) in
        let old : amount_of k ranks name ≡ total (λ i. amount k (own_totals (group_of e.block) i) + weight_of (amount_of k ranks) (named i)) e.items =
        sound.sums k name ∙ ap (λ (o : Option Entry). total (λ i. amount k (own_totals (group_at o) i) + weight_of (amount_of k ranks) (named i)) (items_in o)) found in
        let parts = total-standing (λ i. amount k (own_totals (group_of e.block) i) + weight_of (amount_of k ranks) (named i)) e.items gone apart former in
        let whole = total-append (λ i. amount k (own_totals (group_of e.block) i) + weight_of (amount_of k ranks) (named i)) (standing e.items gone) added in
        let is-sum : amount k told ≡ total (λ i. amount k (own_totals (group_of e.block) i) + weight_of (amount_of k ranks) (named i)) (changed e.items gone added) = omega arith in
        is-sum ∙ ap (λ (o : Option Entry). total (λ i. amount k (own_totals (group_at o) i) + weight_of (amount_of k ranks) (named i)) (items_in o)) (sym at-name)

    pub used-moved : (mid uses2 : Uses) → AreUsed uses mid name (refs_in added) → AreUnused mid uses2 name (freed_by e.items gone added)
        → (c u : List ℕ) → has_name (users_of uses2 c) u ≡ list_any (refers_to c) (items_of (with_entry t name (changed_entry e gone added)) u)
    used-moved mid uses2 used unused c u =
        unused c u ∙ ap (λ b. b && not (same_name name u && has_name (freed_by e.items gone added) c)) (used c u) ∙ by (same_name name u) refl (entry-put t name (changed_entry e gone added) u)
      where
        other : (b : Bool) → ((b || false) && true) ≡ b
        other true = refl
        other false = refl

        by : (b : Bool) → same_name name u ≡ b → entry_of (with_entry t name (changed_entry e gone added)) u ≡ cond b (Some (changed_entry e gone added)) (entry_of t u)
            → ((has_name (users_of uses c) u || (same_name name u && has_name (refs_in added) c)) && not (same_name name u && has_name (freed_by e.items gone added) c))
            ≡ list_any (refers_to c) (items_of (with_entry t name (changed_entry e gone added)) u)
        by true same put =
            ap (λ (b : Bool). (has_name (users_of uses c) u || (b && has_name (refs_in added) c)) && not (b && has_name (freed_by e.items gone added) c)) same
            ∙ ap (λ x. (x || has_name (refs_in added) c) && not (has_name (freed_by e.items gone added) c))
            (ap (has_name (users_of uses c)) (sym (same-is name u same)) ∙ refers-former t ranks uses stamp name e sound found c ∙ sym (refs-any c e.items))
            ∙ ap (λ x. (list_any (refers_to c) e.items || x) && not (has_name (freed_by e.items gone added) c)) (sym (refs-any c added))
            ∙ ap (λ x. (list_any (refers_to c) e.items || list_any (refers_to c) added) && not x)
            (has-filter (λ q. not (list_any (refers_to q) (changed e.items gone added))) (refs_in gone) c
            ∙ ap (λ x. x && not (list_any (refers_to c) (changed e.items gone added))) (sym (refs-any c gone))
            ∙ ap (λ x. list_any (refers_to c) gone && not x) (any-append _ (standing e.items gone) added))
            ∙ bool-moved (list_any (refers_to c) e.items) (list_any (refers_to c) (standing e.items gone)) (list_any (refers_to c) added) (list_any (refers_to c) gone)
            (stood (refers_to c) e.items gone) (stands-or-gone (refers_to c) e.items gone (gone-refers c gone))
            ∙ sym (any-append _ (standing e.items gone) added) ∙ ap (λ o. list_any (refers_to c) (items_in o)) (sym put)
        by false same put =
            ap (λ (b : Bool). (has_name (users_of uses c) u || (b && has_name (refs_in added) c)) && not (b && has_name (freed_by e.items gone added) c)) same
            ∙ other (has_name (users_of uses c) u) ∙ sound.used c u ∙ ap (λ o. list_any (refers_to c) (items_in o)) (sym put)

  -- the same of the table in which they have changed
  module _ (was : is_some (entry_of t name) ≡ true) (apart : AreDistinct (items_of t name)) (former : AreFormer (items_of t name) gone) (told : Amounts)
      (is : both_totals told (weights ranks (group_at (entry_of t name)) gone) ≡ both_totals (totals_in_rank (rank_of ranks name)) (weights ranks (group_at (entry_of t name)) added)) where
    value : (o : Option Entry) → entry_of t name ≡ o → is_some o ≡ true → (e : Entry) × (entry_of t name ≡ Some e)
    value None e h = absurd (cc)
    value (Some x) e h = (x, e)

    there : (e : Entry) × (entry_of t name ≡ Some e)
    there = value (entry_of t name) refl was

    same : with_entry t name (changed_entry there.0 gone added) ≡ changed_at t name gone added
    same = sym (ap (λ o. changed_in t name gone added o) there.1)

    pub move-told : IsTold t (changed_at t name gone added) ranks name told names
    move-told = subst (λ x. IsTold t x ranks name told names) same
        (change-told t _ ranks uses stamp name (changed_entry there.0 gone added) names told (move-change there.0 there.1)
        (move-sums there.0 there.1 (subst (λ (o : Option Entry). AreDistinct (items_in o)) there.1 apart) (subst (λ (o : Option Entry). AreFormer (items_in o) gone) there.1 former) told
        (subst (λ (o : Option Entry). both_totals told (weights ranks (group_at o) gone) ≡ both_totals (totals_in_rank (rank_of ranks name)) (weights ranks (group_at o) added)) there.1 is)))

    pub move-refused : (f : ObjectFault) → Overfills (changed_at t name gone added) ranks stamp names f → Replaces t t (changed_at t name gone added) (Err f)
    move-refused f h = subst (λ x. Replaces t t x (Err f)) same
        (change-refused t _ ranks uses stamp name (changed_entry there.0 gone added) names f (move-change there.0 there.1) (subst (λ x. Overfills x ranks stamp names f) (sym same) h))

    pub move-sound : (new : Ranks) (label : ℕ) → IsRenewed (changed_at t name gone added) ranks stamp names new label → AreSmall new → (ranks2 : Ranks) → ((q : List ℕ) → rank_of ranks2 q ≡ newer (rank_of new q) (rank_of ranks q))
        → (mid uses2 : Uses) → AreUsed uses mid name (unused_in uses (refs_in added) name) → AreUnused mid uses2 name (freed_by (items_of t name) gone added)
        → IsSound (changed_at t name gone added) ranks2 uses2 label
    move-sound new label renewed small ranks2 now mid uses2 used unused = subst (λ y. IsSound y ranks2 uses2 label) same
        (by (subst (λ y. IsRenewed y ranks stamp names new label) (sym same) renewed))
      where
        by : IsRenewed (with_entry t name (changed_entry there.0 gone added)) ranks stamp names new label → IsSound (with_entry t name (changed_entry there.0 gone added)) ranks2 uses2 label
        by g = change-sound t _ ranks uses stamp name (changed_entry there.0 gone added) names (move-change there.0 there.1) new ranks2 label g small now uses2
            (used-moved there.0 there.1 mid uses2 (used-all uses mid name (refs_in added) used)
            (subst (λ (o : Option Entry). AreUnused mid uses2 name (freed_by (items_in o) gone added)) there.1 unused))

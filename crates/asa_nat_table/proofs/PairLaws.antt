-- The prefix pairs of all rules, after a rule has come or gone.
use Rattle.std.proofs.Common.{◌≡◌, ℕ, ◌+◌, ◌<◌, Bool, true, false, cond, if◌then◌else◌, List, [], ◌∷◌, length, get_or, insert, remove, position, Option, Some, None, refl, sym, ap, ◌∙◌, arith}
use Rattle.std.specs.List.{sum_by}
use Rattle.std.specs.declared.cmp.Ordering.{Ordering}
use Rattle.std.specs.declared.cmp.Ordering.TheVariants.{Less, Equal, Greater}
use Rattle.std.specs.Ordering.{is_eq, match_ordering, nat_cmp}
use Rattle.std.specs.Cmp.Lexicographic.{slice_cmp}
use Rattle.std.specs.BTreeMap.{is_at, insert_entry}
use Rattle.std.specs.Map.{lookup, remove_entry}
use Rattle.std.proofs.lemmas.List.Sums.{sum_by-cons, sum_by-insert, sum_by-remove}
use Rattle.std.proofs.lemmas.List.Quantifiers.{position-Some}
use Rattle.asa_nat_lines.specs.declared.rule.RuleFields.{RuleFields}
use Rattle.asa_nat_lines.specs.declared.grammar.NewRule.{NewRule}
use Rattle.asa_nat_rules.specs.Meanings.{Meanings}
use Rattle.asa_nat_rules.specs.Pairs.{rule_pairs}
use Rattle.asa_nat_table.specs.Rules.{NatRules, is_last, rules_before, section_rules, with_section, with_manual, without_manual, own_rule, with_own, without_own}
use Rattle.asa_nat_table.specs.Faults.{table_pairs}

-- the pairs of the rules of objects
abbrev own_pairs : Meanings → List (List ℕ × RuleFields) → ℕ
own_pairs m own = sum_by (λ e. rule_pairs m e.1) own

-- a section that has so many more pairs makes the table have so many more
section_more : (m : Meanings) (t : NatRules) (f : RuleFields) (rules : List RuleFields) (a b : ℕ)
    → sum_by (rule_pairs m) rules + a ≡ sum_by (rule_pairs m) (section_rules t f) + b → table_pairs m (with_section t f rules) + a ≡ table_pairs m t + b
unfolding table_pairs
section_more m t f rules a b = by (is_last f)
  where
    by : (last : Bool) → sum_by (rule_pairs m) rules + a ≡ sum_by (rule_pairs m) (if last then t.last else t.first) + b
        → table_pairs m (if last then record t { last = rules } else record t { first = rules }) + a ≡ table_pairs m t + b
    by true e = omega (arith, e)
    by false e = omega (arith, e)

-- a manual rule has come
pub pairs_manual : (m : Meanings) (t : NatRules) (new : NewRule) → table_pairs m (with_manual t new) ≡ table_pairs m t + rule_pairs m new.rule
unfolding with_manual
pairs_manual m t new =
    let rules = section_rules t new.rule in
    let i = rules_before new.place (length rules) in
    omega (arith, section_more m t new.rule (insert rules i new.rule) 0 (rule_pairs m new.rule) (omega (arith, sum_by-insert (rule_pairs m) rules i new.rule)))

-- a manual rule has gone
pub pairs_gone : (m : Meanings) (same : RuleFields → Bool) (t : NatRules) (f : RuleFields) (place : ℕ) → ((x : RuleFields) → same x ≡ true → x ≡ f)
    → position same (section_rules t f) ≡ Some place → table_pairs m (without_manual t f place) + rule_pairs m f ≡ table_pairs m t
unfolding without_manual
pairs_gone m same t f place equal found =
    let rules = section_rules t f in
    let at = position-Some same rules place f found in
    let is : rule_pairs m (get_or rules place f) ≡ rule_pairs m f = ap (rule_pairs m) (equal _ at.1) in
    omega (arith, section_more m t f (remove rules place) (rule_pairs m f) 0 (omega (arith, is, sum_by-remove (rule_pairs m) rules place f at.0)))

own_put : (m : Meanings) (own : List (List ℕ × RuleFields)) (owner : List ℕ) (f : RuleFields) → lookup (is_at (slice_cmp nat_cmp owner)) own ≡ None
    → own_pairs m (insert_entry (slice_cmp nat_cmp) own owner f) ≡ own_pairs m own + rule_pairs m f
own_put m [] owner f none = omega (arith, sum_by-cons (λ (e : List ℕ × RuleFields). rule_pairs m e.1) (owner, f) [])
own_put m (e ∷ es) owner f none = by (slice_cmp nat_cmp owner e.0) none (λ there. own_put m es owner f there)
  where
    by : (o : Ordering) → cond (is_eq o) (Some e.1) (lookup (is_at (slice_cmp nat_cmp owner)) es) ≡ None
        → (lookup (is_at (slice_cmp nat_cmp owner)) es ≡ None → own_pairs m (insert_entry (slice_cmp nat_cmp) es owner f) ≡ own_pairs m es + rule_pairs m f)
        → own_pairs m (match_ordering o ((owner, f) ∷ e ∷ es) ((e.0, f) ∷ es) (e ∷ insert_entry (slice_cmp nat_cmp) es owner f)) ≡ own_pairs m (e ∷ es) + rule_pairs m f
    by Less there more = omega (arith, sum_by-cons (λ (x : List ℕ × RuleFields). rule_pairs m x.1) (owner, f) (e ∷ es))
    by Equal there more = absurd (cc)
    by Greater there more =
        omega (arith, more there, sum_by-cons (λ (x : List ℕ × RuleFields). rule_pairs m x.1) e (insert_entry (slice_cmp nat_cmp) es owner f), sum_by-cons (λ (x : List ℕ × RuleFields). rule_pairs m x.1) e es)

-- an object that had none has got a rule
pub pairs_own : (m : Meanings) (t : NatRules) (owner : List ℕ) (f : RuleFields) → own_rule t owner ≡ None → table_pairs m (with_own t owner f) ≡ table_pairs m t + rule_pairs m f
unfolding table_pairs
pairs_own m t owner f none = omega (arith, own_put m t.own owner f none)

own_taken : (m : Meanings) (own : List (List ℕ × RuleFields)) (owner : List ℕ) (f : RuleFields) → lookup (is_at (slice_cmp nat_cmp owner)) own ≡ Some f
    → own_pairs m (remove_entry (is_at (slice_cmp nat_cmp owner)) own) + rule_pairs m f ≡ own_pairs m own
own_taken m [] owner f found = absurd (cc)
own_taken m (e ∷ es) owner f found = by (is_at (slice_cmp nat_cmp owner) e.0) found (λ there. own_taken m es owner f there)
  where
    by : (b : Bool) → cond b (Some e.1) (lookup (is_at (slice_cmp nat_cmp owner)) es) ≡ Some f
        → (lookup (is_at (slice_cmp nat_cmp owner)) es ≡ Some f → own_pairs m (remove_entry (is_at (slice_cmp nat_cmp owner)) es) + rule_pairs m f ≡ own_pairs m es)
        → own_pairs m (cond b es (e ∷ remove_entry (is_at (slice_cmp nat_cmp owner)) es)) + rule_pairs m f ≡ own_pairs m (e ∷ es)
    by true here more =
        let this : e.1 ≡ f = cc in
        omega (arith, ap (rule_pairs m) this, sum_by-cons (λ (x : List ℕ × RuleFields). rule_pairs m x.1) e es)
    by false there more =
        omega (arith, more there, sum_by-cons (λ (x : List ℕ × RuleFields). rule_pairs m x.1) e (remove_entry (is_at (slice_cmp nat_cmp owner)) es), sum_by-cons (λ (x : List ℕ × RuleFields). rule_pairs m x.1) e es)

-- the rule of an object has gone
pub pairs_own_gone : (m : Meanings) (t : NatRules) (owner : List ℕ) (f : RuleFields) → own_rule t owner ≡ Some f → table_pairs m (without_own t owner) + rule_pairs m f ≡ table_pairs m t
unfolding table_pairs
pairs_own_gone m t owner f found = omega (arith, own_taken m t.own owner f found)

-- Where no rule has a fault, the table is judged by the rule that has come; and a rule that has gone brings none.
use Rattle.std.proofs.Common.{◌≡◌, ℕ, suc, Bool, true, false, cond, if◌then◌else◌, List, [], ◌∷◌, ◌++◌, length, take, drop, Option, Some, None, refl, sym, ap, ◌∙◌}
use Rattle.std.specs.Option.{option_map}
use Rattle.std.specs.declared.cmp.Ordering.{Ordering}
use Rattle.std.specs.declared.cmp.Ordering.TheVariants.{Less, Equal, Greater}
use Rattle.std.specs.Ordering.{is_eq, match_ordering, nat_cmp}
use Rattle.std.specs.Cmp.Lexicographic.{slice_cmp}
use Rattle.std.specs.BTreeMap.{is_at, insert_entry}
use Rattle.std.specs.Map.{lookup, remove_entry}
use Rattle.std.proofs.lemmas.List.{take-append-drop}
use Rattle.asa_nat_lines.specs.declared.rule.RuleFields.{RuleFields}
use Rattle.asa_nat_lines.specs.declared.grammar.NewRule.{NewRule}
use Rattle.asa_nat_rules.specs.Meanings.{Meanings}
use Rattle.asa_nat_table.specs.declared.fault.Placed.{Placed}
use Rattle.asa_nat_table.specs.declared.fault.RuleFault.{RuleFault}
use Rattle.asa_nat_table.specs.Rules.{NatRules, is_last, rules_before, section_rules, with_section, with_manual, without_manual, own_rule, with_own, without_own}
use Rattle.asa_nat_table.specs.Faults.{or_later, faulty, manual_fault, own_key, is_before, placed_fault, earlier, first_placed, own_fault, table_fault}

none_first : (a b : Option RuleFault) → or_later a b ≡ None → a ≡ None
none_first None b e = refl
none_first (Some x) b e = absurd (cc)

none_later : (a b : Option RuleFault) → or_later a b ≡ None → b ≡ None
none_later None b e = e
none_later (Some x) b e = absurd (cc)

or_none : (a : Option RuleFault) → or_later a None ≡ a
or_none None = refl
or_none (Some x) = refl

-- manual rules ---------------------------------------------------------------------------------------------------------

both_none : (a b : Option RuleFault) → a ≡ None → b ≡ None → or_later a b ≡ None
both_none a b ea eb = ap (λ x. or_later x b) ea ∙ eb

front_none : (m : Meanings) (xs ys : List RuleFields) → manual_fault m (xs ++ ys) ≡ None → manual_fault m xs ≡ None
front_none m [] ys e = refl
front_none m (x ∷ xs) ys e =
    both_none (faulty m None x) (manual_fault m xs) (none_first _ _ e) (front_none m xs ys (none_later (faulty m None x) (manual_fault m (xs ++ ys)) e))

rest_none : (m : Meanings) (xs ys : List RuleFields) → manual_fault m (xs ++ ys) ≡ None → manual_fault m ys ≡ None
rest_none m [] ys e = e
rest_none m (x ∷ xs) ys e = rest_none m xs ys (none_later (faulty m None x) (manual_fault m (xs ++ ys)) e)

after_none : (m : Meanings) (xs ys : List RuleFields) → manual_fault m xs ≡ None → manual_fault m (xs ++ ys) ≡ manual_fault m ys
after_none m [] ys e = refl
after_none m (x ∷ xs) ys e =
    ap (λ a. or_later a (manual_fault m (xs ++ ys))) (none_first (faulty m None x) (manual_fault m xs) e)
    ∙ after_none m xs ys (none_later (faulty m None x) (manual_fault m xs) e)

taken_none : (m : Meanings) (rules : List RuleFields) (i : ℕ) → manual_fault m rules ≡ None → manual_fault m (take i rules) ≡ None
taken_none m rules i e = front_none m (take i rules) (drop i rules) (ap (manual_fault m) (take-append-drop i rules) ∙ e)

dropped_none : (m : Meanings) (rules : List RuleFields) (i : ℕ) → manual_fault m rules ≡ None → manual_fault m (drop i rules) ≡ None
dropped_none m rules i e = rest_none m (take i rules) (drop i rules) (ap (manual_fault m) (take-append-drop i rules) ∙ e)

section_put : (m : Meanings) (rules : List RuleFields) (i : ℕ) (f : RuleFields) → manual_fault m rules ≡ None
    → manual_fault m (take i rules ++ f ∷ drop i rules) ≡ faulty m None f
section_put m rules i f e =
    after_none m (take i rules) (f ∷ drop i rules) (taken_none m rules i e) ∙ ap (or_later (faulty m None f)) (dropped_none m rules i e) ∙ or_none (faulty m None f)

section_gone : (m : Meanings) (rules : List RuleFields) (i : ℕ) → manual_fault m rules ≡ None → manual_fault m (take i rules ++ drop (suc i) rules) ≡ None
section_gone m rules i e = after_none m (take i rules) (drop (suc i) rules) (taken_none m rules i e) ∙ dropped_none m rules (suc i) e

-- the three parts of a table without a fault have none
record Sound (m : Meanings) (t : NatRules) : Type 0 where
  first : manual_fault m t.first ≡ None
  own : own_fault m t.own ≡ None
  last : manual_fault m t.last ≡ None

sound : (m : Meanings) (t : NatRules) → table_fault m t ≡ None → Sound m t
unfolding table_fault
sound m t e =
    let later = none_later (manual_fault m t.first) (or_later (own_fault m t.own) (manual_fault m t.last)) e in
    record { first = none_first (manual_fault m t.first) _ e; own = none_first (own_fault m t.own) (manual_fault m t.last) later; last = none_later (own_fault m t.own) (manual_fault m t.last) later }

three : (a b c x : Option RuleFault) → a ≡ None → b ≡ None → c ≡ x → or_later a (or_later b c) ≡ x
three a b c x ea eb ec = ap (λ v. or_later v (or_later b c)) ea ∙ ap (λ v. or_later v c) eb ∙ ec

three_first : (a b c x : Option RuleFault) → a ≡ x → b ≡ None → c ≡ None → or_later a (or_later b c) ≡ x
three_first a b c x ea eb ec = ap (λ v. or_later v (or_later b c)) ea ∙ ap (or_later x) (ap (λ v. or_later v c) eb ∙ ec) ∙ or_none x

-- a table without a fault, of which one section has another fault
section_fault : (m : Meanings) (t : NatRules) (f : RuleFields) (rules : List RuleFields) (x : Option RuleFault) → Sound m t → manual_fault m rules ≡ x
    → table_fault m (with_section t f rules) ≡ x
unfolding table_fault
section_fault m t f rules x ok e = by (is_last f)
  where
    by : (last : Bool) → table_fault m (if last then record t { last = rules } else record t { first = rules }) ≡ x
    by true = three (manual_fault m t.first) (own_fault m t.own) (manual_fault m rules) x ok.first ok.own e
    by false = three_first (manual_fault m rules) (own_fault m t.own) (manual_fault m t.last) x e ok.own ok.last

section_sound : (m : Meanings) (t : NatRules) (f : RuleFields) → Sound m t → manual_fault m (section_rules t f) ≡ None
section_sound m t f ok = by (is_last f)
  where
    by : (last : Bool) → manual_fault m (if last then t.last else t.first) ≡ None
    by true = ok.last
    by false = ok.first

-- a manual rule has come
pub fault_manual : (m : Meanings) (t : NatRules) (new : NewRule) → table_fault m t ≡ None → table_fault m (with_manual t new) ≡ faulty m None new.rule
unfolding with_manual
fault_manual m t new e =
    let ok = sound m t e in
    let rules = section_rules t new.rule in
    section_fault m t new.rule _ (faulty m None new.rule) ok (section_put m rules (rules_before new.place (length rules)) new.rule (section_sound m t new.rule ok))

-- a manual rule has gone
pub fault_gone : (m : Meanings) (t : NatRules) (f : RuleFields) (place : ℕ) → table_fault m t ≡ None → table_fault m (without_manual t f place) ≡ None
unfolding without_manual
fault_gone m t f place e =
    let ok = sound m t e in
    section_fault m t f _ None ok (section_gone m (section_rules t f) place (section_sound m t f ok))

-- rules of objects -----------------------------------------------------------------------------------------------------

-- one of two that are there is there
chosen : (b : Bool) (x y : Placed) → (if b then Some y else Some x) ≡ None → Some x ≡ None
chosen true x y e = absurd (cc)
chosen false x y e = e

unplaced_first : (a b : Option Placed) → earlier a b ≡ None → a ≡ None
unplaced_first None b e = refl
unplaced_first (Some x) None e = absurd (cc)
unplaced_first (Some x) (Some y) e = chosen (is_before y.key x.key) x y e

unplaced_later : (a b : Option Placed) → earlier a b ≡ None → b ≡ None
unplaced_later None b e = e
unplaced_later (Some x) None e = refl
unplaced_later (Some x) (Some y) e = let no : Some x ≡ None = chosen (is_before y.key x.key) x y e in absurd (cc)

earlier_none : (a : Option Placed) → earlier a None ≡ a
earlier_none None = refl
earlier_none (Some x) = refl

unmapped : (p : Option Placed) → option_map (λ (x : Placed). x.fault) p ≡ None → p ≡ None
unmapped None e = refl
unmapped (Some x) e = absurd (cc)

placed_put : (m : Meanings) (own : List (List ℕ × RuleFields)) (owner : List ℕ) (f : RuleFields) → lookup (is_at (slice_cmp nat_cmp owner)) own ≡ None
    → first_placed m own ≡ None → first_placed m (insert_entry (slice_cmp nat_cmp) own owner f) ≡ placed_fault m owner f
placed_put m [] owner f none e = earlier_none (placed_fault m owner f)
placed_put m (x ∷ xs) owner f none e =
    by (slice_cmp nat_cmp owner x.0) none (λ there. placed_put m xs owner f there (unplaced_later (placed_fault m x.0 x.1) (first_placed m xs) e))
  where
    by : (o : Ordering) → cond (is_eq o) (Some x.1) (lookup (is_at (slice_cmp nat_cmp owner)) xs) ≡ None
        → (lookup (is_at (slice_cmp nat_cmp owner)) xs ≡ None → first_placed m (insert_entry (slice_cmp nat_cmp) xs owner f) ≡ placed_fault m owner f)
        → first_placed m (match_ordering o ((owner, f) ∷ x ∷ xs) ((x.0, f) ∷ xs) (x ∷ insert_entry (slice_cmp nat_cmp) xs owner f)) ≡ placed_fault m owner f
    by Less there more = ap (earlier (placed_fault m owner f)) e ∙ earlier_none (placed_fault m owner f)
    by Equal there more = absurd (cc)
    by Greater there more =
        ap (λ a. earlier a (first_placed m (insert_entry (slice_cmp nat_cmp) xs owner f))) (unplaced_first (placed_fault m x.0 x.1) (first_placed m xs) e) ∙ more there

placed_is : (m : Meanings) (owner : List ℕ) (f : RuleFields) → option_map (λ (p : Placed). p.fault) (placed_fault m owner f) ≡ faulty m (Some owner) f
placed_is m owner f = by (faulty m (Some owner) f)
  where
    by : (o : Option RuleFault) → option_map (λ (p : Placed). p.fault) (option_map (λ why. record { key = own_key m owner f; fault = why }) o) ≡ o
    by None = refl
    by (Some x) = refl

-- an object that had none has got a rule
pub fault_own : (m : Meanings) (t : NatRules) (owner : List ℕ) (f : RuleFields) → own_rule t owner ≡ None → table_fault m t ≡ None
    → table_fault m (with_own t owner f) ≡ faulty m (Some owner) f
unfolding table_fault
fault_own m t owner f none e =
    let ok = sound m t e in
    let put = placed_put m t.own owner f none (unmapped (first_placed m t.own) ok.own) in
    let here : own_fault m (insert_entry (slice_cmp nat_cmp) t.own owner f) ≡ faulty m (Some owner) f = ap (option_map (λ (p : Placed). p.fault)) put ∙ placed_is m owner f in
    ap (λ v. or_later v (or_later (own_fault m (insert_entry (slice_cmp nat_cmp) t.own owner f)) (manual_fault m t.last))) ok.first
    ∙ ap (λ v. or_later v (manual_fault m t.last)) here ∙ ap (or_later (faulty m (Some owner) f)) ok.last ∙ or_none (faulty m (Some owner) f)

placed_gone : (m : Meanings) (test : List ℕ → Bool) (own : List (List ℕ × RuleFields)) → first_placed m own ≡ None → first_placed m (remove_entry test own) ≡ None
placed_gone m test [] e = refl
placed_gone m test (x ∷ xs) e = by (test x.0) (placed_gone m test xs (unplaced_later (placed_fault m x.0 x.1) (first_placed m xs) e))
  where
    by : (b : Bool) → first_placed m (remove_entry test xs) ≡ None → first_placed m (cond b xs (x ∷ remove_entry test xs)) ≡ None
    by true rest = unplaced_later (placed_fault m x.0 x.1) (first_placed m xs) e
    by false rest =
        ap (λ a. earlier a (first_placed m (remove_entry test xs))) (unplaced_first (placed_fault m x.0 x.1) (first_placed m xs) e) ∙ rest

-- the rule of an object has gone
pub fault_own_gone : (m : Meanings) (t : NatRules) (owner : List ℕ) → table_fault m t ≡ None → table_fault m (without_own t owner) ≡ None
unfolding table_fault
fault_own_gone m t owner e =
    let ok = sound m t e in
    let gone = placed_gone m (is_at (slice_cmp nat_cmp owner)) t.own (unmapped (first_placed m t.own) ok.own) in
    three (manual_fault m t.first) (own_fault m (remove_entry (is_at (slice_cmp nat_cmp owner)) t.own)) (manual_fault m t.last) None ok.first (ap (option_map (λ (p : Placed). p.fault)) gone) ok.last

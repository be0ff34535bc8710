use Rattle.std.proofs.Common.{◌≡◌, ℕ, ◌+◌, ◌*◌, ◌<◌, ◌≤◌, List, ◌∷◌, length, drop, get_or, sym, subst, ap, ◌∙◌, arith, rules}
use Rattle.std.specs.List.{All}
use Rattle.std.proofs.lemmas.List.{at_drop_more}
use Rattle.std.proofs.lemmas.List.Elements.{All-cons}
use Rattle.std.proofs.lemmas.List.Sums.{sum_by-cons}
use Rattle.asa_base.specs.declared.flow.NatPlace.{NatPlace}
use Rattle.asa_nat_rules.specs.declared.case.Case.{Case}
use Rattle.asa_nat_rules.specs.Pairs.{case_pairs}
use Rattle.asa_nat_index.specs.Matches.{IsNarrow, pairs_of}
use Rattle.asa_nat_index.proofs.tests.index_of.Goals as goal

-- one case more of at most 16 pairs
one_more : (p a b t i : ℕ) → p ≤ 16 * i + t → t ≡ a + b → a ≤ 16 → p ≤ 16 * (i + 1) + b
one_more p a b t i before is few = grind arith

-- what is left of the cases, one case on
next_left : (ks : List (NatPlace × Case)) (i : ℕ) (k : NatPlace × Case) → i < length ks → k ≡ get_or ks i k → drop i ks ≡ k ∷ drop (i + 1) ks
next_left ks i k less is = at_drop_more (λ xs. xs) ks i k less ∙ ap (λ x. x ∷ drop (i + 1) ks) (sym is)

taken : (ks : List (NatPlace × Case)) (i : ℕ) (k : NatPlace × Case) → drop i ks ≡ k ∷ drop (i + 1) ks → IsNarrow k → case_pairs k.1 ≤ 16
    → ((All IsNarrow (drop i ks) → All IsNarrow ks) × (pairs_of ks ≤ 16 * i + pairs_of (drop i ks)))
    → (All IsNarrow (drop (i + 1) ks) → All IsNarrow ks) × (pairs_of ks ≤ 16 * (i + 1) + pairs_of (drop (i + 1) ks))
taken ks i k left narrow few before = (
  λ rest. before.0 (subst (All IsNarrow) (sym left) (All-cons IsNarrow k (drop (i + 1) ks) narrow rest)),
  one_more (pairs_of ks) (case_pairs k.1) (pairs_of (drop (i + 1) ks)) (pairs_of (drop i ks)) i before.1
      (ap pairs_of left ∙ sum_by-cons (λ x. case_pairs x.1) k (drop (i + 1) ks)) few,
)

pub loop-case-preserved : goal.loop-case-preserved
loop-case-preserved c = taken c.args.cases.now c.loop-case.case-index c.case-item.result
    (next_left c.args.cases.now c.loop-case.case-index c.case-item.result c.loop-case-test.true c.case-item.is)
    (c.is_small.ensures.narrow (search rules)) (c.is_small.ensures.few (search rules)) c.loop-case.invariant

-- The entries that were compiled are those of the list without their lines, in some order.
use Rattle.std.proofs.Common.{◌≡◌, ℕ, Bool, List, map, slice_get, option_and_then, ap, ◌∙◌, subst}
use Rattle.std.specs.List.Sorted.{IsPermutation}
use Rattle.asa_pair_trie.specs.Pairs.{first_of}
use Rattle.asa_access_entries.specs.Matches.{Placed, entries_covering}
use Rattle.asa_access.proofs.RankLaws.{match_held, covering_held}
use Rattle.asa_access.proofs.compiled.Compiled.build.Goals as goal

pub returns-clause-first : goal.returns-clause-first
returns-clause-first c p =
    let es : List Placed = c.args.list.now.entries in
    let bare : c.as_slice.result.now ≡ map (λ (x : Placed). x.0) es =
    c.as_slice.ensures.value ∙ c.in_ok-bare.ensures ∙ ap (map (λ (x : Placed). x.0)) c.as_slice-entries.ensures.value in
    let lines : c.in_ok-lines.lines.items ≡ map (λ (x : Placed). (x.1, x.2)) es =
    c.in_ok-lines.ensures ∙ ap (map (λ (x : Placed). (x.1, x.2))) c.as_slice-entries.ensures.value in
    let first = ap (λ (ls : List (ℕ × Bool)). option_and_then (slice_get ls) (first_of c.in_ok-pairs.pairs p)) lines
    ∙ match_held es c.in_ok-pairs.pairs p c.as_slice-entries.ensures.ranked (subst (λ xs. IsPermutation xs c.in_ok-pairs.pairs) bare c.in_ok-pairs.ensures) in
    λ i. record { name = c.copy.ensures i; first = first i }

pub returns-clause-covering : goal.returns-clause-covering
unfolding entries_covering
returns-clause-covering c p =
    let bare : c.as_slice.result.now ≡ map (λ (x : Placed). x.0) c.args.list.now.entries =
    c.as_slice.ensures.value ∙ c.in_ok-bare.ensures ∙ ap (map (λ (x : Placed). x.0)) c.as_slice-entries.ensures.value in
    covering_held c.args.list.now.entries c.in_ok-pairs.pairs p (subst (λ xs. IsPermutation xs c.in_ok-pairs.pairs) bare c.in_ok-pairs.ensures)

use Rattle.std.proofs.Common.{◌≡◌, ◌≤◌, ◌++◌, ◌∷◌, [], Some, length, sym, ap, ◌∙◌, subst, arith}
use Rattle.asa_trie.specs.Tries.{node_at}
use Rattle.asa_pair_trie.specs.declared.arenas.Slot.{Slot}
use Rattle.asa_pair_trie.specs.Lookup.{IsRising}
use Rattle.asa_pair_trie.proofs.SlotLaws.{rising_push}
use Rattle.asa_pair_trie.proofs.chains.Chains.push.Goals as goal

pub invariant_of-self-2 : goal.invariant_of-self-2
invariant_of-self-2 c =
    let pushed : c.push.new.self.items ≡ c.self.inside.entries.items ++ c.args.slot ∷ [] =
    c.in_ok-push.ensures.items ∙ ap (λ s. c.self.inside.entries.items ++ s ∷ []) c.new.ensures in
    subst (λ xs. IsRising xs) (sym pushed) (rising_push c.self.inside.entries.items c.args.slot c.self.invariant
    (omega (arith, ap length c.self.view_is))
    (subst (λ xs. (t : Slot) → node_at xs c.args.slot.next ≡ Some t → c.args.slot.entry.rank ≤ t.entry.rank) (sym c.self.view_is) c.requires.rises))

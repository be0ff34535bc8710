use Rattle.std.specs.BTreeMap.{BTreeMap, is_at}
use Rattle.std.specs.Map.{lookup}
use Rattle.std.specs.Ordering.{nat_cmp}
use Rattle.std.specs.Cmp.Lexicographic.{slice_cmp}
use Rattle.std.specs.BTreeSet.{BTreeSet}
use Rattle.std.proofs.Common.{◌≡◌, ℕ, List, ◌||◌, ◌&&◌, true, cond, is_some, sym, ap, ◌∙◌, None, Some}
use Rattle.asa_objects_values.specs.Tables.{same_name}
use Rattle.asa_objects_table.specs.Ranks.{has_name, users_of}
use Rattle.asa_objects_table.proofs.UseLaws.{users-added, users-kept, on-err, as-cond}
use Rattle.asa_objects_table.proofs.users.add_use.Goals as goal

pub returns-in-Some-clause-ok : goal.returns-in-Some-clause-ok
returns-in-Some-clause-ok c = users-added c.args.uses.now.entries (c.get_mut.follows.lender c.insert.new.self).entries c.args.name.now c.args.user.now (Some c.in-Some.users.now) c.insert.new.self
    (sym c.in-Some.ensures.value) (λ q. ((c.get_mut.follows.holds c.insert.new.self).3 (ap is_some (sym c.in-Some.ensures.value))).0 q)
    (λ u. c.in_ok-insert.ensures.updates.0 u ∙ ap (λ k. cond (same_name k u) true (has_name c.in-Some.users.now.keys u)) c.copy.ensures)

pub returns-in_err-insert-clause-err : goal.returns-in_err-insert-clause-err
returns-in_err-insert-clause-err c = on-err _ c.from_residual.result
    (users-kept c.args.uses.now.entries (c.get_mut.follows.lender c.insert.new.self).entries c.args.name.now c.in-Some.users.now c.insert.new.self
    (sym c.in-Some.ensures.value) (λ q. ((c.get_mut.follows.holds c.insert.new.self).3 (ap is_some (sym c.in-Some.ensures.value))).0 q) c.in_err-insert.ensures.err)

pub returns-clause-ok : goal.returns-clause-ok
returns-clause-ok c = λ q u.
    let same : c.get_mut.follows.lender-at-none ≡ c.args.uses.now = c.get_mut.follows.holds-at-none in
    users-added c.get_mut.follows.lender-at-none.entries c.insert-2.new.self.entries c.args.name.now c.args.user.now None c.in_ok-users.users
    (ap (λ (m : BTreeMap (List ℕ) (BTreeSet (List ℕ))). lookup (is_at (slice_cmp nat_cmp c.args.name.now)) m.entries) same ∙ sym c.in_default.ensures.value)
    (λ k. c.in_ok-insert-2.ensures.updates.0 k ∙ ap (λ n. cond (same_name n k) (Some c.in_ok-users.users) (lookup (is_at (slice_cmp nat_cmp k)) c.get_mut.follows.lender-at-none.entries)) c.copy-2.ensures)
    (λ v. c.in_ok-users.ensures v ∙ as-cond (same_name c.args.user.now v)) q u
    ∙ ap (λ (m : BTreeMap (List ℕ) (BTreeSet (List ℕ))). has_name (users_of m.entries q) u || (same_name c.args.user.now u && same_name c.args.name.now q)) same

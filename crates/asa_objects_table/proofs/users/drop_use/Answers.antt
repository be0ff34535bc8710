use Rattle.std.specs.BTreeMap.{BTreeMap}
use Rattle.std.specs.BTreeSet.{BTreeSet}
use Rattle.asa_objects_table.specs.Ranks.{has_name, users_of}
use Rattle.std.proofs.Common.{◌≡◌, ℕ, List, ◌∙◌, sym, ap, is_some, Some}
use Rattle.asa_objects_table.proofs.UseLaws.{users-dropped, users-none}
use Rattle.asa_objects_table.proofs.users.drop_use.Goals as goal

pub returns-in-Some : goal.returns-in-Some
returns-in-Some c = users-dropped c.args.uses.now.entries (c.get_mut.follows.lender c.remove.new.self).entries c.args.name.now c.args.user.now (Some c.in-Some.users.now) c.remove.new.self
    (sym c.in-Some.ensures.value) (λ q. ((c.get_mut.follows.holds c.remove.new.self).3 (ap is_some (sym c.in-Some.ensures.value))).0 q) (λ u. c.remove.ensures.updates.0 u)

pub returns-in_default : goal.returns-in_default
returns-in_default c = λ q u.
    let same : c.get_mut.follows.lender-at-none ≡ c.args.uses.now = c.get_mut.follows.holds-at-none in
    ap (λ (m : BTreeMap (List ℕ) (BTreeSet (List ℕ))). has_name (users_of m.entries q) u) same ∙ users-none c.args.uses.now.entries c.args.name.now c.args.user.now (sym c.in_default.ensures.value) q u

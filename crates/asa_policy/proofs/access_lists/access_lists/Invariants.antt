-- The lists so far stand for the first ones of the configuration that are bound somewhere.
use Rattle.std.proofs.Common.{◌≡◌, ◌++◌, ◌≤◌, ℕ, Bool, List, length, map, drop}
use Rattle.std.specs.Str.{bytes_eq}
use Rattle.asa_base.specs.declared.flow.Packet.{Packet}
use Rattle.asa_access.specs.Lists.{covering_in, has_side, match_of}
use Rattle.asa_config.specs.Settings.{has_name}
use Rattle.asa_policy.specs.Access.{covering_under, match_in}
use Rattle.asa_policy.specs.AccessLists.{bound_among, is_bound_at}
use Rattle.asa_policy.proofs.access_lists.access_lists.Given as goal

abbrev pub invariant-loop-n : goal.invariant-loop-n
invariant-loop-n l = record {
  first : (p : Packet) → map (match_of p) l.lists.items ++ map (match_in l.config p) (bound_among l.config (drop l.n l.config.lists)) ≡ map (match_in l.config p) (bound_among l.config l.config.lists);
  sides : (side : ℕ × Bool) → map (has_side side) l.lists.items ++ map (λ x. is_bound_at l.config.bound x.name side) (bound_among l.config (drop l.n l.config.lists)) ≡ map (λ x. is_bound_at l.config.bound x.name side) (bound_among l.config l.config.lists);
  named : (name : List ℕ) → map (λ x. bytes_eq name x.name) l.lists.items ++ map (has_name name) (bound_among l.config (drop l.n l.config.lists)) ≡ map (has_name name) (bound_among l.config l.config.lists);
  covering : (p : Packet) → map (covering_in p) l.lists.items ++ map (covering_under l.config p) (bound_among l.config (drop l.n l.config.lists)) ≡ map (covering_under l.config p) (bound_among l.config l.config.lists);
  most : length l.lists.items ≤ l.n;
}

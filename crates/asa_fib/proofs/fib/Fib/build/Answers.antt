use Rattle.std.proofs.Common.{[], length, ap, ◌∙◌, arith, subst}
use Rattle.std.specs.List.{All, Contains}
use Rattle.asa_fib.specs.Routes.{route_of}
use Rattle.asa_fib.specs.Lookup.{links, kept}
use Rattle.asa_fib.specs.Growth.{prefix_of, FibGrown}
use Rattle.asa_trie.proofs.BlockLaws.{whole_block}
use Rattle.asa_trie.proofs.TrieLaws.{nested_none}
use Rattle.asa_fib.proofs.KeptLaws.{built_finds, built_routes}
use Rattle.asa_fib.proofs.fib.Fib.build.Goals as goal

pub grow-requires : goal.grow-requires
grow-requires c = record {
  few = omega arith;
  whole = c.in_ok-routes.ensures.whole;
  within = whole_block prefix_of c.in_ok-routes.routes.items c.in_ok-routes.ensures.few;
  room = omega (arith, ap length c.new-nodes.ensures.items, ap length c.in_ok-routes.ensures.same, c.requires);
}

pub invariant_of-result : goal.invariant_of-result
invariant_of-result c =
    let g : FibGrown [] c.grow.new.nodes.items c.in_ok-_root._root 33 c.in_ok-routes.routes.items =
    subst (λ ns. FibGrown ns c.grow.new.nodes.items c.in_ok-_root._root 33 c.in_ok-routes.routes.items) c.new-nodes.ensures.items c.in_ok-_root.ensures in
    record {
      trie = record { few = omega (arith, g.nodes.few, ap length c.in_ok-routes.ensures.same, c.requires); nested = g.nodes.nested (nested_none links) };
      finds = built_finds c.in_ok-_root._root c.grow.new.nodes.items c.in_ok-routes.routes.items g;
    }

pub returns : goal.returns
returns c =
    let g : FibGrown [] c.grow.new.nodes.items c.in_ok-_root._root 33 c.in_ok-routes.routes.items =
    subst (λ ns. FibGrown ns c.grow.new.nodes.items c.in_ok-_root._root 33 c.in_ok-routes.routes.items) c.new-nodes.ensures.items c.in_ok-_root.ensures in
    record {
      best = λ a. built_routes c.in_ok-_root._root c.grow.new.nodes.items c.in_ok-routes.routes.items g a ∙ ap (λ rs. route_of rs a) c.in_ok-routes.ensures.same;
      given = subst (λ rs. All (Contains rs) (kept c.grow.new.nodes.items)) c.in_ok-routes.ensures.same g.given;
    }

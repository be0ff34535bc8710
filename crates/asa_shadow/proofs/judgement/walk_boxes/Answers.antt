use Rattle.std.proofs.Common.{◌≡◌, ◌≤◌, ◌+◌, ◌∷◌, ◌++◌, [], drop, rules}
use Rattle.asa_shadow.specs.CutTrees.{cuts_of, tree_of}
use Rattle.asa_shadow.specs.Walks.{AreLeft, IsWalked, named, trees_over}
use Rattle.asa_shadow.proofs.WalkLaws.{trees_next}
use Rattle.asa_shadow.proofs.FindingLaws.{left_reached, left_tree}
use Rattle.asa_shadow.proofs.judgement.walk_boxes.Goals as goal

pub returns-in-None-clause-reached : goal.returns-in-None-clause-reached
returns-in-None-clause-reached c =
    let earlier = named c.args.boxes.now c.args.earlier.now in
    let t = tree_of earlier c.start-item.result.region in
    let next = trees_next earlier c.args.starts.now c.loop-start.start-index c.start-item.result c.loop-start-test.true c.start-item.is in
    let left = rw next at c.loop-start.invariant.left in
    let reached : c.args.limit ≤ c.loop-start.found.cuts + cuts_of t = rw c.in-None.is at c.in_ok-walk.ensures.reached in
    left_reached (trees_over earlier c.args.starts.now) c.loop-start.found c.loop-start.trees t (trees_over earlier (drop (c.loop-start.start-index + 1) c.args.starts.now))
    c.args.limit left reached

pub loop-start-preserved : goal.loop-start-preserved
loop-start-preserved c =
    let earlier = named c.args.boxes.now c.args.earlier.now in
    let t = tree_of earlier c.start-item.result.region in
    let next = trees_next earlier c.args.starts.now c.loop-start.start-index c.start-item.result c.loop-start-test.true c.start-item.is in
    let left = rw next at c.loop-start.invariant.left in
    let walked : IsWalked t c.loop-start.found c.in-Some.walk.nodes.items c.in-Some.walk.found = rw c.in-Some.is at c.in_ok-walk.ensures.walked in
    let pushed : c.push.new.self ≡ c.loop-start.trees ++ c.in-Some.walk.nodes.items ∷ [] = search rules in
    record {
      left = rw pushed (left_tree (trees_over earlier c.args.starts.now) c.loop-start.found c.in-Some.walk.found c.loop-start.trees c.in-Some.walk.nodes.items t
          (trees_over earlier (drop (c.loop-start.start-index + 1) c.args.starts.now)) left walked);
      below = rw c.in-Some.is at c.in_ok-walk.ensures.below;
    }

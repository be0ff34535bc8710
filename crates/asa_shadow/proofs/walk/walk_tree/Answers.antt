use Rattle.std.proofs.Common.{◌≡◌, ◌∷◌, ◌++◌, ◌≤◌, [], List, rules, refl, ap, sym, ◌∙◌, arith, length}
use Rattle.asa_shadow.specs.declared.walk.Part.{Part}
use Rattle.asa_shadow.specs.Walks.{part_tree, pending}
use Rattle.asa_shadow.proofs.WalkLaws.{left_start, left_step, fewer_step, left_none, left_cuts}
use Rattle.asa_shadow.proofs.walk.walk_tree.Goals as goal

pub loop-part-init : goal.loop-part-init
loop-part-init c = record {
  left =
      let one : c.push.new.self.items ≡ c.args.root ∷ [] = search rules in
      let empty : c.new.result.items ≡ [] = search rules in
      rw empty (left_start c.args.boxes.now c.args.found c.args.root c.push.new.self.items one);
  below = c.requires;
}

pub returns-then-walk-limit-clause-reached : goal.returns-then-walk-limit-clause-reached
returns-then-walk-limit-clause-reached c =
    let popped : c.loop-part.walk.waiting.items ≡ c.pop.new.self.items ++ c.in-Some.part ∷ [] = search rules in
    let left = left_step c.args.boxes.now c.in-Some.part c.args.found (part_tree c.args.boxes.now c.args.root) c.loop-part.walk.nodes.items c.loop-part.walk.found
    c.loop-part.walk.waiting.items _ c.step.new.self c.loop-part.invariant.left popped refl refl c.in_ok-step.ensures in
    let most = left_cuts c.args.boxes.now c.args.found (part_tree c.args.boxes.now c.args.root) c.step.new.self.nodes.items c.step.new.self.found c.step.new.self.waiting.items left in
    omega arith

pub loop-part-smaller : goal.loop-part-smaller
loop-part-smaller c =
    let popped : c.loop-part.walk.waiting.items ≡ c.pop.new.self.items ++ c.in-Some.part ∷ [] = search rules in
    fewer_step c.args.boxes.now c.in-Some.part c.loop-part.walk.waiting.items _ c.step.new.self popped c.in_ok-step.ensures

pub loop-part-preserved : goal.loop-part-preserved
loop-part-preserved c = record {
  left =
      let popped : c.loop-part.walk.waiting.items ≡ c.pop.new.self.items ++ c.in-Some.part ∷ [] = search rules in
      left_step c.args.boxes.now c.in-Some.part c.args.found (part_tree c.args.boxes.now c.args.root) c.loop-part.walk.nodes.items c.loop-part.walk.found
      c.loop-part.walk.waiting.items _ c.step.new.self c.loop-part.invariant.left popped refl refl c.in_ok-step.ensures;
  below = c.if-walk-limit.false;
}

pub returns-clause-walked : goal.returns-clause-walked
returns-clause-walked c =
    let none : c.loop-part.walk.waiting.items ≡ [] = search rules in
    left_none c.args.boxes.now c.args.found (part_tree c.args.boxes.now c.args.root) c.loop-part.walk.nodes.items c.loop-part.walk.found
    c.loop-part.walk.waiting.items none c.loop-part.invariant.left

use Rattle.std.proofs.Common.{◌≡◌, ◌^◌, ◌<◌, take}
use Rattle.std.specs.Bool.{IsTrue}
use Rattle.std.specs.List.{All}
use Rattle.asa_fib.specs.Growth.{prefix_of, is_whole}
use Rattle.asa_fib.proofs.growth.copied.Given as goal

abbrev pub invariant-loop-route : goal.invariant-loop-route
invariant-loop-route l = record {
  same : l.all.items ≡ take l.route-index l.routes;
  few : All (λ r. (prefix_of r).addr.0 < 2 ^ 32) l.all.items;
  whole : All (λ r. IsTrue (is_whole r)) l.all.items;
}

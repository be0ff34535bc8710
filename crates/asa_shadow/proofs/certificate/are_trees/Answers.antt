use Rattle.std.proofs.Common.{◌≡◌, List, [], drop, sym, ◌∙◌, arith}
use Rattle.std.proofs.lemmas.List.{drop_all}
use Rattle.asa_shadow.specs.declared.box_at.BoxAt.{BoxAt}
use Rattle.asa_shadow.specs.Certificates.{is_certificate}
use Rattle.asa_shadow.proofs.CertificateLaws.{no_tree_left}
use Rattle.asa_shadow.proofs.certificate.are_trees.Goals as goal

pub returns : goal.returns
unfolding is_certificate
returns c =
    let none : drop c.loop-found.found-index c.args.boxes.now ≡ [] = drop_all c.loop-found.found-index c.args.boxes.now (omega arith) in
    sym (no_tree_left c.args.boxes.now c.args.line c.loop-found.next c.args.trees.now c.loop-found.invariant.within) ∙ (rw none at c.loop-found.invariant.same)

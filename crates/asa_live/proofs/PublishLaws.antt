-- Publishing one more entry that fits keeps the rule of the copies.
use Rattle.std.proofs.Common.{◌≡◌, ℕ, [], ◌∷◌, ◌++◌, Option, sym}
use Rattle.left_right.specs.Register.{TurnsAt}
use Rattle.asa_live.specs.declared.deed.Deed.{Deed}
use Rattle.asa_live.specs.declared.front.Front.{Front}
use Rattle.asa_live.proofs.ReachLaws.{reaches_more}
use Rattle.asa_live.proofs.StepLaws.{Holds, Look, goes}

pub publishes : {S E L T : Type 0} (is_first : S → Type 0) (next : S → E → L → S) (fits : S → E → L → Type 0) (st : T → S) (fr : T → Front E L)
    → (seat : ℕ) (v : Option (Front E L)) (x y : T) (d : Deed E L)
    → (fr y).seen.book ≡ (fr x).seen.book → (fr y).seen.log ≡ (fr x).seen.log ++ d ∷ [] → fits (st x) d.entry d.load → st y ≡ next (st x) d.entry d.load
    → TurnsAt (Holds is_first next fits st fr) seat v x y (Look is_first next fits st fr)
publishes is_first next fits st fr seat v x y d books logs fit step = goes is_first next fits st fr seat v x y (sym books, (d ∷ [], sym logs))
    (λ r. rw (logs, step) (reaches_more is_first next fits (fr x).seen.log (st x) d r fit))

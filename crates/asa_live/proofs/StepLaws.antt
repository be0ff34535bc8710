-- Each step of `left_right` keeps the rule of the copies. `st` and `fr` are the state and the front of a copy.
use Rattle.std.proofs.Common.{◌≡◌, ◌≢◌, ℕ, List, set, refl, sym, subst, ⊎_elim, ◌∙◌, Option, Some, None}
use mathlib.Core.Option.{some}
use lib.ListN.{get_elem?}
use Rattle.left_right.specs.Register.{Admits, Turns, TurnsAt, Forks, Merges}
use Rattle.atomic_table.proofs.Lists.{at_set, at_snoc}
use Rattle.asa_live.specs.declared.front.Front.{Front}
use Rattle.asa_live.specs.History.{Reaches}
use Rattle.asa_live.specs.Copies.{Behind, Kept, Enters}
use Rattle.asa_live.proofs.PrefixLaws.{prefix_self, prefix_trans}

pub behind_self : {E L : Type 0} (f : Front E L) → Behind f f
behind_self f = (refl, prefix_self f.seen.log)

pub behind_trans : {E L : Type 0} (f g h : Front E L) → Behind f g → Behind g h → Behind f h
behind_trans f g h p q = (p.0 ∙ q.0, prefix_trans f.seen.log g.seen.log h.seen.log p.1 q.1)

module _ {S E L T : Type 0} (is_first : S → Type 0) (next : S → E → L → S) (fits : S → E → L → Type 0) (st : T → S) (fr : T → Front E L) where
  abbrev pub Holds : T → List (Option (Front E L)) → Type 0
  Holds x views = Kept is_first next fits (st x) (fr x) views

  abbrev pub Look : Option (Front E L) → T → T → Option (Front E L) → Type 0
  Look v x y w = Enters is_first next fits v (st y) (fr y) w

  pub admits : Admits Holds None
  admits x views h = (
    h.0,
    (λ seat known at. ⊎_elim (λ (e : get_elem? views seat ≡ some (Some known)). h.1 seat known e) (λ (e : None ≡ Some known). absurd (cc e)) (at_snoc views None (Some known) seat at)),
  )

  -- whoever looks at the copy that goes from x to y
  pub goes : (seat : ℕ) (v : Option (Front E L)) (x y : T) → Behind (fr x) (fr y) → (Reaches is_first next fits (fr x).seen.log (st x) → Reaches is_first next fits (fr y).seen.log (st y))
      → TurnsAt Holds seat v x y Look
  goes seat v x y on reach views h at = (
    Some (fr y),
    (
      reach h.0,
      (λ j known e. ⊎_elim (λ (t : (j ≡ seat) × (Some (fr y) ≡ Some known)). let same : fr y ≡ known = cc (t.1) in subst (λ (f : Front E L). Behind f (fr y)) same (behind_self (fr y)))
          (λ (t : (j ≢ seat) × (get_elem? views j ≡ some (Some known))). behind_trans known (fr x) (fr y) (h.1 j known t.1) on)
          (at_set views seat j (Some (fr y)) (Some known) e)),
    ),
    (
      reach h.0,
      (λ known e. behind_trans known (fr x) (fr y) (h.1 seat known (subst (λ (o : Option (Front E L)). get_elem? views seat ≡ some o) e at)) on),
      refl,
    ),
  )

  pub looks : (seat : ℕ) (v : Option (Front E L)) → Turns Holds seat v (λ x. x) Look
  looks seat v x = goes seat v x x (behind_self (fr x)) (λ r. r)

  pub forks : (seat : ℕ) (v : Option (Front E L)) → Forks Holds seat v v v
  forks seat v x views h at = (
    h.0,
    (λ j known e.
        let here : v ≡ Some known → Behind known (fr x) = λ (same : v ≡ Some known). h.1 seat known (subst (λ (o : Option (Front E L)). get_elem? views seat ≡ some o) same at) in
        ⊎_elim (λ (old : get_elem? (set views seat v) j ≡ some (Some known)).
        ⊎_elim (λ (t : (j ≡ seat) × (v ≡ Some known)). here t.1) (λ (t : (j ≢ seat) × (get_elem? views j ≡ some (Some known))). h.1 j known t.1) (at_set views seat j v (Some known) old))
        here
        (at_snoc (set views seat v) v (Some known) j e)),
  )

  pub merges : (seat : ℕ) (v : Option (Front E L)) (other : ℕ) (w : Option (Front E L)) → Merges Holds seat v other w w None
  merges seat v other w x views h at apart there = (
    h.0,
    (λ j known e.
        let told : w ≡ Some known → Behind known (fr x) = λ (same : w ≡ Some known).
        ⊎_elim (λ (t : (other ≡ seat) × (w ≡ w)). absurd (apart t.0)) (λ (t : (other ≢ seat) × (get_elem? views other ≡ some w)). h.1 other known (subst (λ (o : Option (Front E L)). get_elem? views other ≡ some o) same t.1)) (at_set views seat other w w there) in
        ⊎_elim (λ (t : (j ≡ other) × (None ≡ Some known)). absurd (cc (t.1)))
        (λ (t : (j ≢ other) × (get_elem? (set views seat w) j ≡ some (Some known))).
        ⊎_elim (λ (u : (j ≡ seat) × (w ≡ Some known)). told u.1) (λ (u : (j ≢ seat) × (get_elem? views j ≡ some (Some known))). h.1 j known u.1) (at_set views seat j w (Some known) t.1))
        (at_set (set views seat w) other j None (Some known) e)),
  )

  -- a publication without changes is a look
  pub republishes : (seat : ℕ) (v : Option (Front E L)) (x y : T) → y ≡ x → TurnsAt Holds seat v x y Look
  republishes seat v x y same = subst (λ (z : T). TurnsAt Holds seat v x z Look) (sym same) (looks seat v x)

-- The look-up of the ends of earlier packets.
use Rattle.std.proofs.Common.{◌≡◌, ℕ, Bool, true, false, cond, ◌||◌, eqb, List, [], ◌∷◌, ◌++◌, refl, sym, ap, ◌∙◌, arith}
use Rattle.std.proofs.lemmas.Bool.Decides.{nat_tests}
use Rattle.std.proofs.lemmas.List.Folds.{list_any-append}
use Rattle.std.specs.List.{list_any}
use Rattle.asa_base.specs.declared.flow.Packet.{Packet}
use Rattle.asa_session.specs.declared.flows.Ends.{Ends}
use Rattle.asa_session.specs.Scripts.{same_ends}
use Rattle.asa_session.specs.Directions.{same_direction, ends_of, turned, has_direction, Finds}

regroup : (a b c d : Bool) → ((a || b) || (c || d)) ≡ ((a || c) || (b || d))
regroup true b c d = refl
regroup false true true d = refl
regroup false true false d = refl
regroup false false c d = refl

-- some packet has the two ends exactly where one has them in the one direction or in the other
pub any_same_ends : (p : Packet) (packets : List Packet) → list_any (same_ends p) packets ≡ (has_direction packets (ends_of p) || has_direction packets (turned (ends_of p)))
any_same_ends p [] = refl
any_same_ends p (q ∷ more) =
    ap (λ b. same_ends p q || b) (any_same_ends p more)
    ∙ regroup (same_direction (ends_of p) (ends_of q)) (same_direction (turned (ends_of p)) (ends_of q)) (has_direction more (ends_of p)) (has_direction more (turned (ends_of p)))

eqb_comm : (a b : ℕ) → eqb a b ≡ eqb b a
eqb_comm a b = grind (arith, nat_tests)

same_direction_comm : (a b : Ends) → same_direction a b ≡ same_direction b a
same_direction_comm a b = rw (eqb_comm a.from.addr.0 b.from.addr.0, eqb_comm a.from.port b.from.port, eqb_comm a.to.addr.0 b.to.addr.0, eqb_comm a.to.port b.to.port) refl

or_after : (a b : Bool) → cond a true b ≡ (b || (a || false))
or_after true true = refl
or_after true false = refl
or_after false true = refl
or_after false false = refl

-- a look-up among the keys with those of one more packet
pub finds_push : (old new : List Ends) (packets : List Packet) (p : Packet) (key : Ends) → key ≡ ends_of p
    → ((e : Ends) → list_any (same_direction e) new ≡ cond (same_direction key e) true (list_any (same_direction e) old))
    → Finds old packets → Finds new (packets ++ p ∷ [])
finds_push old new packets p key is puts finds = λ e.
    puts e
    ∙ ap (λ b. cond (same_direction key e) true b) (finds e)
    ∙ ap (λ b. cond b true (has_direction packets e)) (same_direction_comm key e)
    ∙ or_after (same_direction e key) (has_direction packets e)
    ∙ ap (λ k. has_direction packets e || (same_direction e k || false)) is
    ∙ sym (list_any-append (λ q. same_direction e (ends_of q)) packets (p ∷ []))

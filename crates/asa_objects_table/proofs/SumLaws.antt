-- The difference between the new totals of a name and its old ones goes to the names that refer to it.
use Rattle.std.proofs.Common.{◌≡◌, ℕ, ◌+◌, ◌*◌, ◌<◌, ◌⊎◌, inl, inr, Bool, true, false, cond, ◌||◌, List, [], ◌∷◌, take, drop, Option, Some, None, Result, Ok, Err, is_some, OnOk, refl, sym, ap, subst, ◌∙◌, arith}
use Rattle.std.specs.List.Sorted.{IsStrictlySortedBy}
use Rattle.std.specs.Ordering.{nat_cmp}
use Rattle.std.specs.Cmp.Lexicographic.{slice_cmp}
use Rattle.std.proofs.lemmas.List.{take-append-drop}
use Rattle.asa_objects_lines.specs.declared.statement.Item.{Item}
use Rattle.asa_objects_lines.specs.declared.statement.Item.TheVariants as item
use Rattle.asa_objects_table.specs.Amounts.{Amounts}
use Rattle.asa_objects_table.specs.declared.rank.Rank.{Rank}
use Rattle.asa_objects_values.specs.declared.faults.ObjectFault.{ObjectFault}
use Rattle.asa_objects_values.specs.declared.faults.ObjectFault.TheVariants as fault
use Rattle.asa_objects_values.specs.Spreads.{total, weight_of}
use Rattle.asa_objects_values.specs.Tables.{Entry, Table, entry_of, group_at, items_in, items_of, named, refers_to, same_name}
use Rattle.asa_objects_table.specs.Ranks.{IsSound, Part, members, services, amount, amount_in, amount_of, Ranks, Uses, rank_of, users_of, has_name, weigh, own_totals}
use Rattle.asa_objects_table.specs.RunningTotals.{Running, sum_of, or_old, sum_now, ArePassed, AreRunning}
use Rattle.asa_objects_table.specs.Renewals.{newer, amount_now, totals_in_rank, summed, times, times_among, AreMoved, AreSums, IsOver, IsRenewed, IsTold, Limits, Sums}
use Rattle.asa_objects_values.proofs.LabelLaws.{same-is}
use Rattle.asa_objects_values.proofs.ReachLaws.{any-append, test_of}
use Rattle.asa_objects_table.proofs.TotalLaws.{amount-rank}
use Rattle.asa_objects_table.proofs.PassLaws.{times-none, among-users}
use Rattle.asa_objects_table.proofs.ToldLaws.{sum-told}

add-times : (a b n : ℕ) → (a + b) * n ≡ a * n + b * n
add-times a b n = grind arith

-- one more of the users has counted
pub pass-more : (c r a old new now init next : ℕ) → now + (c + r) * new + a * old ≡ init + a * new + (c + r) * old → next + c * old ≡ now + c * new
    → next + r * new + a * old ≡ init + a * new + r * old
pass-more c r a old new now init next was one = let d = add-times c r new in let e = add-times c r old in omega arith

-- one more name is new
module _ (k : Part) (t : Table) (ranks new made : Ranks) (n : List ℕ) (rank : Rank) (absent : rank_of new n ≡ None)
    (put : (q : List ℕ) → rank_of made q ≡ cond (same_name n q) (Some rank) (rank_of new q)) where
  weight-moved : (o : Option (List ℕ)) → weight_of (amount_now k made ranks) o + cond (test_of (same_name n) o) 1 0 * amount k (totals_in_rank (rank_of ranks n))
      ≡ weight_of (amount_now k new ranks) o + cond (test_of (same_name n) o) 1 0 * amount k rank.totals
  weight-moved None = omega arith
  weight-moved (Some c) = by (same_name n c) refl (put c)
    where
      by : (b : Bool) → same_name n c ≡ b → rank_of made c ≡ cond b (Some rank) (rank_of new c)
          → amount_now k made ranks c + cond b 1 0 * amount k (totals_in_rank (rank_of ranks n)) ≡ amount_now k new ranks c + cond b 1 0 * amount k rank.totals
      by true e p =
          let left : amount_now k made ranks c ≡ amount k rank.totals = ap (λ o. amount_in k (newer o (rank_of ranks c))) p in
          let right : amount_now k new ranks c ≡ amount k (totals_in_rank (rank_of ranks n)) =
          ap (λ m. amount_now k new ranks m) (sym (same-is n c e)) ∙ ap (λ o. amount_in k (newer o (rank_of ranks n))) absent ∙ amount-rank k (rank_of ranks n) in
          omega arith
      by false e p =
          let same : amount_now k made ranks c ≡ amount_now k new ranks c = ap (λ o. amount_in k (newer o (rank_of ranks c))) p in
          omega arith

  refers-is : (i : Item) → refers_to n i ≡ test_of (same_name n) (named i)
  refers-is (item.Object m) = refl
  refers-is (item.Group m) = refl
  refers-is (item.Network _) = refl
  refers-is (item.Service _) = refl
  refers-is (item.Port _) = refl
  refers-is (item.Protocol _) = refl
  refers-is (item.IcmpType _) = refl

  sum-moved : (q : List ℕ) (xs : List Item) → total (weigh k t (amount_now k made ranks) q) xs + times n xs * amount k (totals_in_rank (rank_of ranks n))
      ≡ total (weigh k t (amount_now k new ranks) q) xs + times n xs * amount k rank.totals
  sum-moved q [] = omega arith
  sum-moved q (x ∷ xs) =
      let one : weight_of (amount_now k made ranks) (named x) + cond (refers_to n x) 1 0 * amount k (totals_in_rank (rank_of ranks n))
      ≡ weight_of (amount_now k new ranks) (named x) + cond (refers_to n x) 1 0 * amount k rank.totals =
      subst (λ (b : Bool). weight_of (amount_now k made ranks) (named x) + cond b 1 0 * amount k (totals_in_rank (rank_of ranks n))
      ≡ weight_of (amount_now k new ranks) (named x) + cond b 1 0 * amount k rank.totals) (sym (refers-is x)) (weight-moved (named x)) in
      both (amount k (own_totals (group_at (entry_of t q)) x)) (weight_of (amount_now k made ranks) (named x)) (weight_of (amount_now k new ranks) (named x)) (cond (refers_to n x) 1 0)
      (total (weigh k t (amount_now k made ranks) q) xs) (total (weigh k t (amount_now k new ranks) q) xs) (times n xs) (amount k (totals_in_rank (rank_of ranks n))) (amount k rank.totals)
      one (sum-moved q xs)
    where
      both : (o a b c x y m f g : ℕ) → a + c * f ≡ b + c * g → x + m * f ≡ y + m * g → o + a + x + (c + m) * f ≡ o + b + y + (c + m) * g
      both o a b c x y m f g h i = let d = add-times c m f in let e = add-times c m g in omega arith

  pub summed-moved : (q : List ℕ) → summed k t made ranks q + times n (items_of t q) * amount k (totals_in_rank (rank_of ranks n)) ≡ summed k t new ranks q + times n (items_of t q) * amount k rank.totals
  summed-moved q = sum-moved q (items_of t q)

-- nothing has moved
nothing : (a b c old new : ℕ) → a ≡ b → c ≡ 0 → a + c * old ≡ b + c * new
nothing a b c old new same none = ap (λ x. x + c * old) same ∙ ap (λ x. b + x * old) none ∙ both b old new ∙ sym (ap (λ x. b + x * new) none)
  where
    both : (b old new : ℕ) → b + 0 * old ≡ b + 0 * new
    both b old new = omega arith

-- a user's running totals have moved
module _ (t : Table) (ranks : Ranks) (n user : List ℕ) (old new totals : Amounts) (s1 s2 : Running) (count : ℕ) (counted : count ≡ times n (items_of t user))
    (moved : AreMoved count old new (sum_now s1 ranks user) totals) where
  user-moved : ((q : List ℕ) → sum_of s2 q ≡ cond (same_name user q) (Some totals) (sum_of s1 q))
      → (q : List ℕ) → AreMoved (cond (same_name user q) (times n (items_of t q)) 0) old new (sum_now s1 ranks q) (sum_now s2 ranks q)
  user-moved put q k = by (same_name user q) refl (put q)
    where
      by : (b : Bool) → same_name user q ≡ b → sum_of s2 q ≡ cond b (Some totals) (sum_of s1 q)
          → amount k (sum_now s2 ranks q) + cond (same_name user q) (times n (items_of t q)) 0 * amount k old
          ≡ amount k (sum_now s1 ranks q) + cond (same_name user q) (times n (items_of t q)) 0 * amount k new
      by true e p =
          let is : user ≡ q = same-is user q e in
          ap (λ o. amount k (or_old o (totals_in_rank (rank_of ranks q))) + cond (same_name user q) (times n (items_of t q)) 0 * amount k old) p
          ∙ ap (λ (b : Bool). amount k totals + cond b (times n (items_of t q)) 0 * amount k old) e
          ∙ ap (λ c. amount k totals + c * amount k old) (sym (counted ∙ ap (λ u. times n (items_of t u)) is))
          ∙ moved k
          ∙ ap (λ c. amount k (sum_now s1 ranks user) + c * amount k new) (counted ∙ ap (λ u. times n (items_of t u)) is)
          ∙ ap (λ u. amount k (sum_now s1 ranks u) + times n (items_of t q) * amount k new) is
          ∙ sym (ap (λ (b : Bool). amount k (sum_now s1 ranks q) + cond b (times n (items_of t q)) 0 * amount k new) e)
      by false e p =
          let none : cond {A = ℕ} (same_name user q) (times n (items_of t q)) 0 ≡ 0 = ap (λ (b : Bool). cond {A = ℕ} b (times n (items_of t q)) 0) e in
          let same : amount k (sum_now s2 ranks q) ≡ amount k (sum_now s1 ranks q) = ap (λ o. amount k (or_old o (totals_in_rank (rank_of ranks q)))) p in
          nothing (amount k (sum_now s2 ranks q)) (amount k (sum_now s1 ranks q)) (cond (same_name user q) (times n (items_of t q)) 0) (amount k old) (amount k new) same none

  pub user-told : {E : Type 0} (r : Result (Unit {0}) E) → OnOk r ((q : List ℕ) → sum_of s2 q ≡ cond (same_name user q) (Some totals) (sum_of s1 q))
      → OnOk r ((q : List ℕ) → AreMoved (cond (same_name user q) (times n (items_of t q)) 0) old new (sum_now s1 ranks q) (sum_now s2 ranks q))
  user-told (Ok u) put = user-moved put
  user-told (Err f) put = tt

-- one more of the users is told
pub users-more : (t : Table) (ranks : Ranks) (n : List ℕ) (old new : Amounts) (us rest left : List (List ℕ)) (user : List ℕ) (s0 s1 s2 : Running) → left ≡ user ∷ rest
    → ((q : List ℕ) (k : Part) → amount k (sum_now s1 ranks q) + times_among t n left q * amount k new + times_among t n us q * amount k old
    ≡ amount k (sum_now s0 ranks q) + times_among t n us q * amount k new + times_among t n left q * amount k old)
    → ((q : List ℕ) → AreMoved (cond (same_name user q) (times n (items_of t q)) 0) old new (sum_now s1 ranks q) (sum_now s2 ranks q))
    → (q : List ℕ) (k : Part) → amount k (sum_now s2 ranks q) + times_among t n rest q * amount k new + times_among t n us q * amount k old
    ≡ amount k (sum_now s0 ranks q) + times_among t n us q * amount k new + times_among t n rest q * amount k old
users-more t ranks n old new us rest left user s0 s1 s2 is was one q k =
    pass-more (cond (same_name user q) (times n (items_of t q)) 0) (times_among t n rest q) (times_among t n us q) (amount k old) (amount k new)
    (amount k (sum_now s1 ranks q)) (amount k (sum_now s0 ranks q)) (amount k (sum_now s2 ranks q))
    (subst (λ xs. amount k (sum_now s1 ranks q) + times_among t n xs q * amount k new + times_among t n us q * amount k old
    ≡ amount k (sum_now s0 ranks q) + times_among t n us q * amount k new + times_among t n xs q * amount k old) is (was q k))
    (one q k)

-- all users are told
module _ (t : Table) (ranks : Ranks) (uses : Uses) (stamp : ℕ) (sound : IsSound t ranks uses stamp) (n : List ℕ) (old new : Amounts) (are : old ≡ totals_in_rank (rank_of ranks n)) where
  pub users-told : {E : Type 0} (us : List (List ℕ)) (s1 s2 : Running) → users_of uses n ≡ us → IsStrictlySortedBy (slice_cmp nat_cmp) us → (r : Result (Unit {0}) E)
      → OnOk r ((q : List ℕ) → AreMoved (times_among t n us q) old new (sum_now s1 ranks q) (sum_now s2 ranks q))
      → OnOk r (ArePassed t ranks n (totals_in_rank (rank_of ranks n)) new s1 s2)
  users-told us s1 s2 is sorted (Err f) told = tt
  users-told us s1 s2 is sorted (Ok u) told = λ q k.
      ap (λ c. amount k (sum_now s2 ranks q) + c * amount k (totals_in_rank (rank_of ranks n))) (sym (among-users t ranks uses stamp sound n us is sorted q))
      ∙ ap (λ (x : Amounts). amount k (sum_now s2 ranks q) + times_among t n us q * amount k x) (sym are)
      ∙ told q k
      ∙ ap (λ c. amount k (sum_now s1 ranks q) + c * amount k new) (among-users t ranks uses stamp sound n us is sorted q)

  pub none-told : (s : Running) → users_of uses n ≡ [] → ArePassed t ranks n (totals_in_rank (rank_of ranks n)) new s s
  none-told s is q k = nothing (amount k (sum_now s ranks q)) (amount k (sum_now s ranks q)) (times n (items_of t q)) (amount k (totals_in_rank (rank_of ranks n))) (amount k new) refl
      (times-none n (items_of t q) (sym (sound.used n q) ∙ ap (λ ns. has_name ns q) is))

-- running totals, at first and after one more name
module _ (t after : Table) (ranks : Ranks) (name : List ℕ) (told : Amounts) (names : List (List ℕ)) (is : IsTold t after ranks name told names) where
  pub run-start : (uses : Uses) (stamp : ℕ) → IsSound t ranks uses stamp → (new : Ranks) (sums : Running) → new ≡ [] → sums ≡ [] → AreRunning after new ranks name sums
  run-start uses stamp sound new sums no-ranks no-sums k q apart =
      ap (λ (s : Running). amount k (sum_now s ranks q)) no-sums ∙ sym (amount-rank k (rank_of ranks q)) ∙ sound.sums k q
      ∙ ap (λ (o : Option Entry). total (λ i. amount k (own_totals (group_at o) i) + weight_of (amount_of k ranks) (named i)) (items_in o)) (sym (is.others q apart))
      ∙ ap (λ (m : Ranks). summed k after m ranks q) (sym no-ranks)

  pub run-step : (new made : Ranks) (n : List ℕ) (rank : Rank) (s1 s2 : Running) → rank_of new n ≡ None → ((q : List ℕ) → rank_of made q ≡ cond (same_name n q) (Some rank) (rank_of new q))
      → ArePassed t ranks n (totals_in_rank (rank_of ranks n)) rank.totals s1 s2 → AreRunning after new ranks name s1 → AreRunning after made ranks name s2
  run-step new made n rank s1 s2 absent put passed running k q apart =
      both (amount k (sum_now s2 ranks q)) (amount k (sum_now s1 ranks q)) (times n (items_of after q) * amount k (totals_in_rank (rank_of ranks n))) (times n (items_of after q) * amount k rank.totals)
      (summed k after made ranks q) (summed k after new ranks q)
      (subst (λ xs. amount k (sum_now s2 ranks q) + times n xs * amount k (totals_in_rank (rank_of ranks n)) ≡ amount k (sum_now s1 ranks q) + times n xs * amount k rank.totals)
      (ap items_in (sym (is.others q apart))) (passed q k))
      (summed-moved k after ranks new made n rank absent put q) (running k q apart)
    where
      both : (b a old new f e : ℕ) → b + old ≡ a + new → f + old ≡ e + new → a ≡ e → b ≡ f
      both b a old new f e h i j = omega arith

-- totals that are the sums over a name's members, as far as they are within the limit
limits-sums : (after : Table) (ranks new : Ranks) (name : List ℕ) (run : Amounts) → AreSums after new ranks name run → (r : Result Amounts ObjectFault) → Limits run r → Sums after new ranks name r
limits-sums after ranks new name run sums (Ok totals) h = (λ k. ap (amount k) h.0 ∙ sums k, h.1, h.2)
limits-sums after ranks new name run sums (Err fault.TooMany) h = by h
  where
    by : (65536 < run.members) ⊎ (65536 < run.services) → IsOver after new ranks name
    by (inl lt) = inl (subst (λ n. 65536 < n) (sums members) lt)
    by (inr lt) = inr (subst (λ n. 65536 < n) (sums services) lt)
limits-sums after ranks new name run sums (Err fault.NoMemory) h = absurd h
limits-sums after ranks new name run sums (Err fault.NameTaken) h = h
limits-sums after ranks new name run sums (Err (fault.Unknown l c)) h = h
limits-sums after ranks new name run sums (Err (fault.Bad l c)) h = h
limits-sums after ranks new name run sums (Err (fault.Unsupported l c)) h = h
limits-sums after ranks new name run sums (Err (fault.Cycle l)) h = h
limits-sums after ranks new name run sums (Err (fault.NoSuchMember l)) h = h
limits-sums after ranks new name run sums (Err (fault.NoValue c)) h = h

-- what the code tells of a name's totals
module _ (t after : Table) (ranks : Ranks) (name : List ℕ) (told : Amounts) (names : List (List ℕ)) (is : IsTold t after ranks name told names) where
  pub sums-at : (new : Ranks) (sums : Running) (stamp i label : ℕ) (q : List ℕ) (r : Result Amounts ObjectFault) → IsRenewed after ranks stamp (take i names) new label
      → AreRunning after new ranks name sums → (same_name name q ≡ true → Limits told r) → (same_name name q ≡ false → Limits (sum_now sums ranks q) r) → Sums after new ranks q r
  sums-at new sums stamp i label q r renewed running here there = by (same_name name q) refl
    where
      none-of : (o : Option Rank) → is_some o ≡ false → o ≡ None
      none-of None h = refl
      none-of (Some x) h = absurd (cc)

      first : (b c : Bool) → (b || c) ≡ false → b ≡ false
      first false c h = refl
      first true c h = absurd (cc)

      old : (c : List ℕ) → has_name names c ≡ false → rank_of new c ≡ None
      old c out = none-of (rank_of new c) (renewed.covers c
          ∙ first (has_name (take i names) c) (has_name (drop i names) c) (sym (any-append _ (take i names) (drop i names)) ∙ ap (λ ns. has_name ns c) (take-append-drop i names) ∙ out))

      by : (b : Bool) → same_name name q ≡ b → Sums after new ranks q r
      by true e = subst (λ p. Sums after new ranks p r) (same-is name q e)
          (limits-sums after ranks new name told (λ k. is.sums k ∙ sum-told t after ranks name told names is new old k (items_of after name) is.apart) r (here e))
      by false e = limits-sums after ranks new q (sum_now sums ranks q) (λ k. running k q e) r (there e)

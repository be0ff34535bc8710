-- Told bytes that are taken or given part by part.
use Rattle.std.proofs.Common.{◌≡◌, ℕ, ◌+◌, ◌-◌, ◌≤◌, List, ◌++◌, length, take, drop, sym, ◌∙◌, ap, append_assoc, arith, length-append}
use Rattle.std.specs.Prelude.{Option, None, Some}
use Rattle.std.specs.Io.KnownBytes.{Appends, Consumes}
use Rattle.std.proofs.Math.Seq.{drop-append-add, take-add}
use Rattle.asa_io.specs.Told.{Exceeds}

-- where some bytes were taken already, what exceeds the rest of a limit exceeds the limit
pub exceeds_more : (old mid new : Option (List ℕ)) (front : List ℕ) (limit n : ℕ) → n ≡ length front → n ≤ limit → Consumes old mid front → Exceeds (limit - n) mid new → Exceeds limit old new
exceeds_more None mid new front limit n e few p q = tt
exceeds_more (Some xs) None new front limit n e few p q = absurd p
exceeds_more (Some xs) (Some ys) new front limit n e few p q =
    let whole : length xs ≡ length front + length ys = ap length p ∙ length-append front ys in
    let place : limit + 1 ≡ length front + (limit - n + 1) = omega arith in
    let rest : drop (limit + 1) xs ≡ drop (limit - n + 1) ys = ap (λ k. drop k xs) place ∙ ap (λ l. drop (length front + (limit - n + 1)) l) p ∙ drop-append-add front ys (limit - n + 1) in
    (omega arith, q.1 ∙ ap Some (sym rest))

-- the first bytes were given, and then some of the rest
pub appends_more : (old mid new : Option (List ℕ)) (bytes : List ℕ) (n m : ℕ) → Appends old mid (take n bytes) → Appends mid new (take m (drop n bytes)) → Appends old new (take (n + m) bytes)
appends_more None mid new bytes n m p q = tt
appends_more (Some xs) None new bytes n m p q = absurd p
appends_more (Some xs) (Some ys) None bytes n m p q = absurd q
appends_more (Some xs) (Some ys) (Some zs) bytes n m p q =
    q ∙ ap (λ l. l ++ take m (drop n bytes)) p ∙ append_assoc xs (take n bytes) (take m (drop n bytes)) ∙ ap (λ l. xs ++ l) (sym (take-add n m bytes))

-- bytes that were taken, and then more of them
pub consumes_more : (old mid new : Option (List ℕ)) (front more : List ℕ) → Consumes old mid front → Consumes mid new more → Consumes old new (front ++ more)
consumes_more None mid new front more p q = tt
consumes_more (Some xs) None new front more p q = absurd p
consumes_more (Some xs) (Some ys) None front more p q = absurd q
consumes_more (Some xs) (Some ys) (Some zs) front more p q =
    p ∙ ap (λ l. front ++ l) q ∙ sym (append_assoc front more zs)

-- A text that grows at its end piece by piece: what it has after several pieces.
use Rattle.std.proofs.Common.{◌≡◌, ℕ, List, ◌++◌, ap, ◌∙◌}
use Rattle.std.proofs.lemmas.List.{append_assoc}

-- one more piece
appended : (s t p w : List ℕ) → t ≡ s ++ w → t ++ p ≡ s ++ (w ++ p)
appended s t p w e = ap (λ x. x ++ p) e ∙ append_assoc s w p

pub joined_2 : (s0 s1 s2 a b : List ℕ) → s1 ≡ s0 ++ a → s2 ≡ s1 ++ b → s2 ≡ s0 ++ (a ++ b)
joined_2 s0 s1 s2 a b e1 e2 = e2 ∙ appended s0 s1 b a e1

pub joined_3 : (s0 s1 s2 s3 a b c : List ℕ) → s1 ≡ s0 ++ a → s2 ≡ s1 ++ b → s3 ≡ s2 ++ c → s3 ≡ s0 ++ (a ++ b ++ c)
joined_3 s0 s1 s2 s3 a b c e1 e2 e3 = e3 ∙ appended s0 s2 c (a ++ b) (joined_2 s0 s1 s2 a b e1 e2)

pub joined_4 : (s0 s1 s2 s3 s4 a b c d : List ℕ) → s1 ≡ s0 ++ a → s2 ≡ s1 ++ b → s3 ≡ s2 ++ c → s4 ≡ s3 ++ d → s4 ≡ s0 ++ (a ++ b ++ c ++ d)
joined_4 s0 s1 s2 s3 s4 a b c d e1 e2 e3 e4 = e4 ∙ appended s0 s3 d (a ++ b ++ c) (joined_3 s0 s1 s2 s3 a b c e1 e2 e3)

pub joined_5 : (s0 s1 s2 s3 s4 s5 a b c d e : List ℕ) → s1 ≡ s0 ++ a → s2 ≡ s1 ++ b → s3 ≡ s2 ++ c → s4 ≡ s3 ++ d → s5 ≡ s4 ++ e → s5 ≡ s0 ++ (a ++ b ++ c ++ d ++ e)
joined_5 s0 s1 s2 s3 s4 s5 a b c d e e1 e2 e3 e4 e5 = e5 ∙ appended s0 s4 e (a ++ b ++ c ++ d) (joined_4 s0 s1 s2 s3 s4 a b c d e1 e2 e3 e4)

pub joined_6 : (s0 s1 s2 s3 s4 s5 s6 a b c d e f : List ℕ) → s1 ≡ s0 ++ a → s2 ≡ s1 ++ b → s3 ≡ s2 ++ c → s4 ≡ s3 ++ d → s5 ≡ s4 ++ e → s6 ≡ s5 ++ f → s6 ≡ s0 ++ (a ++ b ++ c ++ d ++ e ++ f)
joined_6 s0 s1 s2 s3 s4 s5 s6 a b c d e f e1 e2 e3 e4 e5 e6 = e6 ∙ appended s0 s5 f (a ++ b ++ c ++ d ++ e) (joined_5 s0 s1 s2 s3 s4 s5 a b c d e e1 e2 e3 e4 e5)

pub joined_7 : (s0 s1 s2 s3 s4 s5 s6 s7 a b c d e f g : List ℕ) → s1 ≡ s0 ++ a → s2 ≡ s1 ++ b → s3 ≡ s2 ++ c → s4 ≡ s3 ++ d → s5 ≡ s4 ++ e → s6 ≡ s5 ++ f → s7 ≡ s6 ++ g → s7 ≡ s0 ++ (a ++ b ++ c ++ d ++ e ++ f ++ g)
joined_7 s0 s1 s2 s3 s4 s5 s6 s7 a b c d e f g e1 e2 e3 e4 e5 e6 e7 = e7 ∙ appended s0 s6 g (a ++ b ++ c ++ d ++ e ++ f) (joined_6 s0 s1 s2 s3 s4 s5 s6 a b c d e f e1 e2 e3 e4 e5 e6)

pub joined_8 : (s0 s1 s2 s3 s4 s5 s6 s7 s8 a b c d e f g h : List ℕ) → s1 ≡ s0 ++ a → s2 ≡ s1 ++ b → s3 ≡ s2 ++ c → s4 ≡ s3 ++ d → s5 ≡ s4 ++ e → s6 ≡ s5 ++ f → s7 ≡ s6 ++ g → s8 ≡ s7 ++ h → s8 ≡ s0 ++ (a ++ b ++ c ++ d ++ e ++ f ++ g ++ h)
joined_8 s0 s1 s2 s3 s4 s5 s6 s7 s8 a b c d e f g h e1 e2 e3 e4 e5 e6 e7 e8 = e8 ∙ appended s0 s7 h (a ++ b ++ c ++ d ++ e ++ f ++ g) (joined_7 s0 s1 s2 s3 s4 s5 s6 s7 a b c d e f g e1 e2 e3 e4 e5 e6 e7)

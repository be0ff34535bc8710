-- At how many places of lines a name stands, after its count has changed, and whether some line uses it.
use Rattle.std.proofs.Common.{◌≡◌, ℕ, ◌+◌, ◌-◌, ◌<◌, zero, suc, nat_lt, Bool, true, false, cond, ◌||◌, List, [], ◌∷◌, Option, Some, None, is_some, unwrap_or, refl, sym, ap, ◌∙◌, arith}
use Rattle.std.proofs.lemmas.Bool.{lt-ltb}
use Rattle.std.proofs.lemmas.Bool.Decides.{same_from_decides, Decides-like}
use Rattle.std.proofs.lemmas.List.Sums.{sum_by-cons}
use Rattle.std.proofs.lemmas.Slice.Eq.{bytes_eq-Decides}
use Rattle.std.specs.List.{list_any, sum_by, find}
use Rattle.std.specs.Map.{lookup}
use Rattle.std.specs.Str.{bytes_eq}
use Rattle.asa_acl_line.specs.declared.ace.Ace.{Ace}
use Rattle.asa_acl_line.specs.declared.ace.AclLine.{AclLine}
use Rattle.asa_acl_line.specs.declared.ace.AclLine.TheVariants as line
use Rattle.asa_acl_line.specs.Lines.{is_named, address_name, service_name, source_ports_name, dest_ports_name, ace_uses, line_uses}
use Rattle.asa_acl.specs.Acls.{AccessLines, list_uses}
use Rattle.asa_acl_table.specs.Uses.{count_of, times_at, times_in_entry, times_in, times_in_lines}
use Rattle.asa_acl_table.specs.Lists.{first_using, weight}

abbrev Counts : Type 0
Counts = List (List ℕ × ℕ)

bytes_eq-sym : (a b : List ℕ) → bytes_eq a b ≡ bytes_eq b a
bytes_eq-sym a b = same_from_decides (bytes_eq a b) (bytes_eq b a) (bytes_eq-Decides a b)
    (Decides-like (bytes_eq b a) (λ e. sym e) (λ e. sym e) (bytes_eq-Decides b a))

-- the count of one name becomes another
module _ (old new : Counts) (name key : List ℕ) (w : Option ℕ) (same : key ≡ name)
    (changes : (q : List ℕ) → lookup (bytes_eq q) new ≡ cond (bytes_eq key q) w (lookup (bytes_eq q) old)) where
  changed : (q : List ℕ) → count_of new q ≡ cond (bytes_eq q name) (unwrap_or w 0) (count_of old q)
  changed q = ap (λ (o : Option ℕ). unwrap_or o 0) (changes q)
      ∙ ap (λ (x : List ℕ). unwrap_or (cond (bytes_eq x q) w (lookup (bytes_eq q) old)) 0) same
      ∙ ap (λ (b : Bool). unwrap_or (cond b w (lookup (bytes_eq q) old)) 0) (bytes_eq-sym name q) ∙ by (bytes_eq q name)
    where
      by : (b : Bool) → unwrap_or (cond b w (lookup (bytes_eq q) old)) 0 ≡ cond b (unwrap_or w 0) (unwrap_or (lookup (bytes_eq q) old) 0)
      by true = refl
      by false = refl

  pub count_more : unwrap_or w 0 ≡ count_of old name + 1 → (q : List ℕ) → count_of new q ≡ count_of old q + times_at q (Some name)
  count_more more q = changed q ∙ by (bytes_eq q name) (bytes_eq-Decides q name).0
    where
      by : (b : Bool) → (b ≡ true → q ≡ name) → cond b (unwrap_or w 0) (count_of old q) ≡ count_of old q + cond b 1 0
      by true is = more ∙ ap (λ (x : List ℕ). count_of old x + 1) (sym (is refl))
      by false is = omega arith

  pub count_less : unwrap_or w 0 ≡ count_of old name - 1 → (q : List ℕ) → count_of new q ≡ count_of old q - times_at q (Some name)
  count_less less q = changed q ∙ by (bytes_eq q name) (bytes_eq-Decides q name).0
    where
      by : (b : Bool) → (b ≡ true → q ≡ name) → cond b (unwrap_or w 0) (count_of old q) ≡ count_of old q - cond b 1 0
      by true is = less ∙ ap (λ (x : List ℕ). count_of old x - 1) (sym (is refl))
      by false is = omega arith

-- the count of a name that is found
pub count_found : (es : Counts) (name : List ℕ) (o : Option ℕ) → lookup (bytes_eq name) es ≡ o → count_of es name ≡ unwrap_or o 0
count_found es name o found = ap (λ (x : Option ℕ). unwrap_or x 0) found

-- a name is used ---------------------------------------------------------------------------------------------------------

at_place : (q : List ℕ) (o : Option (List ℕ)) → is_named q o ≡ nat_lt 0 (times_at q o)
at_place q None = refl
at_place q (Some name) = by (bytes_eq q name)
  where
    by : (b : Bool) → b ≡ nat_lt 0 (cond b 1 0)
    by true = refl
    by false = refl

zero_plus : (b : ℕ) → b ≡ 0 + b
zero_plus b = omega arith

either : (a b : ℕ) → (nat_lt 0 a || nat_lt 0 b) ≡ nat_lt 0 (a + b)
either zero b = ap (nat_lt 0) (zero_plus b)
either (suc a) b = ap (λ (t : Bool). t || nat_lt 0 b) (lt-ltb 0 (suc a) (omega arith)) ∙ sym (lt-ltb 0 (suc a + b) (omega arith))

both : (s t : Bool) (a b : ℕ) → s ≡ nat_lt 0 a → t ≡ nat_lt 0 b → (s || t) ≡ nat_lt 0 (a + b)
both s t a b is also = ap (λ (x : Bool). x || t) is ∙ ap (λ (x : Bool). nat_lt 0 a || x) also ∙ either a b

used_entry : (q : List ℕ) (a : Ace) → ace_uses q a ≡ nat_lt 0 (times_in_entry q a)
unfolding ace_uses times_in_entry
used_entry q a =
    both _ _ _ _ (both _ _ _ _ (both _ _ _ _ (both _ _ _ _ (at_place q (service_name a.service)) (at_place q (source_ports_name a.service))) (at_place q (dest_ports_name a.service)))
    (at_place q (address_name a.source))) (at_place q (address_name a.dest))

used_line : (q : List ℕ) (l : AclLine) → line_uses q l ≡ nat_lt 0 (times_in q l)
unfolding line_uses times_in
used_line q (line.Ace a) = used_entry q a
used_line q (line.Remark text) = refl

used_lines : (q : List ℕ) (ls : List AclLine) → list_any (line_uses q) ls ≡ nat_lt 0 (times_in_lines q ls)
used_lines q [] = refl
used_lines q (l ∷ ls) =
    both (line_uses q l) (list_any (line_uses q) ls) (times_in q l) (times_in_lines q ls) (used_line q l) (used_lines q ls)
    ∙ ap (nat_lt 0) (sym (sum_by-cons (times_in q) l ls))

-- some list uses a name exactly where it is counted
pub used_times : (ts : List AccessLines) (q : List ℕ) → is_some (first_using ts q) ≡ nat_lt 0 (weight (times_in q) ts)
unfolding list_uses
used_times [] q = refl
used_times (t ∷ ts) q =
    here (list_uses q t) ∙ both (list_uses q t) (is_some (first_using ts q)) (times_in_lines q t.lines) (weight (times_in q) ts) (used_lines q t.lines) (used_times ts q)
    ∙ ap (nat_lt 0) (sym (sum_by-cons (λ x. times_in_lines q x.lines) t ts))
  where
    here : (b : Bool) → is_some (cond b (Some t) (first_using ts q)) ≡ (b || is_some (first_using ts q))
    here true = refl
    here false = refl

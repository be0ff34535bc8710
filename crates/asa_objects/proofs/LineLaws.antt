-- A line that is refused ends the block.
use Rattle.std.proofs.Common.{◌≡◌, ℕ, ◌+◌, ◌<◌, suc, List, ◌∷◌, length, drop, get_or, Err, sym, ap, subst, ◌∙◌}
use Rattle.std.proofs.Math.Seq.{drop-cons}
use Rattle.asa_text.specs.declared.lines.Line.{Line}
use Rattle.asa_objects_lines.specs.declared.kinds.BlockKind.{BlockKind}
use Rattle.asa_objects_lines.specs.declared.statement.Item.{Item}
use Rattle.asa_objects_values.specs.declared.faults.ObjectFault.{ObjectFault}
use Rattle.asa_objects_values.specs.declared.faults.ObjectFault.TheVariants as fault
use Rattle.asa_objects_values.specs.Tables.{Table}
use Rattle.asa_objects_values.specs.Definition.{Takes, after_line, after_lines, and_then}

ends : (t : Table) (name : List ℕ) (kind : BlockKind) (n : ℕ) (items : List Item) (l : Line) (ls : List Line) (f : ObjectFault) (new : List Item)
    → Takes (Err f) new (after_line t name kind n items l) → Takes (Err f) new (after_lines t name kind n items (l ∷ ls))
unfolding after_lines
ends t name kind n items l ls fault.NoMemory new takes = tt
ends t name kind n items l ls fault.TooMany new takes = ap (λ s. and_then s (λ next. after_lines t name kind (n + 1) next ls)) takes
ends t name kind n items l ls fault.NameTaken new takes = ap (λ s. and_then s (λ next. after_lines t name kind (n + 1) next ls)) takes
ends t name kind n items l ls (fault.Unknown i c) new takes = ap (λ s. and_then s (λ next. after_lines t name kind (n + 1) next ls)) takes
ends t name kind n items l ls (fault.Bad i c) new takes = ap (λ s. and_then s (λ next. after_lines t name kind (n + 1) next ls)) takes
ends t name kind n items l ls (fault.Unsupported i c) new takes = ap (λ s. and_then s (λ next. after_lines t name kind (n + 1) next ls)) takes
ends t name kind n items l ls (fault.Cycle i) new takes = ap (λ s. and_then s (λ next. after_lines t name kind (n + 1) next ls)) takes
ends t name kind n items l ls (fault.NoSuchMember i) new takes = ap (λ s. and_then s (λ next. after_lines t name kind (n + 1) next ls)) takes
ends t name kind n items l ls (fault.NoValue i) new takes = ap (λ s. and_then s (λ next. after_lines t name kind (n + 1) next ls)) takes

pub refused-at : (t : Table) (name : List ℕ) (kind : BlockKind) (members items : List Item) (lines : List Line) (i : ℕ) (l : Line) (f : ObjectFault) (new : List Item)
    → after_lines t name kind (i + 2) items (drop i lines) ≡ after_lines t name kind 2 members lines → i < length lines → l ≡ get_or lines i l
    → Takes (Err f) new (after_line t name kind (i + 2) items l) → Takes (Err f) new (after_lines t name kind 2 members lines)
refused-at t name kind members items lines i l f new fold lt is takes =
    subst (Takes (Err f) new) fold (subst (λ ls. Takes (Err f) new (after_lines t name kind (i + 2) items ls)) (sym cut) (ends t name kind (i + 2) items l (drop (suc i) lines) f new takes))
  where
    cut : drop i lines ≡ l ∷ drop (suc i) lines
    cut = drop-cons lines i l lt ∙ ap (λ m. m ∷ drop (suc i) lines) (sym is)

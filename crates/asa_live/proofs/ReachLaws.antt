-- One more entry that fits.
use Rattle.std.proofs.Common.{◌≡◌, List, [], ◌∷◌, ◌++◌, ap, sym, subst, ◌∙◌}
use Rattle.std.proofs.lemmas.List.Sums.{fold-append}
use Rattle.asa_live.specs.declared.deed.Deed.{Deed}
use Rattle.asa_live.specs.History.{after, EachFits, Reaches}

module _ {S E L : Type 0} (is_first : S → Type 0) (next : S → E → L → S) (fits : S → E → L → Type 0) where
  after-snoc : (first : S) (ds : List (Deed E L)) (d : Deed E L) → after next first (ds ++ d ∷ []) ≡ next (after next first ds) d.entry d.load
  after-snoc first ds d = fold-append (λ s d. next s d.entry d.load) first ds (d ∷ [])

  each_fits_more : (first : S) (ds : List (Deed E L)) (d : Deed E L) → EachFits next fits first ds → fits (after next first ds) d.entry d.load → EachFits next fits first (ds ++ d ∷ [])
  each_fits_more first [] d each fit = (fit, tt)
  each_fits_more first (x ∷ ds) d each fit = (each.0, each_fits_more (next first x.entry x.load) ds d each.1 fit)

  pub reaches_more : (ds : List (Deed E L)) (s : S) (d : Deed E L) → Reaches is_first next fits ds s → fits s d.entry d.load
      → Reaches is_first next fits (ds ++ d ∷ []) (next s d.entry d.load)
  reaches_more ds s d r fit = (
    r.0,
    r.1,
    ap (λ t. next t d.entry d.load) r.2 ∙ sym (after-snoc r.0 ds d),
    each_fits_more r.0 ds d r.3 (subst (λ t. fits t d.entry d.load) r.2 fit),
  )

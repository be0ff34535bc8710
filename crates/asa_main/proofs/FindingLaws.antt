-- The findings of lines and of lists that are gone over one by one.
use Rattle.std.proofs.Common.{◌≡◌, ℕ, ◌+◌, ◌<◌, ◌≤◌, List, [], ◌∷◌, ◌++◌, length, drop, get_or, slice_get, Option, Some, Result, Ok, Err, sym, ap, subst, ◌∙◌}
use Rattle.std.specs.List.{flat_map}
use Rattle.std.proofs.lemmas.List.{drop_more}
use Rattle.std.proofs.lemmas.Option.{slice_get_within, slice_get-get_or}
use Rattle.std.proofs.Math.ListN.{drop_of_length-le}
use Rattle.asa_acl_line.specs.declared.ace.AclLine.{AclLine}
use Rattle.asa_acl.specs.Acls.{AccessLines}
use Rattle.asa_config.specs.Settings.{Settings}
use Rattle.asa_shadow.specs.declared.box_at.BoxAt.{BoxAt}
use Rattle.asa_main.specs.declared.statuses.Status.{Status}
use Rattle.asa_main.specs.Outputs.{WritesTexts}
use Rattle.asa_main.specs.Shadows.{list_texts, texts_if_active, texts_from}
use Rattle.asa_main.proofs.WritingLaws.{writes_more, writes_stopped, writes_none}

-- the next line and those after it
texts_next : (name : List ℕ) (boxes : List BoxAt) (lines : List AclLine) (i : ℕ) (x l : AclLine) → i < length lines → x ≡ get_or lines i x → l ≡ x →
    texts_if_active name boxes (i + 1) l ++ texts_from name boxes (i + 1 + 1) (drop (i + 1) lines) ≡ texts_from name boxes (i + 1) (drop i lines)
texts_next name boxes lines i x l below here same =
    ap (λ y. texts_if_active name boxes (i + 1) y ++ texts_from name boxes (i + 1 + 1) (drop (i + 1) lines)) (same ∙ here)
    ∙ sym (ap (λ ls. texts_from name boxes (i + 1) ls) (drop_more lines i x below))

-- the next line was written, and then those after it
pub lines_on : (name : List ℕ) (boxes : List BoxAt) (lines : List AclLine) (i : ℕ) (x l : AclLine) (before mid : ℕ) (g g1 g2 : Option (List ℕ)) (f f1 f2 : ℕ) (r : Result ℕ Status) →
    i < length lines → x ≡ get_or lines i x → l ≡ x → WritesTexts (texts_if_active name boxes (i + 1) l) before g g1 f f1 (Ok mid) → f ≤ f1 →
    WritesTexts (texts_from name boxes (i + 1 + 1) (drop (i + 1) lines)) mid g1 g2 f1 f2 r → WritesTexts (texts_from name boxes (i + 1) (drop i lines)) before g g2 f f2 r
lines_on name boxes lines i x l before mid g g1 g2 f f1 f2 r below here same one later rest =
    subst (λ (ts : List (List ℕ)). WritesTexts ts before g g2 f f2 r) (texts_next name boxes lines i x l below here same)
    (writes_more (texts_if_active name boxes (i + 1) l) (texts_from name boxes (i + 1 + 1) (drop (i + 1) lines)) before mid g g1 g2 f f1 f2 r one later rest)

-- the next line wasn't written
pub lines_stopped : (name : List ℕ) (boxes : List BoxAt) (lines : List AclLine) (i : ℕ) (x l : AclLine) (before : ℕ) (g g' : Option (List ℕ)) (f f' : ℕ) (s : Status) →
    i < length lines → x ≡ get_or lines i x → l ≡ x → WritesTexts (texts_if_active name boxes (i + 1) l) before g g' f f' (Err s) →
    WritesTexts (texts_from name boxes (i + 1) (drop i lines)) before g g' f f' (Err s)
lines_stopped name boxes lines i x l before g g' f f' s below here same one =
    subst (λ (ts : List (List ℕ)). WritesTexts ts before g g' f f' (Err s)) (texts_next name boxes lines i x l below here same)
    (writes_stopped (texts_if_active name boxes (i + 1) l) (texts_from name boxes (i + 1 + 1) (drop (i + 1) lines)) before g g' f f' s one)

-- no line is left
pub lines_end : (name : List ℕ) (boxes : List BoxAt) (lines : List AclLine) (i : ℕ) (before : ℕ) (g : Option (List ℕ)) (f : ℕ) → length lines ≤ i →
    WritesTexts (texts_from name boxes (i + 1) (drop i lines)) before g g f f (Ok before)
lines_end name boxes lines i before g f past =
    subst (λ (ls : List AclLine). WritesTexts (texts_from name boxes (i + 1) ls) before g g f f (Ok before)) (sym (drop_of_length-le lines past)) (writes_none before g f)

-- the list at a place and those after it
lists_next : (c : Settings) (lists : List AccessLines) (n : ℕ) (x : AccessLines) → slice_get lists n ≡ Some x →
    list_texts c x ++ flat_map (list_texts c) (drop (n + 1) lists) ≡ flat_map (list_texts c) (drop n lists)
lists_next c lists n x here =
    let within = slice_get_within lists n x here in
    let there : Some (get_or lists n x) ≡ Some x = sym (slice_get-get_or lists n x within) ∙ here in
    let same : get_or lists n x ≡ x = cc in
    sym (ap (λ ls. flat_map (list_texts c) ls) (drop_more lists n x within ∙ ap (λ y. y ∷ drop (n + 1) lists) same))

-- the list at a place was written, and then those after it
pub lists_on : (c : Settings) (lists : List AccessLines) (n : ℕ) (x : AccessLines) (before mid : ℕ) (g g1 g2 : Option (List ℕ)) (f f1 f2 : ℕ) (r : Result ℕ Status) →
    slice_get lists n ≡ Some x → WritesTexts (list_texts c x) before g g1 f f1 (Ok mid) → f ≤ f1 →
    WritesTexts (flat_map (list_texts c) (drop (n + 1) lists)) mid g1 g2 f1 f2 r → WritesTexts (flat_map (list_texts c) (drop n lists)) before g g2 f f2 r
lists_on c lists n x before mid g g1 g2 f f1 f2 r here one later rest =
    subst (λ (ts : List (List ℕ)). WritesTexts ts before g g2 f f2 r) (lists_next c lists n x here)
    (writes_more (list_texts c x) (flat_map (list_texts c) (drop (n + 1) lists)) before mid g g1 g2 f f1 f2 r one later rest)

-- the list at a place wasn't written whole
pub lists_stopped : (c : Settings) (lists : List AccessLines) (n : ℕ) (x : AccessLines) (before : ℕ) (g g' : Option (List ℕ)) (f f' : ℕ) (s : Status) →
    slice_get lists n ≡ Some x → WritesTexts (list_texts c x) before g g' f f' (Err s) → WritesTexts (flat_map (list_texts c) (drop n lists)) before g g' f f' (Err s)
lists_stopped c lists n x before g g' f f' s here one =
    subst (λ (ts : List (List ℕ)). WritesTexts ts before g g' f f' (Err s)) (lists_next c lists n x here)
    (writes_stopped (list_texts c x) (flat_map (list_texts c) (drop (n + 1) lists)) before g g' f f' s one)

-- no list is left
pub lists_end : (c : Settings) (lists : List AccessLines) (n : ℕ) (before : ℕ) (g : Option (List ℕ)) (f : ℕ) → length lists ≤ n →
    WritesTexts (flat_map (list_texts c) (drop n lists)) before g g f f (Ok before)
lists_end c lists n before g f past =
    subst (λ (ls : List AccessLines). WritesTexts (flat_map (list_texts c) ls) before g g f f (Ok before)) (sym (drop_of_length-le lists past)) (writes_none before g f)

-- What becomes of the lists and of their pairs where a line or a list goes.
use Rattle.std.proofs.Common.{◌≡◌, ℕ, ◌+◌, ◌-◌, ◌≤◌, ◌<◌, Bool, true, false, cond, ◌||◌, List, [], ◌∷◌, length, get_or, Option, Some, None, is_some, slice_get, if◌then◌else◌, Ok, Decides, IsSomeAnd, refl, sym, ap, subst, ◌∙◌, arith}
use Rattle.std.specs.List.{list_all}
use Rattle.std.specs.Str.{bytes_eq}
use Rattle.std.proofs.lemmas.List.Quantifiers.{position-Some}
use Rattle.std.proofs.lemmas.Option.{slice_get-get_or}
use Rattle.std.proofs.lemmas.Bool.{and_parts, and_from}
use Rattle.std.proofs.lemmas.Slice.Eq.{bytes_eq-Decides}
use Rattle.asa_acl_line.specs.declared.ace.AclLine.{AclLine}
use Rattle.asa_acl_line.specs.Lines.{line_eq}
use Rattle.asa_acl.specs.Acls.{AccessLines, without_at, without_equal, without}
use Rattle.asa_acl_boxes.specs.Meanings.{Meanings}
use Rattle.asa_acl_boxes.specs.Pairs.{line_pairs, list_pairs}
use Rattle.asa_ifaces.specs.Interfaces.{Interfaces}
use Rattle.asa_objects_values.specs.Tables.{Table}
use Rattle.asa_acl_table.specs.Lists.{with_list, without_list, without_place}
use Rattle.asa_acl_table.specs.Names.{meanings_in, pairs_of_lists}
use Rattle.asa_acl_table.proofs.WeightLaws.{weight_taken, weight_without}
use Rattle.asa_text.specs.declared.blocks.Block.{Block}
use Rattle.asa_config_edit.specs.declared.fault.EditFault.TheVariants.{NoSuchLine}
use Rattle.asa_config_edit.specs.Refusals.{◌>>=◌, refused, top_read, top_text, alone}
use Rattle.asa_config.specs.declared.places.OldLine.{OldLine}
use Rattle.asa_config.specs.Settings.{Settings, has_name, list_among}
use Rattle.asa_config.specs.Grammar.{old_line}
use Rattle.asa_config.specs.Groups.{binds, is_name_there}
use Rattle.asa_config.specs.Lists.{without_line, place_in, known_line, line_gone, no_line_step}
use Rattle.asa_config.specs.Soundness.{IsKept, is_global_defined}
use Rattle.asa_config.proofs.KeptLaws.{there_with, kept_lists}

-- the pairs of all lists after a line has gone are fewer by its own
pub pairs_taken : (m : Meanings) (lists : List AccessLines) (name : List ℕ) (place : ℕ) (l : AccessLines) (pairs n : ℕ) → list_among lists name ≡ Some l → pairs ≡ pairs_of_lists m lists
    → IsSomeAnd (slice_get l.lines place) (λ item. n ≡ line_pairs m item) → (n ≤ pairs) × (pairs - n ≡ pairs_of_lists m (without_place lists place (list_among lists name)))
pairs_taken m lists name place l pairs n found counted at = by (slice_get l.lines place) refl at
  where
    by : (o : Option AclLine) → slice_get l.lines place ≡ o → IsSomeAnd o (λ item. n ≡ line_pairs m item)
        → (n ≤ pairs) × (pairs - n ≡ pairs_of_lists m (without_place lists place (list_among lists name)))
    by None there at = absurd at
    by (Some item) there told =
        let sum : pairs_of_lists m (without_place lists place (list_among lists name)) + line_pairs m item ≡ pairs_of_lists m lists = weight_taken (line_pairs m) lists name place l item found there in
        (omega (arith, sum, counted, told), omega (arith, sum, counted, told))

-- the line at a place has so many pairs
pub pairs_there : (m : Meanings) (lines : List AclLine) (place n : ℕ) (d : AclLine) → place < length lines → n ≡ line_pairs m (get_or lines place d) → IsSomeAnd (slice_get lines place) (λ item. n ≡ line_pairs m item)
pairs_there m lines place n d within told = subst (λ o. IsSomeAnd o (λ item. n ≡ line_pairs m item)) (sym (slice_get-get_or lines place d within)) told

-- and after a list has gone, by those of its lines
pub pairs_dropped : (m : Meanings) (lists : List AccessLines) (name : List ℕ) (l : AccessLines) (pairs n : ℕ) → list_among lists name ≡ Some l
    → pairs ≡ pairs_of_lists m lists → n ≡ list_pairs m l.lines → (n ≤ pairs) × (pairs - n ≡ pairs_of_lists m (without_list lists name))
pairs_dropped m lists name l pairs n found counted told =
    let sum : pairs_of_lists m (without_list lists name) + list_pairs m l.lines ≡ pairs_of_lists m lists = weight_without (line_pairs m) lists name l found in
    (omega (arith, sum, counted, told), omega (arith, sum, counted, told))

-- the step of a line that removes one that is there
pub no_line_steps : (c : Settings) (b : Block) (old : OldLine) (place : ℕ) (u : Unit {0}) → top_read b (old_line c (top_text b)) ≡ Ok old → place_in old.item (list_among c.lists old.list) ≡ Some place → alone b ≡ Ok u
    → no_line_step c b ≡ line_gone c old
unfolding no_line_step
no_line_steps c b old place u read there single =
    ap (λ r. r >>= λ o. known_line c o >>= λ _. alone b >>= λ _. line_gone c o) read
    ∙ ap (λ (p : Option ℕ). (if is_some p then Ok tt else refused 1 NoSuchLine) >>= λ _. alone b >>= λ _. line_gone c old) there
    ∙ ap (λ r. r >>= λ _. line_gone c old) single

-- a list has a line at the place where one is found
pub place_within : (item : AclLine) (o : Option AccessLines) (i : ℕ) → place_in item o ≡ Some i → IsSomeAnd o (λ l. i < length l.lines)
place_within item None i found = absurd (cc)
place_within item (Some l) i found = (position-Some (line_eq item) l.lines i item found).0

-- the line that goes is the first that equals the one that is told
pub place_equal : (lists : List AccessLines) (item : AclLine) (i : ℕ) (o : Option AccessLines) → place_in item o ≡ Some i → without_place lists i o ≡ without_line lists item o
unfolding without_equal
place_equal lists item i None found = refl
place_equal lists item i (Some l) found = ap (λ p. with_list lists (record l { lines = without l.lines p })) (sym found)

there_taken : (lists : List AccessLines) (i : ℕ) (o : Option AccessLines) (name : List ℕ) → is_some (list_among lists name) ≡ true → is_some (list_among (without_place lists i o) name) ≡ true
there_taken lists i None name there = there
there_taken lists i (Some l) name there = there_with lists (without_at l i) name ∙ there

pub kept_taken : (objects : Table) (net : Interfaces) (old new : List AccessLines) (pairs total : ℕ) (bound : List ((ℕ × Bool) × List ℕ)) (global : Option (List ℕ)) (name : List ℕ) (i : ℕ)
    → IsKept objects net old pairs bound global → new ≡ without_place old i (list_among old name)
    → total ≡ pairs_of_lists (meanings_in objects net.ifaces) (without_place old i (list_among old name)) → total ≤ 262144 → IsKept objects net new total bound global
kept_taken objects net old new pairs total bound global name i kept made counted few =
    subst (λ ls. IsKept objects net ls total bound global) (sym made)
    (kept_lists objects net old (without_place old i (list_among old name)) pairs total bound global kept counted few
    (λ other there. there_taken old i (list_among old name) other there))

-- another name stays
there_without : (lists : List AccessLines) (name other : List ℕ) → bytes_eq name other ≡ false → is_some (list_among lists other) ≡ true → is_some (list_among (without_list lists name) other) ≡ true
there_without [] name other apart there = there
there_without (l ∷ ls) name other apart there = by (has_name name l) (bytes_eq-Decides name l.name) there (λ more. there_without ls name other apart more)
  where
    rest : (b : Bool) → is_some (cond b (Some l) (list_among ls other)) ≡ true → (is_some (list_among ls other) ≡ true → is_some (list_among (without_list ls name) other) ≡ true)
        → is_some (cond b (Some l) (list_among (without_list ls name) other)) ≡ true
    rest true there more = refl
    rest false there more = more there

    gone : (b : Bool) → Decides b (other ≡ l.name) → name ≡ l.name → is_some (cond b (Some l) (list_among ls other)) ≡ true → is_some (list_among ls other) ≡ true
    gone true same is there = let both : bytes_eq name other ≡ true = (bytes_eq-Decides name other).1 (is ∙ sym (same.0 refl)) in absurd (cc)
    gone false same is there = there

    by : (b : Bool) → Decides b (name ≡ l.name) → is_some (list_among (l ∷ ls) other) ≡ true → (is_some (list_among ls other) ≡ true → is_some (list_among (without_list ls name) other) ≡ true)
        → is_some (list_among (cond b ls (l ∷ without_list ls name)) other) ≡ true
    by true same there more = gone (has_name other l) (bytes_eq-Decides other l.name) (same.0 refl) there
    by false same there more = rest (has_name other l) there more

or_parts : (a b : Bool) → (a || b) ≡ false → (a ≡ false) × (b ≡ false)
or_parts true b e = absurd (cc)
or_parts false b e = (refl, e)

all_without : (lists : List AccessLines) (name : List ℕ) (bs : List ((ℕ × Bool) × List ℕ)) → binds bs name ≡ false → list_all (λ b. is_some (list_among lists b.1)) bs ≡ true
    → list_all (λ b. is_some (list_among (without_list lists name) b.1)) bs ≡ true
all_without lists name [] apart all = refl
all_without lists name (b ∷ bs) apart all =
    let parts = and_parts (is_some (list_among lists b.1)) (list_all (λ b. is_some (list_among lists b.1)) bs) all in
    let sides = or_parts (bytes_eq name b.1) (binds bs name) apart in
    and_from (is_some (list_among (without_list lists name) b.1)) (list_all (λ b. is_some (list_among (without_list lists name) b.1)) bs)
    (there_without lists name b.1 sides.0 parts.0) (all_without lists name bs sides.1 parts.1)

pub kept_dropped : (objects : Table) (net : Interfaces) (old new : List AccessLines) (pairs total : ℕ) (bound : List ((ℕ × Bool) × List ℕ)) (global : Option (List ℕ)) (name : List ℕ)
    → IsKept objects net old pairs bound global → (binds bound name || is_name_there name global) ≡ false → new ≡ without_list old name
    → total ≡ pairs_of_lists (meanings_in objects net.ifaces) (without_list old name) → total ≤ 262144 → IsKept objects net new total bound global
kept_dropped objects net old new pairs total bound global name kept unbound made counted few =
    let sides = or_parts (binds bound name) (is_name_there name global) unbound in
    subst (λ ls. IsKept objects net ls total bound global) (sym made) (record {
      counted = counted;
      few = few;
      within = kept.within;
      defined = all_without old name bound sides.0 kept.defined;
      rising = kept.rising;
      global_defined = by global kept.global_defined sides.1;
    })
  where
    by : (g : Option (List ℕ)) → is_global_defined old g ≡ true → is_name_there name g ≡ false → is_global_defined (without_list old name) g ≡ true
    by None there apart = refl
    by (Some other) there apart = there_without old name other apart there

-- The findings of the lists of a configuration: of each active line whether some packet has it as its first match within
-- its list.
use Rattle.std.specs.Prelude.{ℕ, ◌+◌, Bool, false, List, [], ◌∷◌, ◌++◌, map, if◌then◌else◌}
use Rattle.std.specs.List.{flat_map}
use Rattle.asa_acl_line.specs.declared.ace.AclLine.{AclLine}
use Rattle.asa_acl_line.specs.declared.ace.AclLine.TheVariants as line
use Rattle.asa_acl.specs.Acls.{AccessLines}
use Rattle.asa_config.specs.Settings.{Settings}
use Rattle.asa_config.specs.Names.{boxes_under}
use Rattle.asa_shadow.specs.declared.box_at.BoxAt.{BoxAt}
use Rattle.asa_shadow.specs.Matches.{box_at}
use Rattle.asa_shadow.specs.CutTrees.{finding_of}
use Rattle.asa_shadow.specs.FindingTexts.{finding_text}

-- with so many cuts or more a line isn't known to be shadowed or not
abbrev pub cut_limit : ℕ
cut_limit = 1000000

-- the line takes part in decisions: it is neither a remark nor inactive
abbrev pub is_active : AclLine → Bool
is_active (line.Ace a) = a.active
is_active (line.Remark _) = false

-- what is written of line n of the list of this name, whose boxes are given
unfoldable pub line_text : List ℕ → List BoxAt → ℕ → List ℕ
line_text name boxes n = finding_text name n (finding_of boxes n cut_limit)

-- the text of a line, where it is active
abbrev pub texts_if_active : List ℕ → List BoxAt → ℕ → AclLine → List (List ℕ)
texts_if_active name boxes n l = if is_active l then line_text name boxes n ∷ [] else []

-- the texts of lines, of which the first is line n
abbrev pub texts_from : List ℕ → List BoxAt → ℕ → List AclLine → List (List ℕ)
texts_from name boxes n [] = []
texts_from name boxes n (l ∷ ls) = texts_if_active name boxes n l ++ texts_from name boxes (n + 1) ls

-- the texts of the lines of a list
unfoldable pub list_texts : Settings → AccessLines → List (List ℕ)
list_texts c l = texts_from l.name (map box_at (boxes_under c l)) 1 l.lines

-- the texts of all lists, in order of first definition
abbrev pub finding_texts : Settings → List (List ℕ)
finding_texts c = flat_map (list_texts c) c.lists

-- Which blocks are passed over, and which part of the policy a block belongs to. A block that is passed over isn't of
-- this profile: it changes nothing.
use Rattle.std.specs.Prelude.{ℕ, Bool, true, false, not, ◌&&◌, ◌||◌, List, [], ◌∷◌, codes, Option, Some, None, if◌then◌else◌}
use Rattle.std.specs.List.{list_any}
use Rattle.asa_text.specs.declared.lines.Line.{Line}
use Rattle.asa_text.specs.declared.blocks.Block.{Block}
use Rattle.asa_text.specs.Blocks.{inner_lines, top_text}
use Rattle.asa_text.specs.Words.{Left, line_left}
use Rattle.asa_text.specs.Readers.{after_one, next_is}
use Rattle.asa_config_edit.specs.declared.class.Class.{Class}
use Rattle.asa_config_edit.specs.declared.class.Class.TheVariants.{Access, Nat, Both, Other, Passed}
use Rattle.asa_config_edit.specs.declared.top.TopWord.{TopWord}
use Rattle.asa_config_edit.specs.declared.top.TopWord.TheVariants as top
use Rattle.asa_config_edit.specs.Tops.{after_no, after_top, top_of}

-- the next word is one of these
abbrev pub next_among : List (List ℕ) → Left → Bool
next_among texts left = list_any (λ text. next_is text left) texts

-- the words begin with `rule-engine transactional-commit`
abbrev pub is_commit_mode : Left → Bool
is_commit_mode left = next_is (codes "rule-engine") left && next_is (codes "transactional-commit") (after_one left)

-- the words after `access-list` are about all lists, or name a list of another type
abbrev pub is_other_list : Left → Bool
is_other_list left = next_among (codes "alert-interval" ∷ codes "deny-flow-max" ∷ []) left
    || next_among (codes "standard" ∷ codes "ethertype" ∷ codes "webtype" ∷ []) (after_one left)

-- a block is passed over, by whether its first word is `no`, by the word of this profile there and by the words after that: a word that isn't of this profile;
-- `asp ..` and `no asp ..` about something else than the commit mode; `access-list ..` about all lists or of a list of
-- another type; `no interface ..` and `no timeout ..`
abbrev pub is_passed_by : Bool → Option TopWord → Left → Bool
is_passed_by removes None left = true
is_passed_by removes (Some top.Asp) left = not (is_commit_mode left)
is_passed_by removes (Some top.AccessList) left = not removes && is_other_list left
is_passed_by removes (Some top.Interface) left = removes
is_passed_by removes (Some top.Timeout) left = removes
is_passed_by removes (Some top.Object) left = false
is_passed_by removes (Some top.ObjectGroup) left = false
is_passed_by removes (Some top.AccessGroup) left = false
is_passed_by removes (Some top.SameSecurityTraffic) left = false
is_passed_by removes (Some top.Route) left = false
is_passed_by removes (Some top.Nat) left = false

-- the block is passed over
unfoldable pub is_passed : Block → Bool
is_passed b = is_passed_by (top_of b).no (top_of b).word (after_top (line_left (top_text b)))

-- `nat ..` or `no nat ..`
unfoldable pub is_nat_line : Line → Bool
is_nat_line l = next_is (codes "nat") (after_no (line_left l.text))

-- the next word begins a block of an object or a group
abbrev pub begins_object : Left → Bool
begins_object left = next_among (codes "object" ∷ codes "object-group" ∷ []) left

-- the lines of an object have one about its NAT rule
abbrev pub has_nat_line : List Line → Bool
has_nat_line lines = list_any is_nat_line lines

-- the class of the block of an object, or of one that removes it: one with a line about the object's NAT rule is of NAT
abbrev pub object_class : Bool → List Line → Class
object_class removes inner = if not removes && has_nat_line inner then Nat else Both

-- the class of a block of this profile, by how its top line begins
abbrev pub class_by : Bool → Option TopWord → List Line → Class
class_by removes None inner = Passed
class_by removes (Some top.AccessList) inner = Access
class_by removes (Some top.AccessGroup) inner = Access
class_by removes (Some top.SameSecurityTraffic) inner = Access
class_by removes (Some top.Nat) inner = Nat
class_by removes (Some top.Object) inner = object_class removes inner
class_by removes (Some top.ObjectGroup) inner = Both
class_by removes (Some top.Interface) inner = Other
class_by removes (Some top.Route) inner = Other
class_by removes (Some top.Timeout) inner = Other
class_by removes (Some top.Asp) inner = Other

-- the class of a block
unfoldable pub class_of : Block → Class
class_of b = if is_passed b then Passed else class_by (top_of b).no (top_of b).word (inner_lines b)

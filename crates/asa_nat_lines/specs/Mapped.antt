-- The real and the mapped addresses of a rule, and its destination.
use Rattle.std.specs.Prelude.{ℕ, Bool, ◌||◌, ◌==◌, List, [], ◌∷◌, codes, Option, Some, None, is_some, Result, Ok, Err, if◌then◌else◌}
use Rattle.std.specs.List.{list_any}
use Rattle.asa_text.specs.declared.numbers.WordFault.{WordFault}
use Rattle.asa_text.specs.declared.numbers.Addr.{Addr}
use Rattle.asa_text.specs.declared.readers.LineFault.TheVariants.{Bad, Unsupported}
use Rattle.asa_text.specs.Numbers.{address_of}
use Rattle.asa_text.specs.Words.{Spelled, Left}
use Rattle.asa_text.specs.Readers.{Read, ◌>>=◌, next_word, after_one, next_is, column_at, keyword_at, address_at}
use Rattle.asa_base.specs.Kinds.{Known}
use Rattle.asa_base.specs.Readers.{named_at}
use Rattle.asa_base.specs.declared.kinds.Kind.TheVariants as kind
use Rattle.asa_nat_lines.specs.declared.rule.RealRef.{RealRef}
use Rattle.asa_nat_lines.specs.declared.rule.RealRef.TheVariants as real
use Rattle.asa_nat_lines.specs.declared.rule.PoolRef.{PoolRef}
use Rattle.asa_nat_lines.specs.declared.rule.PoolRef.TheVariants as pool
use Rattle.asa_nat_lines.specs.declared.rule.MappedRef.{MappedRef}
use Rattle.asa_nat_lines.specs.declared.rule.MappedRef.TheVariants as mapped

-- the name of a network object or group; here each word is a name
unfoldable pub network_name_at : Known → Left → Read (List ℕ)
network_name_at known left = named_at known (kind.NetObject ∷ kind.NetGroup ∷ []) left >>= λ (named, rest). Ok (named.0, rest)

-- `any`, or the name of a network object or group
unfoldable pub real_at : Known → Left → Read RealRef
real_at known left =
    if next_is (codes "any") left then Ok (real.Any, after_one left)
    else (network_name_at known left >>= λ (name, rest). Ok (real.Named name, rest))

-- the interface is named and has an address; `any` has none
abbrev pub has_address : Known → Option ℕ → Bool
has_address known None = Bool.false
has_address known (Some ifc) = is_some (known.address_of ifc)

-- the word `interface`, where the mapped interface has an address; else it is Bad
unfoldable pub interface_word_at : Known → Option ℕ → Left → Read (Unit {0})
interface_word_at known mapped_ifc left =
    if has_address known mapped_ifc then keyword_at (codes "interface") left else Err (Bad (column_at left))

-- `interface`
unfoldable pub own_address_at : Known → Option ℕ → Left → Read MappedRef
own_address_at known mapped_ifc left = interface_word_at known mapped_ifc left >>= λ (_, rest). Ok (mapped.Interface, rest)

-- MAPPED as a network object or group
unfoldable pub mapped_name_at : Known → Left → Read MappedRef
mapped_name_at known left = network_name_at known left >>= λ (name, rest). Ok (mapped.Named name, rest)

-- MAPPED as `any`
unfoldable pub mapped_any_at : Left → Read MappedRef
mapped_any_at left = keyword_at (codes "any") left >>= λ (_, rest). Ok (mapped.Any, rest)

-- MAPPED of a static manual rule: `any` stands with a real `any` alone, and nothing else stands with it
unfoldable pub manual_mapped_at : Known → Option ℕ → RealRef → Left → Read MappedRef
manual_mapped_at known mapped_ifc real.Any left = mapped_any_at left
manual_mapped_at known mapped_ifc (real.Named _) left =
    if next_is (codes "any") left then Err (Bad (column_at left))
    else (if next_is (codes "interface") left then own_address_at known mapped_ifc left
    else mapped_name_at known left)

-- the word is read as an address: it is one, or it has a `:` as an IPv6 address has
abbrev pub is_address_word : List ℕ → Bool
is_address_word word = list_any (λ b. b == 58) word || is_address (address_of word)
  where
    is_address : Result Addr WordFault → Bool
    is_address (Ok _) = Bool.true
    is_address (Err _) = Bool.false

-- such a word comes next
abbrev pub next_is_address : Left → Bool
next_is_address left = of_word (next_word left)
  where
    of_word : Option Spelled → Bool
    of_word None = Bool.false
    of_word (Some w) = is_address_word w.word

-- an address, or else the name of a network object or group
unfoldable pub address_or_name_at : Known → Left → Read PoolRef
address_or_name_at known left =
    if next_is_address left then (address_at left >>= λ (a, rest). Ok (pool.Addr a, rest))
    else (network_name_at known left >>= λ (name, rest). Ok (pool.Named name, rest))

-- a static MAPPED of an address or a name
abbrev pub mapped_of : PoolRef → MappedRef
mapped_of (pool.Addr a) = mapped.Addr a
mapped_of (pool.Named name) = mapped.Named name

-- MAPPED of an object's static rule
unfoldable pub own_mapped_at : Known → Option ℕ → Left → Read MappedRef
own_mapped_at known mapped_ifc left =
    if next_is (codes "interface") left then own_address_at known mapped_ifc left
    else (address_or_name_at known left >>= λ (to, rest). Ok (mapped_of to, rest))

-- the mapped destination isn't `interface`, which is Unsupported
unfoldable pub no_interface_at : Left → Read (Unit {0})
no_interface_at left = if next_is (codes "interface") left then Err (Unsupported (column_at left)) else Ok (tt, left)

-- `static N N` after `destination`: the mapped, then the real destination
unfoldable pub dest_names_at : Known → Left → Read (Option (List ℕ × List ℕ))
dest_names_at known left = do
  (_, left) ← keyword_at (codes "static") left
  (_, left) ← no_interface_at left
  (mapped, left) ← network_name_at known left
  (real, left) ← network_name_at known left
  Ok (Some (mapped, real), left)

-- `[destination static N N]`
unfoldable pub dest_at : Known → Left → Read (Option (List ℕ × List ℕ))
dest_at known left = if next_is (codes "destination") left then dest_names_at known (after_one left) else Ok (None, left)

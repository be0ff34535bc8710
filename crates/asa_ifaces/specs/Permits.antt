-- `[no] same-security-traffic permit inter-interface|intra-interface`.
use Rattle.std.specs.Prelude.{ℕ, Bool, List, codes, Option, Some, None, unwrap_or, Ok, Err, if◌then◌else◌}
use Rattle.asa_text.specs.declared.readers.LineFault.TheVariants.{Bad}
use Rattle.asa_text.specs.Words.{Left}
use Rattle.asa_text.specs.Readers.{Read, ◌>>=◌, word_at, after_one, next_is, keyword_at, end_at}
use Rattle.std.specs.Str.{bytes_eq}
use Rattle.asa_ifaces.specs.declared.iface.Permits.{Permits}
use Rattle.asa_ifaces.specs.Interfaces.{Interfaces}

-- what is configured after the flags that are stated
abbrev pub with_permits : Interfaces → Option Bool → Option Bool → Interfaces
with_permits i inter intra = record i { inter = unwrap_or inter i.inter; intra = unwrap_or intra i.intra }

-- the flag that the word names, which becomes this
abbrev pub flag_of : List ℕ → Bool → Option Permits
flag_of word permit =
    if bytes_eq word (codes "inter-interface") then Some (record { inter = Some permit; intra = None })
    else (if bytes_eq word (codes "intra-interface") then Some (record { inter = None; intra = Some permit })
    else None)

-- the word of a flag
unfoldable pub flag_at : Bool → Left → Read Permits
flag_at permit left = word_at left >>= λ (w, rest). some_or_bad w.column rest (flag_of w.word permit)
  where
    some_or_bad : ℕ → Left → Option Permits → Read Permits
    some_or_bad column left None = Err (Bad column)
    some_or_bad column left (Some permits) = Ok (permits, left)

-- `same-security-traffic permit ..`, whose flag becomes this
unfoldable pub same_security_line : Bool → Left → Read Permits
same_security_line permit left = do
  (_, left) ← keyword_at (codes "same-security-traffic") left
  (_, left) ← keyword_at (codes "permit") left
  (permits, left) ← flag_at permit left
  (_, left) ← end_at left
  Ok (permits, left)

-- the whole line, with or without `no` before it
unfoldable pub permits_line : Left → Read Permits
permits_line left =
    if next_is (codes "no") left then same_security_line Bool.false (after_one left) else same_security_line Bool.true left

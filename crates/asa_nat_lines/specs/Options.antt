-- The options at the end of a rule, in any order.
use Rattle.std.specs.Prelude.{ℕ, Bool, true, false, ◌&&◌, ◌||◌, List, [], ◌∷◌, codes, Result, Ok, Err, if◌then◌else◌}
use Rattle.std.specs.Str.{bytes_eq}
use Rattle.asa_text.specs.declared.readers.LineFault.{LineFault}
use Rattle.asa_text.specs.declared.readers.LineFault.TheVariants.{Bad, Unsupported}
use Rattle.asa_text.specs.Words.{Spelled, Left}
use Rattle.asa_text.specs.Readers.{Read}
use Rattle.asa_nat_lines.specs.declared.options.Options.{Options}

-- no option
abbrev pub no_options : Options
no_options = record { unidirectional = false; inactive = false; route_lookup = false }

-- the word is an option that the device has and that is left out here
abbrev pub is_left_out : List ℕ → Bool
is_left_out word = bytes_eq word (codes "dns") || bytes_eq word (codes "net-to-net") || bytes_eq word (codes "ipv6")
    || bytes_eq word (codes "round-robin") || bytes_eq word (codes "block-allocation")

-- the word is one of `pat-pool`, where the pool doesn't have it
abbrev pub is_of_pool : List ℕ → Bool
is_of_pool word = bytes_eq word (codes "extended") || bytes_eq word (codes "flat") || bytes_eq word (codes "include-reserve")

-- why a word that is no option of the rule is refused
abbrev pub fault_at : Spelled → LineFault
fault_at w = if is_left_out w.word || is_of_pool w.word then Unsupported w.column else Bad w.column

-- the options with one word more: `unidirectional` and `inactive` are of manual rules, `route-lookup` is of static ones,
-- and `no-proxy-arp` says nothing here
unfoldable pub with_option : Bool → Bool → Options → Spelled → Result Options LineFault
with_option manual is_static options w =
    if bytes_eq w.word (codes "unidirectional") && manual then Ok (record options { unidirectional = true })
    else (if bytes_eq w.word (codes "inactive") && manual then Ok (record options { inactive = true })
    else (if bytes_eq w.word (codes "route-lookup") && is_static then Ok (record options { route_lookup = true })
    else (if bytes_eq w.word (codes "no-proxy-arp") then Ok options
    else Err (fault_at w))))

-- the options so far, then the words that are left; a fault ends the reading
abbrev pub then_read : Result Options LineFault → (Options → Read Options) → Read Options
then_read (Ok options) more = more options
then_read (Err fault) more = Err fault

-- the options with all words that are left; those after `description` are ignored
abbrev pub options_in : Bool → Bool → Options → ℕ → List Spelled → Read Options
options_in manual is_static options end [] = Ok (options, record { words = []; end = end })
options_in manual is_static options end (w ∷ ws) =
    if bytes_eq w.word (codes "description") then Ok (options, record { words = ws; end = end })
    else then_read (with_option manual is_static options w) (λ more. options_in manual is_static more end ws)

-- `[OPTIONS]`, to the line's end
abbrev pub options_at : Bool → Bool → Left → Read Options
options_at manual is_static left = options_in manual is_static no_options left.end left.words

-- How values are printed.
use Rattle.std.specs.Prelude.{ℕ, ◌/◌, ◌%◌, ◌^◌, List, ◌++◌, decimal, codes}
use Rattle.asa_text.specs.declared.numbers.Addr.{Addr}

-- an address as four decimal numbers joined by dots
unfoldable pub dotted : Addr → List ℕ
dotted a = decimal (a.0 / 2 ^ 24) ++ codes "." ++ decimal (a.0 / 2 ^ 16 % 256) ++ codes "." ++ decimal (a.0 / 2 ^ 8 % 256) ++ codes "." ++ decimal (a.0 % 256)

-- an address and a port, joined by a colon
unfoldable pub address_port : Addr → ℕ → List ℕ
address_port a port = dotted a ++ codes ":" ++ decimal port

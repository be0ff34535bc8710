-- Networks: an address whose host bits are zero, and the number of its leading bits that a covered address shares.
use Rattle.std.specs.Prelude.{ℕ, ◌-◌, ◌*◌, ◌/◌, ◌%◌, ◌^◌, Bool, ◌&&◌, ◌==◌, nat_le, codes, Ok, Err, if◌then◌else◌}
use Rattle.asa_text.specs.declared.numbers.Addr.{Addr}
use Rattle.asa_text.specs.declared.readers.LineFault.TheVariants.{Bad}
use Rattle.asa_text.specs.Words.{Left}
use Rattle.asa_text.specs.Readers.{Read, ◌>>=◌, after_one, column_at, next_is, address_at, mask_at}

pub record Network : Type 0 where
  pub addr : Addr
  pub len : ℕ

-- how many addresses share the leading bits
abbrev pub block_size : ℕ → ℕ
block_size len = 2 ^ (32 - len)

-- at most 32 leading bits, and the bits after them are zero
abbrev pub is_prefix : ℕ → ℕ → Bool
is_prefix addr len = nat_le len 32 && (addr % block_size len == 0)

-- the network of so many leading bits that has the address: its other bits are zero
abbrev pub network_over : Addr → ℕ → Network
network_over a len = record { addr = record { 0 = a.0 / block_size len * block_size len }; len = len }

-- two addresses share their leading bits
abbrev pub same_network : ℕ → ℕ → ℕ → Bool
same_network len a b = a / block_size len == b / block_size len

-- the prefix covers the address
abbrev pub covers : Network → Addr → Bool
covers p a = same_network p.len p.addr.0 a.0

-- an address, or the single word `0` for 0.0.0.0
unfoldable pub zero_or_address_at : Left → Read Addr
zero_or_address_at left = if next_is (codes "0") left then Ok (record { 0 = 0 }, after_one left) else address_at left

-- a mask as its number of ones, or the single word `0` for 0.0.0.0
unfoldable pub zero_or_mask_at : Left → Read ℕ
zero_or_mask_at left = if next_is (codes "0") left then Ok (0, after_one left) else mask_at left

-- the network of an address and a mask that stands at a column; host bits that aren't zero are Bad at the mask
abbrev pub network_or_bad : ℕ → Addr → ℕ → Left → Read Network
network_or_bad column a len rest = if is_prefix a.0 len then Ok (record { addr = a; len = len }, rest) else Err (Bad column)

-- `A M` of a list line or an object
unfoldable pub network_at : Left → Read Network
network_at left = address_at left >>= λ (a, l). mask_at l >>= λ (len, l2). network_or_bad (column_at l) a len l2

-- `A M` of a route line, where `0` stands for 0.0.0.0 at each place
unfoldable pub route_network_at : Left → Read Network
route_network_at left = zero_or_address_at left >>= λ (a, l). zero_or_mask_at l >>= λ (len, l2). network_or_bad (column_at l) a len l2

-- Keys that test the same are one key, and all that a look-up wants have one hash.
use Rattle.std.proofs.Common.{◌≡◌, ℕ, ◌&&◌, Bool, true, false, nat_le, Option, Some, None, refl, sym, ap, ◌∙◌}
use Rattle.std.specs.Prelude.{◌==◌}
use Rattle.std.proofs.lemmas.Bool.{and_from, and_parts, eq-eqb, eqb-true, false≢true}
use Rattle.asa_text.specs.declared.numbers.Addr.{Addr}
use Rattle.asa_pools.specs.declared.held.Held.{Held}
use Rattle.asa_pools.specs.declared.held.Binding.{Binding}
use Rattle.asa_pools.specs.declared.key.Port.{Port}
use Rattle.asa_pools.specs.declared.key.Key.{Key}
use Rattle.asa_pools.specs.declared.key.Key.TheVariants as key
use Rattle.asa_pools.specs.declared.key.Wanted.{Wanted}
use Rattle.asa_pools.specs.declared.key.Wanted.TheVariants as wanted
use Rattle.asa_pools.specs.Keys.{key_hash, on_address, on_binding, on_held, on_port, passes, same_binding, same_end, same_held, same_key, same_port, source_hash, wanted_hash}

abbrev made : ℕ → Addr
made x = record { 0 = x }

pub addr_is : (a b : Addr) → (a.0 == b.0) ≡ true → a ≡ b
addr_is a b h = ap made (eqb-true a.0 b.0 h)

pub same_end_is : (a b : Option (Addr × ℕ)) → same_end a b ≡ true → a ≡ b
same_end_is None None h = refl
same_end_is (Some a) (Some b) h =
    let s = and_parts _ _ h in
    ap (λ x. Some (x, a.1)) (addr_is a.0 b.0 s.0) ∙ ap (λ x. Some (b.0, x)) (eqb-true a.1 b.1 s.1)
same_end_is None (Some b) h = absurd (false≢true h)
same_end_is (Some a) None h = absurd (false≢true h)

pub same_held_is : (a b : Held) → same_held a b ≡ true → a ≡ b
same_held_is a b h =
    let s3 = and_parts _ _ h in
    let s2 = and_parts _ _ s3.0 in
    let s1 = and_parts _ _ s2.0 in
    ap (λ x. record a { proto = x }) (eqb-true a.proto b.proto s1.0)
    ∙ ap (λ x. record a { proto = b.proto; addr = x }) (addr_is a.addr b.addr s1.1)
    ∙ ap (λ x. record b { port = x; to = a.to }) (eqb-true a.port b.port s2.1)
    ∙ ap (λ x. record b { to = x }) (same_end_is a.to b.to s3.1)

pub same_port_is : (a b : Port) → same_port a b ≡ true → a ≡ b
same_port_is a b h =
    let s2 = and_parts _ _ h in
    let s1 = and_parts _ _ s2.0 in
    ap (λ x. record a { proto = x }) (eqb-true a.proto b.proto s1.0)
    ∙ ap (λ x. record a { proto = b.proto; addr = x }) (addr_is a.addr b.addr s1.1)
    ∙ ap (λ x. record b { port = x }) (eqb-true a.port b.port s2.1)

pub same_binding_is : (a b : Binding) → same_binding a b ≡ true → a ≡ b
same_binding_is a b h =
    let s2 = and_parts _ _ h in
    let s1 = and_parts _ _ s2.0 in
    ap (λ x. record a { addr = x }) (addr_is a.addr b.addr s1.0)
    ∙ ap (λ x. record a { addr = b.addr; ifc = x }) (eqb-true a.ifc b.ifc s1.1)
    ∙ ap (λ x. record b { src = x }) (addr_is a.src b.src s2.1)

-- a key that passes a test of one kind is of that kind
pub held_key : (t : Held → Bool) (k : Key) → on_held t k ≡ true → (h : Held) × (k ≡ key.Held h) × (t h ≡ true)
held_key t (key.Held h) e = (h, refl, e)
held_key t (key.Port p) e = absurd (false≢true e)
held_key t (key.Address a) e = absurd (false≢true e)
held_key t (key.Binding b) e = absurd (false≢true e)

pub port_key : (t : Port → Bool) (k : Key) → on_port t k ≡ true → (p : Port) × (k ≡ key.Port p) × (t p ≡ true)
port_key t (key.Held h) e = absurd (false≢true e)
port_key t (key.Port p) e = (p, refl, e)
port_key t (key.Address a) e = absurd (false≢true e)
port_key t (key.Binding b) e = absurd (false≢true e)

pub address_key : (t : Addr → Bool) (k : Key) → on_address t k ≡ true → (a : Addr) × (k ≡ key.Address a) × (t a ≡ true)
address_key t (key.Held h) e = absurd (false≢true e)
address_key t (key.Port p) e = absurd (false≢true e)
address_key t (key.Address a) e = (a, refl, e)
address_key t (key.Binding b) e = absurd (false≢true e)

pub binding_key : (t : Binding → Bool) (k : Key) → on_binding t k ≡ true → (b : Binding) × (k ≡ key.Binding b) × (t b ≡ true)
binding_key t (key.Held h) e = absurd (false≢true e)
binding_key t (key.Port p) e = absurd (false≢true e)
binding_key t (key.Address a) e = absurd (false≢true e)
binding_key t (key.Binding b) e = (b, refl, e)

pub same_key_is : (j k : Key) → same_key j k ≡ true → j ≡ k
same_key_is (key.Held h) k e = let s = held_key (same_held h) k e in ap key.Held (same_held_is h s.0 s.2) ∙ sym s.1
same_key_is (key.Port p) k e = let s = port_key (same_port p) k e in ap key.Port (same_port_is p s.0 s.2) ∙ sym s.1
same_key_is (key.Address a) k e = let s = address_key (λ b. a.0 == b.0) k e in ap key.Address (addr_is a s.0 s.2) ∙ sym s.1
same_key_is (key.Binding b) k e = let s = binding_key (same_binding b) k e in ap key.Binding (same_binding_is b s.0 s.2) ∙ sym s.1

pub wanted_is : (w : Wanted) (k : Key) → passes w k ≡ true → key_hash k ≡ wanted_hash w
wanted_is (wanted.Key j) k e = ap key_hash (sym (same_key_is j k e))
wanted_is (wanted.Between ifc src first last) k e =
    let s = binding_key (λ b. (b.ifc == ifc) && (b.src.0 == src.0) && nat_le first.0 b.addr.0 && nat_le b.addr.0 last.0) k e in
    let s3 = and_parts _ _ s.2 in
    let s2 = and_parts _ _ s3.0 in
    let s1 = and_parts _ _ s2.0 in
    ap key_hash s.1 ∙ ap (λ x. source_hash x s.0.src) (eqb-true s.0.ifc ifc s1.0) ∙ ap (source_hash ifc) (addr_is s.0.src src s1.1)

-- a key tests the same as itself
same_end_self : (a : Option (Addr × ℕ)) → same_end a a ≡ true
same_end_self None = refl
same_end_self (Some a) = and_from _ _ (eq-eqb a.0.0 a.0.0 refl) (eq-eqb a.1 a.1 refl)

pub same_key_self : (k : Key) → same_key k k ≡ true
same_key_self (key.Held h) =
    and_from _ _ (and_from _ _ (and_from _ _ (eq-eqb h.proto h.proto refl) (eq-eqb h.addr.0 h.addr.0 refl)) (eq-eqb h.port h.port refl)) (same_end_self h.to)
same_key_self (key.Port p) = and_from _ _ (and_from _ _ (eq-eqb p.proto p.proto refl) (eq-eqb p.addr.0 p.addr.0 refl)) (eq-eqb p.port p.port refl)
same_key_self (key.Address a) = eq-eqb a.0 a.0 refl
same_key_self (key.Binding b) = and_from _ _ (and_from _ _ (eq-eqb b.addr.0 b.addr.0 refl) (eq-eqb b.ifc b.ifc refl)) (eq-eqb b.src.0 b.src.0 refl)

-- A member that a line states refers to a name that is known.
use Rattle.std.proofs.Common.{◌≡◌, ℕ, Bool, true, false, if◌then◌else◌, List, [], ◌∷◌, codes, Option, Some, None, Ok, Err, is_some, refl, ap}
use Rattle.std.specs.List.{list_any}
use Rattle.asa_text.specs.Words.{Left}
use Rattle.asa_text.specs.Readers.{Read, ◌>>=◌, next_is, after_one, column_at, keyword_at, end_at}
use Rattle.asa_base.specs.Names.{name_at}
use Rattle.asa_base.specs.Readers.{protocol_at, icmp_type_at, named_at, kind_or_fault, same_kind}
use Rattle.asa_base.specs.Kinds.{Known}
use Rattle.asa_base.specs.declared.kinds.Kind.{Kind}
use Rattle.asa_base.specs.declared.kinds.Kind.TheVariants as kind
use Rattle.asa_base.specs.declared.range.Member.{Member}
use Rattle.asa_objects_lines.specs.declared.kinds.BlockKind.{BlockKind}
use Rattle.asa_objects_lines.specs.declared.kinds.BlockKind.TheVariants as block
use Rattle.asa_objects_lines.specs.declared.kinds.GroupKind.{GroupKind}
use Rattle.asa_objects_lines.specs.declared.kinds.GroupKind.TheVariants as group
use Rattle.asa_objects_lines.specs.declared.statement.Item.{Item}
use Rattle.asa_objects_lines.specs.declared.statement.Statement.{Statement}
use Rattle.asa_objects_lines.specs.declared.statement.Statement.TheVariants as says
use Rattle.asa_objects_lines.specs.Blocks.{kind_of_group}
use Rattle.asa_objects_lines.specs.Objects.{network_value, host_at, subnet_at, range_at, network_object_no, other_network_line, network_object_line, service_value_at, service_line, service_object_line}
use Rattle.asa_objects_lines.specs.Groups.{object_item_at, group_address_at, network_item_at, group_service_at, service_item_at, member_ports_at, port_item_at, protocol_item_at, icmp_item_at, item_at, fits_in, group_item_at, member_word, own_item_at, any_item_at, member_at, begins_member, added_at, removed_at, after_no, group_line, statement_at}
use Rattle.asa_objects_values.specs.Tables.{named}

-- what was read passes
abbrev pub Passes : {X : Type 0} → (X → Type 0) → Read X → Type 0
Passes P (Ok read) = P read.0
Passes P (Err f) = Unit {0}

module _ {X Y : Type 0} (P : Y → Type 0) where
  after : (r : Read X) (more : X × Left → Read Y) → ((read : X × Left) → Passes P (more read)) → Passes P (r >>= more)
  after (Ok read) more h = h read
  after (Err f) more h = tt

  after-by : (Q : X → Type 0) (r : Read X) (more : X × Left → Read Y) → Passes Q r → ((read : X × Left) → Q read.0 → Passes P (more read)) → Passes P (r >>= more)
  after-by Q (Ok read) more q h = h read q
  after-by Q (Err f) more q h = tt

module _ {X : Type 0} (P : X → Type 0) where
  either : (b : Bool) (r s : Read X) → Passes P r → Passes P s → Passes P (if b then r else s)
  either true r s p q = p
  either false r s p q = q

-- the name is that of an object or of a group
abbrev pub IsKnown : Known → Option (List ℕ) → Type 0
IsKnown known None = Unit {0}
IsKnown known (Some c) = is_some (known.kind_of c) ≡ true

-- a member that is stated refers to a known name
abbrev pub States : Known → Statement → Type 0
States known (says.Member i) = IsKnown known (named i)
States known _ = Unit {0}

module _ (known : Known) where
  abbrev OfKnown : Item → Type 0
  OfKnown i = IsKnown known (named i)

  name-known : (kinds : List Kind) (left : Left) → Passes (λ (p : List ℕ × Kind). is_some (known.kind_of p.0) ≡ true) (named_at known kinds left)
  unfolding named_at
  name-known kinds left = after _ (name_at left) _ (λ read. by read.0 read.1 (known.kind_of read.0) refl)
    where
      by : (name : List ℕ) (rest : Left) (o : Option Kind) → known.kind_of name ≡ o → Passes (λ (p : List ℕ × Kind). is_some (known.kind_of p.0) ≡ true) (kind_or_fault kinds (column_at left) name rest o)
      by name rest None e = tt
      by name rest (Some k) e = either (λ (p : List ℕ × Kind). is_some (known.kind_of p.0) ≡ true) (list_any (same_kind k) kinds) _ _ (ap is_some e) tt

  object-known : (k : Kind) (left : Left) → Passes OfKnown (object_item_at known k left)
  unfolding object_item_at
  object-known k left = after-by OfKnown (λ (p : List ℕ × Kind). is_some (known.kind_of p.0) ≡ true) (named_at known (k ∷ []) left) _ (name-known (k ∷ []) left) (λ read h. h)

  network-known : (left : Left) → Passes OfKnown (network_item_at known left)
  unfolding network_item_at
  network-known left = either OfKnown (next_is (codes "object") left) _ _ (object-known kind.NetObject (after_one left)) (after OfKnown (group_address_at left) _ (λ read. tt))

  service-known : (left : Left) → Passes OfKnown (service_item_at known left)
  unfolding service_item_at
  service-known left = either OfKnown (next_is (codes "object") left) _ _ (object-known kind.ServiceObject (after_one left)) (after OfKnown (group_service_at left) _ (λ read. tt))

  port-known : (left : Left) → Passes OfKnown (port_item_at left)
  unfolding port_item_at
  port-known left = after OfKnown (member_ports_at left) _ (λ read. tt)

  protocol-known : (left : Left) → Passes OfKnown (protocol_item_at left)
  unfolding protocol_item_at
  protocol-known left = after OfKnown (protocol_at left) _ (λ read. tt)

  icmp-known : (left : Left) → Passes OfKnown (icmp_item_at left)
  unfolding icmp_item_at
  icmp-known left = after OfKnown (icmp_type_at left) _ (λ read. tt)

  item-known : (g : GroupKind) (left : Left) → Passes OfKnown (item_at known g left)
  unfolding item_at
  item-known group.Network left = network-known left
  item-known group.Service left = service-known left
  item-known (group.Port p) left = port-known left
  item-known group.Protocol left = protocol-known left
  item-known group.IcmpType left = icmp-known left

  group-known : (g : GroupKind) (left : Left) → Passes OfKnown (group_item_at known g left)
  unfolding group_item_at
  group-known g left =
      after-by OfKnown (λ (p : List ℕ × Kind). is_some (known.kind_of p.0) ≡ true) (named_at known (kind_of_group g ∷ []) left) _ (name-known (kind_of_group g ∷ []) left)
      (λ read h. either OfKnown (fits_in known g read.0.0) _ _ h tt)

  own-known : (g : GroupKind) (left : Left) → Passes OfKnown (own_item_at known g left)
  unfolding own_item_at
  own-known g left = after OfKnown (keyword_at (member_word g) left) _ (λ read. item-known g read.1)

  any-known : (g : GroupKind) (left : Left) → Passes OfKnown (any_item_at known g left)
  unfolding any_item_at
  any-known g left = either OfKnown (next_is (codes "group-object") left) _ _ (group-known g (after_one left)) (own-known g left)

  member-known : (g : GroupKind) (left : Left) → Passes OfKnown (member_at known g left)
  unfolding member_at
  member-known g left = after-by OfKnown OfKnown (any_item_at known g left) _ (any-known g left) (λ read h. after OfKnown (end_at read.1) _ (λ _. h))

  added-known : (g : GroupKind) (left : Left) → Passes (States known) (added_at known g left)
  unfolding added_at
  added-known g left = after-by (States known) OfKnown (member_at known g left) _ (member-known g left) (λ read h. h)

  removed-known : (g : GroupKind) (left : Left) → Passes (States known) (removed_at known g left)
  unfolding removed_at
  removed-known g left = after (States known) (member_at known g left) _ (λ read. tt)

  no-known : (g : GroupKind) (column : ℕ) (left : Left) → Passes (States known) (after_no known g column left)
  unfolding after_no
  no-known g column left = either (States known) (begins_member g left) _ _ (removed-known g left) tt

  group-line-known : (g : GroupKind) (left : Left) → Passes (States known) (group_line known g left)
  unfolding group_line
  group-line-known g left =
      either (States known) (next_is (codes "description") left) _ _ tt
      (either (States known) (next_is (codes "no") left) _ _ (no-known g (column_at left) (after_one left)) (added-known g left))

  value-known : (read : Read Member) → Passes (States known) (network_value read)
  value-known read = after (States known) read _ (λ r. after (States known) (end_at r.1) _ (λ _. tt))

  object-no-known : (column : ℕ) (left : Left) → Passes (States known) (network_object_no column left)
  unfolding network_object_no
  object-no-known column left = either (States known) (next_is (codes "nat") left) _ _ tt (either (States known) (next_is (codes "description") left) _ _ tt tt)

  other-known : (left : Left) → Passes (States known) (other_network_line left)
  unfolding other_network_line
  other-known left =
      either (States known) (next_is (codes "nat") left) _ _ tt
      (either (States known) (next_is (codes "no") left) _ _ (object-no-known (column_at left) (after_one left))
      (either (States known) (next_is (codes "description") left) _ _ tt (either (States known) (next_is (codes "fqdn") left) _ _ tt tt)))

  network-line-known : (left : Left) → Passes (States known) (network_object_line left)
  unfolding network_object_line
  network-line-known left =
      either (States known) (next_is (codes "host") left) _ _ (value-known (host_at (after_one left)))
      (either (States known) (next_is (codes "subnet") left) _ _ (value-known (subnet_at (after_one left)))
      (either (States known) (next_is (codes "range") left) _ _ (value-known (range_at (after_one left))) (other-known left)))

  service-value-known : (left : Left) → Passes (States known) (service_line left)
  unfolding service_line
  service-value-known left = after (States known) (service_value_at left) _ (λ r. after (States known) (end_at r.1) _ (λ _. tt))

  service-line-known : (left : Left) → Passes (States known) (service_object_line left)
  unfolding service_object_line
  service-line-known left = either (States known) (next_is (codes "service") left) _ _ (service-value-known (after_one left)) (either (States known) (next_is (codes "description") left) _ _ tt tt)

  pub states-known : (b : BlockKind) (left : Left) → Passes (States known) (statement_at known b left)
  unfolding statement_at
  states-known block.NetObject left = network-line-known left
  states-known block.ServiceObject left = service-line-known left
  states-known (block.Group g) left = group-line-known g left

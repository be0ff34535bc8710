-- The compiled lists stand for those of the configuration, and the levels for its levels.
use Rattle.std.proofs.Common.{◌≡◌, ap, ◌∙◌, List, ℕ, option_and_then}
use Rattle.std.specs.List.{position}
use Rattle.std.specs.Str.{bytes_eq}
use Rattle.asa_ifaces.specs.Interfaces.{Interfaces}
use Rattle.asa_access.specs.declared.list.AccessList.{AccessList}
use Rattle.asa_access.specs.Lists as access
use Rattle.asa_policy.specs.Access.{levels_of}
use Rattle.asa_policy.proofs.ListLaws.{AreGathered, IsGlobal, inward_is, outward_is, inward_covers, outward_covers}
use Rattle.asa_policy.proofs.policy.access_of.Goals as goal

pub returns-clause-inward : goal.returns-clause-inward
returns-clause-inward c p egress below =
    let config = c.args.config.now in
    let lists = c.in_ok-lists.lists.items in
    let are : AreGathered config lists = record { first = c.in_ok-lists.ensures.first; sides = c.in_ok-lists.ensures.sides; named = c.in_ok-lists.ensures.named; covering = c.in_ok-lists.ensures.covering } in
    let is : IsGlobal config lists c.global_place-global.result =
    c.global_place-global.ensures ∙ ap (λ (ls : List AccessList). option_and_then (λ (name : List ℕ). position (λ (l : AccessList). bytes_eq name l.name) ls) config.global) c.as_slice.ensures.value in
    let levels : c.in_ok-levels.levels.items ≡ levels_of config.net.ifaces =
    c.in_ok-levels.ensures ∙ ap levels_of (c.ifaces-2.ensures.value ∙ ap (λ (n : Interfaces). n.ifaces) c.ifaces.ensures) in
    c.in_ok-access.ensures.inbound p egress below
    ∙ ap (λ (ls : List AccessList). access.inbound ls c.global_place-global.result c.in_ok-levels.levels.items p egress) c.as_slice-2.ensures.value
    ∙ ap (λ (lv : List ℕ). access.inbound lists c.global_place-global.result lv p egress) levels
    ∙ inward_is config lists p egress c.global_place-global.result are is

pub returns-clause-outward : goal.returns-clause-outward
returns-clause-outward c p egress below =
    let config = c.args.config.now in
    let lists = c.in_ok-lists.lists.items in
    let are : AreGathered config lists = record { first = c.in_ok-lists.ensures.first; sides = c.in_ok-lists.ensures.sides; named = c.in_ok-lists.ensures.named; covering = c.in_ok-lists.ensures.covering } in
    c.in_ok-access.ensures.outbound p egress below
    ∙ ap (λ (ls : List AccessList). access.outbound ls p egress) c.as_slice-2.ensures.value
    ∙ outward_is config lists p egress are

pub returns-clause-inward_reads : goal.returns-clause-inward_reads
returns-clause-inward_reads c p below =
    let config = c.args.config.now in
    let lists = c.in_ok-lists.lists.items in
    let are : AreGathered config lists = record { first = c.in_ok-lists.ensures.first; sides = c.in_ok-lists.ensures.sides; named = c.in_ok-lists.ensures.named; covering = c.in_ok-lists.ensures.covering } in
    let is : IsGlobal config lists c.global_place-global.result =
    c.global_place-global.ensures ∙ ap (λ (ls : List AccessList). option_and_then (λ (name : List ℕ). position (λ (l : AccessList). bytes_eq name l.name) ls) config.global) c.as_slice.ensures.value in
    c.in_ok-access.ensures.inbound_reads p below
    ∙ ap (λ (ls : List AccessList). access.inbound_covering ls c.global_place-global.result p) c.as_slice-2.ensures.value
    ∙ inward_covers config lists p c.global_place-global.result are is

pub returns-clause-outward_reads : goal.returns-clause-outward_reads
returns-clause-outward_reads c p egress below =
    let config = c.args.config.now in
    let lists = c.in_ok-lists.lists.items in
    let are : AreGathered config lists = record { first = c.in_ok-lists.ensures.first; sides = c.in_ok-lists.ensures.sides; named = c.in_ok-lists.ensures.named; covering = c.in_ok-lists.ensures.covering } in
    c.in_ok-access.ensures.outbound_reads p egress below
    ∙ ap (λ (ls : List AccessList). access.outbound_covering ls p egress) c.as_slice-2.ensures.value
    ∙ outward_covers config lists p egress are

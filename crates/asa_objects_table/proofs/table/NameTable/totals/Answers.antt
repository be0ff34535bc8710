use Rattle.std.proofs.Common.{◌≡◌, ℕ, List, length, sum_by, refl, sym, ap, ◌∙◌, arith}
use Rattle.asa_base.specs.Prefixes.{member_prefix_count}
use Rattle.asa_objects_values.specs.Sizes.{member_address_count, subnet_count}
use Rattle.asa_objects_values.specs.Tables.{Table, members_of, services_of_name}
use Rattle.asa_objects_values.proofs.SpreadLaws.{total-sum}
use Rattle.asa_objects_table.specs.Ranks.{members, prefixes, addresses, subnets, services, amount, rank_of}
use Rattle.asa_objects_table.proofs.RankLaws.{kept-members, kept-services, kept-weighed}
use Rattle.asa_objects_table.proofs.TotalLaws.{amount-rank}
use Rattle.asa_objects_table.proofs.table.NameTable.totals.Goals as goal

pub returns-clause-members : goal.returns-clause-members
returns-clause-members c = ap (amount members) c.totals_of.ensures ∙ sym (amount-rank members (rank_of c.self.inside.index.ranks.entries c.args.name.now))
    ∙ kept-members c.self.inside.values.entries c.self.inside.index.ranks.entries c.self.inside.index.uses.entries c.self.inside.index.stamp c.self.invariant c.args.name.now
    ∙ ap (λ (t : Table). length (members_of t c.args.name.now)) c.self.view_is

pub returns-clause-prefixes : goal.returns-clause-prefixes
returns-clause-prefixes c = ap (amount prefixes) c.totals_of.ensures ∙ sym (amount-rank prefixes (rank_of c.self.inside.index.ranks.entries c.args.name.now))
    ∙ kept-weighed prefixes member_prefix_count (λ _ _. refl) c.self.inside.values.entries c.self.inside.index.ranks.entries c.self.inside.index.uses.entries c.self.inside.index.stamp c.self.invariant c.args.name.now
    ∙ total-sum member_prefix_count (members_of c.self.inside.values.entries c.args.name.now)
    ∙ ap (λ (t : Table). sum_by member_prefix_count (members_of t c.args.name.now)) c.self.view_is

pub returns-clause-addresses : goal.returns-clause-addresses
returns-clause-addresses c = ap (amount addresses) c.totals_of.ensures ∙ sym (amount-rank addresses (rank_of c.self.inside.index.ranks.entries c.args.name.now))
    ∙ kept-weighed addresses member_address_count (λ _ _. refl) c.self.inside.values.entries c.self.inside.index.ranks.entries c.self.inside.index.uses.entries c.self.inside.index.stamp c.self.invariant c.args.name.now
    ∙ total-sum member_address_count (members_of c.self.inside.values.entries c.args.name.now)
    ∙ ap (λ (t : Table). sum_by member_address_count (members_of t c.args.name.now)) c.self.view_is

pub returns-clause-subnets : goal.returns-clause-subnets
returns-clause-subnets c = ap (amount subnets) c.totals_of.ensures ∙ sym (amount-rank subnets (rank_of c.self.inside.index.ranks.entries c.args.name.now))
    ∙ kept-weighed subnets subnet_count (λ _ _. refl) c.self.inside.values.entries c.self.inside.index.ranks.entries c.self.inside.index.uses.entries c.self.inside.index.stamp c.self.invariant c.args.name.now
    ∙ total-sum subnet_count (members_of c.self.inside.values.entries c.args.name.now)
    ∙ ap (λ (t : Table). sum_by subnet_count (members_of t c.args.name.now)) c.self.view_is

pub returns-clause-services : goal.returns-clause-services
returns-clause-services c = ap (amount services) c.totals_of.ensures ∙ sym (amount-rank services (rank_of c.self.inside.index.ranks.entries c.args.name.now))
    ∙ kept-services c.self.inside.values.entries c.self.inside.index.ranks.entries c.self.inside.index.uses.entries c.self.inside.index.stamp c.self.invariant c.args.name.now
    ∙ ap (λ (t : Table). length (services_of_name t c.args.name.now)) c.self.view_is

pub returns-clause-few_members : goal.returns-clause-few_members
returns-clause-few_members c =
    let same = amount-rank members (rank_of c.self.inside.index.ranks.entries c.args.name.now) in
    let found = ap (amount members) c.totals_of.ensures in
    omega (arith, (c.self.invariant.small c.args.name.now).0)

pub returns-clause-few_services : goal.returns-clause-few_services
returns-clause-few_services c =
    let same = amount-rank services (rank_of c.self.inside.index.ranks.entries c.args.name.now) in
    let found = ap (amount services) c.totals_of.ensures in
    omega (arith, (c.self.invariant.small c.args.name.now).1)

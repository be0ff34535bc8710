use Rattle.std.proofs.Common.{◌≡◌, ◌+◌, cond, Some, sym, subst, ap, ◌∙◌, rules}
use Rattle.std.specs.Map.{remove_entry}
use Rattle.std.specs.BTreeMap.{is_at, insert_entry}
use Rattle.std.specs.Ordering.{nat_cmp}
use Rattle.std.specs.Cmp.Lexicographic.{slice_cmp}
use Rattle.asa_objects_values.specs.Tables.{Entry, Table, entry_of, same_name}
use Rattle.asa_objects_table.specs.Ranks.{IsSound, Ranks, rank_of}
use Rattle.asa_objects_values.proofs.LabelLaws.{changed-at}
use Rattle.asa_objects_table.proofs.PutLaws.{name-gone}
use Rattle.asa_objects_table.proofs.OpenLaws.{open-sound}
use Rattle.asa_objects_table.proofs.entries.open_name.Goals as goal

pub returns-in-Ok-clause-sound : goal.returns-in-Ok-clause-sound
returns-in-Ok-clause-sound c =
    let next : c.in-Some.next ≡ c.args.index.now.stamp + 1 = search rules in
    subst (λ n. IsSound c.insert.new.self.entries c.insert-2.new.self.entries c.args.index.now.uses.entries n) (sym next)
    (open-sound c.args.values.now.entries c.insert.new.self.entries c.args.index.now.ranks.entries c.insert-2.new.self.entries c.args.index.now.uses.entries c.args.index.now.stamp c.args.name.now c.in_ok-empty.empty
    c.requires.sound c.requires.absent (ap (λ (e : Entry). e.items) c.in_ok-empty.ensures)
    (λ q. c.in_ok-insert.ensures.updates.0 q ∙ ap (λ k. cond (same_name k q) (Some c.in_ok-empty.empty) (entry_of c.args.values.now.entries q)) c.copy.ensures)
    (λ q. changed-at c.args.index.now.ranks.entries c.insert-2.new.self.entries c.copy-2.result c.args.name.now (Some c.empty_rank.result) c.copy-2.ensures c.in-Ok.ensures.updates.0 q
    ∙ ap (λ r. cond (same_name c.args.name.now q) (Some r) (rank_of c.args.index.now.ranks.entries q)) c.empty_rank.ensures))

pub returns-in-Err-clause-err : goal.returns-in-Err-clause-err
returns-in-Err-clause-err c =
    c.remove.ensures.entries
    ∙ ap (λ es. remove_entry (is_at (slice_cmp nat_cmp c.args.name.now)) es) (c.in_ok-insert.ensures.entries ∙ ap (λ k. insert_entry (slice_cmp nat_cmp) c.args.values.now.entries k c.in_ok-empty.empty) c.copy.ensures)
    ∙ name-gone c.args.name.now c.in_ok-empty.empty c.args.values.now.entries c.requires.absent

pub returns-in-Err-clause-sound : goal.returns-in-Err-clause-sound
returns-in-Err-clause-sound c =
    let back : c.remove.new.self.entries ≡ c.args.values.now.entries =
    c.remove.ensures.entries
    ∙ ap (λ es. remove_entry (is_at (slice_cmp nat_cmp c.args.name.now)) es) (c.in_ok-insert.ensures.entries ∙ ap (λ k. insert_entry (slice_cmp nat_cmp) c.args.values.now.entries k c.in_ok-empty.empty) c.copy.ensures)
    ∙ name-gone c.args.name.now c.in_ok-empty.empty c.args.values.now.entries c.requires.absent in
    subst (λ (t : Table). IsSound t c.insert-2.new.self.entries c.args.index.now.uses.entries c.args.index.now.stamp) (sym back)
    (subst (λ (r : Ranks). IsSound c.args.values.now.entries r c.args.index.now.uses.entries c.args.index.now.stamp) (sym c.in-Err.ensures.err) c.requires.sound)

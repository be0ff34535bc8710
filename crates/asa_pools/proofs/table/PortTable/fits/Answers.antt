-- As much is used as the lists hold.
use Rattle.std.proofs.Common.{◌&&◌, nat_lt, ap, ◌∙◌}
use Rattle.asa_pools.specs.Pools.{is_untaken, size}
use Rattle.asa_pools.proofs.TableLaws.{room_is, used_is}
use Rattle.asa_pools.proofs.table.PortTable.fits.Goals as goal

pub returns : goal.returns
returns c =
    let v = c.args.self.now in
    c.both.ensures
    ∙ ap (λ n. nat_lt n c.self.inside.capacity && c.is_untaken.result) (used_is c.self.inside v c.self.view_is c.self.invariant)
    ∙ ap (λ n. nat_lt (size v) n && c.is_untaken.result) (room_is c.self.inside v c.self.view_is c.self.invariant)
    ∙ ap (λ b. nat_lt (size v) v.room && b) c.is_untaken.ensures

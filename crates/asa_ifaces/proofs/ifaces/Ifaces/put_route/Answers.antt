use Rattle.std.proofs.Common.{◌<◌, length, sym, subst}
use Rattle.asa_ifaces.specs.Interfaces.{Interfaces}
use Rattle.asa_ifaces.proofs.SoundLaws.{sound_route}
use Rattle.asa_ifaces.proofs.ifaces.Ifaces.put_route.Goals as goal

pub invariant_of-self : goal.invariant_of-self
invariant_of-self c =
    let leaves = subst (λ (i : Interfaces). c.args.route.ifc < length i.ifaces) (sym c.self.view_is) c.requires in
    sound_route _ _ c.args.route _ c.self.invariant leaves c.put_route.ensures

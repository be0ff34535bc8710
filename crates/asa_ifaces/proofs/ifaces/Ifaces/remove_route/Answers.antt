use Rattle.asa_ifaces.proofs.SoundLaws.{sound_no_route}
use Rattle.asa_ifaces.proofs.ifaces.Ifaces.remove_route.Goals as goal

pub invariant_of-self : goal.invariant_of-self
invariant_of-self c = sound_no_route _ _ c.args.route.now _ c.self.invariant c.take_route.ensures

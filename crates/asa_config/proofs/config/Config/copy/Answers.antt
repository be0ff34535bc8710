use Rattle.asa_config.proofs.config.Config.copy.Goals as goal

pub invariant_of-result : goal.invariant_of-result
invariant_of-result c =
    rw (c.in_ok-copy-2.ensures, c.in_ok-copy.ensures, c.in_ok-copy-3.ensures, c.in_ok-copy_bindings.ensures, c.as_slice.ensures.value, c.copy_name.ensures) c.self.invariant

-- What a compiled policy keeps of the configuration that it was compiled from.
use Rattle.std.specs.Prelude.{◌≡◌, ℕ, ◌<◌, List}
use Rattle.asa_base.specs.declared.flow.Packet.{Packet}
use Rattle.asa_config.specs.Settings.{Settings}
use Rattle.asa_ifaces_routes.specs.declared.candidates.Candidate.{Candidate}
use Rattle.asa_ifaces_routes.specs.Candidates.{candidates}
use Rattle.asa_access.specs.Compiled.{CompiledLists, inbound_in, outbound_in, covering_inbound, covering_outbound}
use Rattle.asa_policy.specs.Access.{inbound, outbound, inbound_covering, outbound_covering}

-- the routes are the configuration's, and the compiled lists say what its lists and levels say, and have as many entries that cover a packet
pub record IsCompiled (c : Settings) (ways : List Candidate) (lists : CompiledLists) : Type 0 where
  pub routes : ways ≡ candidates c.net
  pub inward : (p : Packet) (egress : ℕ) → p.ifc < 256 → inbound_in lists p egress ≡ inbound c p egress
  pub outward : (p : Packet) (egress : ℕ) → egress < 256 → outbound_in lists p egress ≡ outbound c p egress
  pub inward_reads : (p : Packet) → p.ifc < 256 → covering_inbound lists p ≡ inbound_covering c p
  pub outward_reads : (p : Packet) (egress : ℕ) → egress < 256 → covering_outbound lists p egress ≡ outbound_covering c p egress

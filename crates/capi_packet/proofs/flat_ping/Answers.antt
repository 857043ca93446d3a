-- `capi_packet::flat_ping` meets its contract. Assumes nothing.
use Rattle.capi_packet.proofs.flat_ping.Goals as goal

pub returns : goal.returns
returns c = cc

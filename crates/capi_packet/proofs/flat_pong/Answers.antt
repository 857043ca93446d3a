-- `capi_packet::flat_pong` meets its contract. Assumes nothing.
use Rattle.capi_packet.proofs.flat_pong.Goals as goal

pub returns : goal.returns
returns c = cc

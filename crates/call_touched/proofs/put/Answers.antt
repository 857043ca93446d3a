-- `call_touched::put` meets its contract. Assumes nothing.
use mathlib.Core.Path.{ap, ◌∙◌}
use Rattle.octets.specs.Octets.{Bytes, store, big_endian}
use Rattle.call_touched.proofs.put.Goals as goal

pub returns : goal.returns
returns c = let start = c in
    c.set_clock.ensures
    ∙ ap (λ (s : Bytes). store s 32 (big_endian 8 start.args.clock.0)) c.store.ensures.bytes_after

-- `packet_envelope::hash_matches` meets its contract. Assumes nothing.
use mathlib.Core.Path.{ap, ◌∙◌}
use Rattle.octets.specs.Octets.{part, same_bytes}
use Rattle.octets.proofs.Laws.{part_rest}
use Rattle.keccak.specs.Sponge.{keccak256}
use Rattle.packet_envelope.specs.Envelope.{hash_matches}
use Rattle.packet_envelope.proofs.Laws.{equal_bytes, short_hash}
use Rattle.packet_envelope.proofs.hash_matches.Goals as goal

pub returns-then-datagram-lt32 : goal.returns-then-datagram-lt32
returns-then-datagram-lt32 c = short_hash c.args.datagram.now c.if-datagram-lt32.true

pub returns : goal.returns
unfolding hash_matches part
returns c = let h = c.as_slice.ensures ∙ c.keccak256-hash.ensures ∙ ap keccak256 (part_rest c.args.datagram.now 32) in
    c.eq.ensures ∙ equal_bytes _ _ ∙ (λ i. same_bytes (c.hash_part.ensures i) (h i))

-- One datagram of a burst (document 02, C-15).
use Rattle.std.specs.Prelude.{ℕ, ◌*◌, get_or}
use Rattle.octets.specs.Octets.{part}
use Rattle.call_burst_lists.specs.Lists.{Burst, signer_in, address_in}
use Rattle.call_history.specs.Model.{Call, datagram}

-- datagram i, whose bytes begin at index at, as a call of its own
abbrev pub call_at : Burst → ℕ → ℕ → Call
call_at b i at =
    datagram (get_or b.millis i 0) (get_or b.unix i 0) (address_in (part b.addresses (17 * i) 17)) (get_or b.ports i 0)
    (signer_in (part b.signers (64 * i) 64)) (part b.buffer at (get_or b.lengths i 0))

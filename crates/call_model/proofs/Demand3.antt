-- Demand 3 of every list of calls, from the bytes of a fresh table. Assumes nothing.
use Prim.Native.Nat.{ℕ}
use Rattle.octets.specs.Octets.{Bytes}
use Rattle.keccak.specs.Sponge.{keccak256}
use Rattle.keccak.proofs.Laws.{keccak256-length, keccak256_bytes}
use Rattle.call_history.specs.Model.{Reading}
use Rattle.call_history.specs.Keccak.{with_keccak}
use Rattle.call_history.proofs.Step.{keccak_lawful}
use Rattle.call_history.proofs.Chain.{demand3-on-bytes}
use Rattle.call_model.specs.Calls.{answer_on, bytes_after}
use Rattle.call_model.specs.OverBytes.{encode, Demand3OverBytes}
use Rattle.call_model.specs.Reading.{reading}
use Rattle.call_model.proofs.Step.{step_follows}

pub demand3_over_bytes : (read : Bytes → ℕ → Reading) → Demand3OverBytes read
demand3_over_bytes read key count one most calls are =
    let own : Bytes = keccak256 key in
    demand3-on-bytes (answer_on read) (bytes_after read) (with_keccak read own count) (encode own)
    (keccak_lawful read own count (keccak256-length key) (keccak256_bytes key))
    (step_follows read own count one most) calls are

-- with the reader of datagrams that the calls use
pub demand3_of_calls : Demand3OverBytes reading
demand3_of_calls = demand3_over_bytes reading

-- The rules with Keccak-256, for a reader of datagrams, an own key's hash and a number of buckets.
use Rattle.std.specs.Prelude.{ℕ}
use Rattle.octets.specs.Octets.{Bytes}
use Rattle.keccak.specs.Sponge.{keccak256}
use Rattle.call_history.specs.Model.{Env, Reading}

abbrev pub with_keccak : (Bytes → ℕ → Reading) → Bytes → ℕ → Env
with_keccak read own buckets = record { hash = keccak256; read = read; own = own; kept = buckets }

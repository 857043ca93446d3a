-- What a value of the type Entry is, as facts of the record.
use Rattle.std.specs.Prelude.{◌^◌, ◌<◌, ◌≡◌, length}
use Rattle.entry.specs.declared.Entry.{Entry}
use Rattle.entry.specs.declared.EndpointProof.{EndpointProof}
use Rattle.entry.specs.declared.EndpointProof.TheVariants.{Unproved, At}
use Rattle.entry.specs.declared.PingState.{PingState}
use Rattle.entry.specs.declared.PingState.TheVariants.{Quiet, Out}

abbrev pub ProofFits : EndpointProof → Type 0
ProofFits Unproved = Unit {0}
ProofFits (At t) = t.0 < 2 ^ 64

abbrev pub PingFits : PingState → Type 0
PingFits Quiet = Unit {0}
PingFits (Out t) = t.0 < 2 ^ 64

pub record IsEntry (p : Entry) : Type 0 where
  pub key : length p.key ≡ 64
  pub address : length p.endpoint.address ≡ 16
  pub hash : length p.hash ≡ 32
  pub udp : p.endpoint.udp < 2 ^ 16
  pub tcp : p.endpoint.tcp < 2 ^ 16
  pub seen : p.seen.0 < 2 ^ 64
  pub proof : ProofFits p.proof
  pub ping : PingFits p.ping

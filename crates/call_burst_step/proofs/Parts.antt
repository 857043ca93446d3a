-- One datagram of a burst, with its parts as the code takes them, is the call of the definitions. Assumes nothing.
use mathlib.Core.Path.{◌≡◌, refl, ap, ◌∙◌}
use mathlib.Core.Bool.{Bool, true, false}
use mathlib.Core.List.{List}
use Prim.Native.Nat.{ℕ, ◌*◌}
use lib.ListN.{get_or}
use Rattle.octets.specs.Octets.{Bytes, part}
use Rattle.node.specs.declared.MonotonicMillis.{MonotonicMillis}
use Rattle.clock32.specs.declared.LowMillis.{LowMillis}
use Rattle.call_burst_lists.specs.Lists.{Burst, signer_in, address_in}
use Rattle.call_burst_lists.specs.Times.{times_by}
use Rattle.call_history.specs.Model.{Call, datagram}
use Rattle.call_model.specs.Calls.{bytes_after}
use Rattle.call_model.specs.Reading.{reading}
use Rattle.call_answer.specs.declared.Received.{Received}
use Rattle.call_answer.specs.Answer.{number_of}
use Rattle.call_datagram.specs.Received.{received}
use Rattle.call_datagram.proofs.Answered.{answer-number}
use Rattle.call_low.specs.Got.{bytes_low, received_low}
use Rattle.call_low.proofs.Front.{low-number}
use Rattle.call_burst_step.specs.declared.Time.{Time}
use Rattle.call_burst_step.specs.declared.Time.TheVariants.{Full, Reading}
use Rattle.call_burst_step.specs.Datagram.{call_at}
use Rattle.call_burst_step.specs.Steps.{answer_by, bytes_by, time_at, is_reading, number_in}

-- ---- the milliseconds of datagram i

module _ (millis readings : List ℕ) (i : ℕ) where
  time-kind : (low : Bool) → is_reading (time_at low millis readings i) ≡ low
  time-kind true = refl
  time-kind false = refl

  time-number : (low : Bool) → number_in (time_at low millis readings i) ≡ get_or (times_by low millis readings) i 0
  time-number true = refl
  time-number false = refl

-- ---- a datagram at its milliseconds: its number, and the bytes that it leaves

module _ (s : Bytes) (time : Time) (unix : ℕ) (a : Bytes) (port : ℕ) (key g : Bytes) where
  abbrev asked : Call
  asked = datagram (number_in time) unix a port key g

  pub at-full : {t : MonotonicMillis} {r : Received} {n : ℕ} {s' : Bytes} → time ≡ Full t → r ≡ received s t.0 unix a port key g → n ≡ number_of r
      → s' ≡ bytes_after reading s (datagram t.0 unix a port key g) → (n ≡ answer_by (is_reading time) s asked) × (s' ≡ bytes_by (is_reading time) s asked)
  at-full {t = t} is e e' e'' = rw is (e' ∙ ap number_of e ∙ answer-number s t.0 (record { 0 = unix }) a port key g, e'')

  pub at-reading : {t : LowMillis} {r : Received} {n : ℕ} {s' : Bytes} → time ≡ Reading t → r ≡ received_low s t.0 unix a port key g → n ≡ number_of r
      → s' ≡ bytes_low s (datagram t.0 unix a port key g) → (n ≡ answer_by (is_reading time) s asked) × (s' ≡ bytes_by (is_reading time) s asked)
  at-reading {t = t} is e e' e'' = rw is (e' ∙ ap number_of e ∙ low-number s t.0 unix a port key g, e'')

-- datagram i with its parts as they were taken
module _ (low : Bool) (millis readings : List ℕ) (b : Burst) (is : b.millis ≡ times_by low millis readings) (i at : ℕ) (s a key g : Bytes) (time : Time)
    (et : time ≡ time_at low millis readings i) (ea : a ≡ address_in (part b.addresses (17 * i) 17))
    (ek : key ≡ signer_in (part b.signers (64 * i) 64)) (eg : g ≡ part b.buffer at (get_or b.lengths i 0)) where
  abbrev call : Call
  call = datagram (number_in time) (get_or b.unix i 0) a (get_or b.ports i 0) key g

  same : call ≡ call_at b i at
  same = rw (is, ea, ek, eg, et, time-number millis readings i low)

  kind : is_reading time ≡ low
  kind = ap is_reading et ∙ time-kind millis readings i low

  pub handed-bytes : {t : Bytes} → t ≡ bytes_by (is_reading time) s call → t ≡ bytes_by low s (call_at b i at)
  handed-bytes e = e ∙ ap (λ (l : Bool). bytes_by l s call) kind ∙ ap (bytes_by low s) same

  pub handed-number : {n : ℕ} → n ≡ answer_by (is_reading time) s call → n ≡ answer_by low s (call_at b i at)
  handed-number e = e ∙ ap (λ (l : Bool). answer_by l s call) kind ∙ ap (answer_by low s) same

-- The number of a datagram's answer is the rules'. Assumes nothing.
use mathlib.Core.Path.{◌≡◌, refl, sym, ◌∙◌}
use Prim.Native.Nat.{ℕ}
use borrow.Author.Tests.{eqb-true}
use lib.Dec.{eqb}
use Rattle.octets.specs.Octets.{Bytes}
use Rattle.lists.proofs.Laws.{by_test}
use Rattle.node.specs.declared.UnixSeconds.{UnixSeconds}
use Rattle.bucket_model.specs.Contents.{Contents}
use Rattle.packet.specs.declared.Packet.{Packet}
use Rattle.packet.specs.declared.Packet.TheVariants as packet
use Rattle.call_history.specs.Model.{datagram}
use Rattle.call_model.specs.Reading.{reading}
use Rattle.call_model.specs.Calls.{bucket_for, answer_on}
use Rattle.call_answer.specs.Answer.{accepted, number_of}
use Rattle.call_datagram.specs.Received.{received}
use Rattle.call_datagram.proofs.Datagram.{front-passed, whole}

accepted-number : (now : ℕ) (address : Bytes) (udp : ℕ) (key : Bytes) (p : Packet) (b : Contents) → number_of (accepted now address udp key p b) ≡ 0
accepted-number now address udp key (packet.Ping p) b = refl
accepted-number now address udp key (packet.Pong p) b = refl
accepted-number now address udp key (packet.FindNode p) b = refl
accepted-number now address udp key (packet.Neighbors p) b = refl
accepted-number now address udp key (packet.EnrRequest p) b = refl
accepted-number now address udp key (packet.EnrResponse p) b = refl

pub answer-number : (s : Bytes) (now : ℕ) (unix : UnixSeconds) (address : Bytes) (udp : ℕ) (key g : Bytes)
    → number_of (received s now unix.0 address udp key g) ≡ answer_on reading s (datagram now unix.0 address udp key g)
unfolding received
answer-number s now unix address udp key g =
    let n : ℕ = answer_on reading s (datagram now unix.0 address udp key g) in
    by_test (eqb n 0)
    (λ z.
    let zero : n ≡ 0 = eqb-true n 0 z in
    let w = whole s now unix address key g udp (front-passed s now unix address key g udp zero) in
    rw (z, w.1) (accepted-number now address udp key w.0 (bucket_for reading s key) ∙ sym zero))
    (λ z. rw z refl)

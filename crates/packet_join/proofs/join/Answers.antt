-- `packet_join::join` meets its contract. Assumes nothing.
use mathlib.Core.Path.{◌≡◌, sym, ap, ◌∙◌}
use Prim.Native.Nat.{◌+◌, ◌≤◌, ◌<◌}
use mathlib.Core.Bool.{true}
use native.Mathlib.Omega.{arith}
use lib.ListN.{length}
use Rattle.keccak.specs.Sponge.{keccak256}
use Rattle.written.proofs.Answers.{done, short, refused}
use Rattle.packet_join.specs.Join.{can_join, datagram}
use Rattle.packet_join.proofs.Datagrams.{signature_size, datagram-length, signed, joined}
use Rattle.packet_join.proofs.join.Goals as goal

pub put_bytes-requires : goal.put_bytes-requires
put_bytes-requires c =
    let ok : can_join c.args.signature.now c.args.body.now ≡ true = sym c.can_join.ensures ∙ c.if-not-can_join.false in
    let sized : length c.args.signature.now ≡ 65 = signature_size c.args.signature.now c.args.body.now ok in
    omega (arith, sized)

pub returns : goal.returns
returns c =
    let ok : can_join c.args.signature.now c.args.body.now ≡ true = sym c.can_join.ensures ∙ c.if-not-can_join.false in
    let sized : length c.args.signature.now ≡ 65 = signature_size c.args.signature.now c.args.body.now ok in
    let a = c.args in
    let d = a.buf.now in
    let s = a.signature.now in
    let b = a.body.now in
    let w₁ = c.put_bytes in
    let w₂ = c.put_bytes-2 in
    let k = c.keccak256-hash in
    let w₃ = c.put_bytes-3 in
    let n = datagram-length s b in
    let z = sized in
    let t = c.if-buf-end.false in
    let hash = k.ensures ∙ ap keccak256 (signed d s b w₁.new.bytes w₂.new.bytes z t w₁.ensures w₂.ensures) in
    let is = w₃.ensures ∙ joined d s b w₁.new.bytes w₂.new.bytes z t w₁.ensures w₂.ensures k.result hash in
    let fits : length (datagram s b) ≤ length d = omega arith in
    let whole : 97 + length b ≡ 0 + length (datagram s b) = omega arith in
    let all = done (can_join s b) (datagram s b) d ok fits (whole, is) in
    record { answer = all.0; bytes = all.1 }

pub returns-then-buf-end : goal.returns-then-buf-end
returns-then-buf-end c =
    let ok : can_join c.args.signature.now c.args.body.now ≡ true = sym c.can_join.ensures ∙ c.if-not-can_join.false in
    let sized : length c.args.signature.now ≡ 65 = signature_size c.args.signature.now c.args.body.now ok in
    let a = c.args in
    let long : length a.buf.now < length (datagram a.signature.now a.body.now) = omega (arith, sized, datagram-length a.signature.now a.body.now) in
    let all = short (can_join a.signature.now a.body.now) (datagram a.signature.now a.body.now) a.buf.now ok long in
    record { answer = all.0; bytes = all.1 }

pub returns-then-not-can_join : goal.returns-then-not-can_join
returns-then-not-can_join c = let a = c.args in
    let all = refused (can_join a.signature.now a.body.now) (datagram a.signature.now a.body.now) a.buf.now (sym c.can_join.ensures ∙ c.if-not-can_join.true) in
    record { answer = all.0; bytes = all.1 }

-- `rlp_write::write_string` meets its contract. Assumes nothing.
use mathlib.Core.List.{◌++◌}
use mathlib.Core.Logic.{⊎_elim}
use mathlib.Core.Path.{◌≡◌, refl, ap}
use native.Mathlib.Omega.{arith}
use lib.ListN.{length, get_or, length-append}
use Rattle.rlp.specs.Encoding.{header, encode, string}
use Rattle.octets.proofs.Writing.{wrote_one, wrote_append}
use Rattle.rlp.proofs.Writing.{encode_one, encode_framed}
use Rattle.rlp_write.proofs.write_string.Goals as goal
use Rattle.rlp_write.proofs.write_string.Goals.{then-s-eq1+else-b-lt128, else-s-eq1}

pub bounds-buf-at : goal.bounds-buf-at
bounds-buf-at c = omega (arith, ap length (encode_one c.args.s.now c.if-s-eq1.true c.if-b-lt128.true))

pub returns-then-b-lt128 : goal.returns-then-b-lt128
returns-then-b-lt128 c = let a = c.args in
    let s = a.s.now in record { next = (wrote_one a.buf.now a.at (get_or s 0 0) (encode (string s)) (encode_one s c.if-s-eq1.true c.if-b-lt128.true)).0; bytes = (wrote_one a.buf.now a.at (get_or s 0 0) (encode (string s)) (encode_one s c.if-s-eq1.true c.if-b-lt128.true)).1 }

pub write_header-next-requires : goal.write_header-next-requires
write_header-next-requires c =
    let framed : encode (string c.args.s.now) ≡ header 0x80 (length c.args.s.now) ++ c.args.s.now = let s = c.args.s.now in
    encode_framed s (λ (one : length s ≡ 1). elim c.if-s-eq1.branch [ then-s-eq1+else-b-lt128 w ↦ w.if-b-lt128.false | else-s-eq1 w ↦ absurd (w.if-s-eq1.false one) ]) in
    let s = c.args.s.now in
    omega (arith, ap length framed, length-append (header 0x80 (length s)) s)

pub put_bytes-requires : goal.put_bytes-requires
put_bytes-requires c =
    let framed : encode (string c.args.s.now) ≡ header 0x80 (length c.args.s.now) ++ c.args.s.now = let s = c.args.s.now in
    encode_framed s (λ (one : length s ≡ 1). elim c.if-s-eq1.branch [ then-s-eq1+else-b-lt128 w ↦ w.if-b-lt128.false | else-s-eq1 w ↦ absurd (w.if-s-eq1.false one) ]) in
    let before = c in
    let s = before.args.s.now in
    omega (arith, ap length framed, length-append (header 0x80 (length s)) s, c.write_header-next.ensures.next, c.write_header-next.auto.buf)

pub overflow_add-result-2 : goal.overflow_add-result-2
overflow_add-result-2 c =
    let framed : encode (string c.args.s.now) ≡ header 0x80 (length c.args.s.now) ++ c.args.s.now = let s = c.args.s.now in
    encode_framed s (λ (one : length s ≡ 1). elim c.if-s-eq1.branch [ then-s-eq1+else-b-lt128 w ↦ w.if-b-lt128.false | else-s-eq1 w ↦ absurd (w.if-s-eq1.false one) ]) in
    let before = c in
    let s = before.args.s.now in
    omega (arith, ap length framed, length-append (header 0x80 (length s)) s, c.write_header-next.ensures.next)

pub returns : goal.returns
returns c =
    let framed : encode (string c.args.s.now) ≡ header 0x80 (length c.args.s.now) ++ c.args.s.now = let s = c.args.s.now in
    encode_framed s (λ (one : length s ≡ 1). elim c.if-s-eq1.branch [ then-s-eq1+else-b-lt128 w ↦ w.if-b-lt128.false | else-s-eq1 w ↦ absurd (w.if-s-eq1.false one) ]) in
    let h = c.write_header-next in
    let before = c in
    let a = before.args in
    let s = a.s.now in record { next = rw framed ((wrote_append a.buf.now a.at (header 0x80 (length s)) s _ _ h.result _ (h.ensures.next, h.ensures.bytes) (refl, c.put_bytes.ensures)).0); bytes = rw framed ((wrote_append a.buf.now a.at (header 0x80 (length s)) s _ _ h.result _ (h.ensures.next, h.ensures.bytes) (refl, c.put_bytes.ensures)).1) }

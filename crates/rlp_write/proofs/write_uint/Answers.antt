-- `rlp_write::write_uint` meets its contract. Assumes nothing.
use Prim.Native.Nat.{ℕ, ◌+◌, ◌≤◌, ◌<◌}
use mathlib.Core.List.{◌∷◌}
use mathlib.Core.Logic.{⊎_elim}
use mathlib.Core.Path.{◌≡◌, sym, ap, ◌∙◌}
use native.Mathlib.Omega.{arith}
use lib.ListN.{length, length-set}
use Rattle.rlp.specs.Numbers.{uint_bytes}
use Rattle.rlp.specs.Encoding.{encode, string}
use Rattle.rlp.proofs.Numbers.{uint_bound}
use Rattle.octets.proofs.Writing.{wrote_one, wrote_cons}
use Rattle.rlp.proofs.Writing.{encode_uint_one, encode-uint}
use Rattle.rlp_write.proofs.write_uint.Goals as goal
use Rattle.rlp_write.proofs.write_uint.Goals.{then-n-gt0+else-n-lt128, else-n-gt0}

pub bounds-buf-at : goal.bounds-buf-at
bounds-buf-at c = omega (arith, ap length (encode_uint_one c.args.n c.if-n-gt0.true c.if-n-lt128.true))

pub returns-then-n-lt128 : goal.returns-then-n-lt128
returns-then-n-lt128 c = let a = c.args in record { next = (wrote_one a.buf.now a.at a.n (encode (string (uint_bytes a.n))) (encode_uint_one a.n c.if-n-gt0.true c.if-n-lt128.true)).0; bytes = (wrote_one a.buf.now a.at a.n (encode (string (uint_bytes a.n))) (encode_uint_one a.n c.if-n-gt0.true c.if-n-lt128.true)).1 }

pub overflow_cast-buf-2 : goal.overflow_cast-buf-2
overflow_cast-buf-2 c = omega (arith, c.uint_len.ensures, uint_bound c.args.n c.ranges.n.fits)

pub overflow_add-buf : goal.overflow_add-buf
overflow_add-buf c = omega (arith, c.uint_len.ensures, uint_bound c.args.n c.ranges.n.fits)

pub bounds-buf-at-2 : goal.bounds-buf-at-2
bounds-buf-at-2 c =
    let framed : encode (string (uint_bytes c.args.n)) ≡ (0x80 + c.uint_len.result) ∷ uint_bytes c.args.n = let n = c.args.n in
    let test : 0 < n → 0x80 ≤ n = λ p. elim c.if-n-gt0.branch [ then-n-gt0+else-n-lt128 w ↦ w.if-n-lt128.false | else-n-gt0 w ↦ omega arith ] in
    encode-uint n c.ranges.n.fits test ∙ ap (λ (k : ℕ). (0x80 + k) ∷ uint_bytes n) (sym c.uint_len.ensures) in
    omega (arith, ap length framed)

pub write_digits-requires : goal.write_digits-requires
write_digits-requires c =
    let framed : encode (string (uint_bytes c.args.n)) ≡ (0x80 + c.uint_len.result) ∷ uint_bytes c.args.n = let n = c.args.n in
    let test : 0 < n → 0x80 ≤ n = λ p. elim c.if-n-gt0.branch [ then-n-gt0+else-n-lt128 w ↦ w.if-n-lt128.false | else-n-gt0 w ↦ omega arith ] in
    encode-uint n c.ranges.n.fits test ∙ ap (λ (k : ℕ). (0x80 + k) ∷ uint_bytes n) (sym c.uint_len.ensures) in
    simp length-set (omega (arith, ap length framed))

pub shape_of-buf : goal.shape_of-buf
shape_of-buf c = c.write_digits.auto.buf ∙ simp length-set

pub returns : goal.returns
returns c =
    let framed : encode (string (uint_bytes c.args.n)) ≡ (0x80 + c.uint_len.result) ∷ uint_bytes c.args.n = let n = c.args.n in
    let test : 0 < n → 0x80 ≤ n = λ p. elim c.if-n-gt0.branch [ then-n-gt0+else-n-lt128 w ↦ w.if-n-lt128.false | else-n-gt0 w ↦ omega arith ] in
    encode-uint n c.ranges.n.fits test ∙ ap (λ (k : ℕ). (0x80 + k) ∷ uint_bytes n) (sym c.uint_len.ensures) in
    let k = c in
    let a = k.args in record { next = (wrote_cons a.buf.now a.at (0x80 + k.uint_len.result) (uint_bytes a.n) (encode (string (uint_bytes a.n))) _ _ framed (c.write_digits.ensures.next, c.write_digits.ensures.bytes)).0; bytes = (wrote_cons a.buf.now a.at (0x80 + k.uint_len.result) (uint_bytes a.n) (encode (string (uint_bytes a.n))) _ _ framed (c.write_digits.ensures.next, c.write_digits.ensures.bytes)).1 }

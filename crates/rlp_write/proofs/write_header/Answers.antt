-- `rlp_write::write_header` meets its contract. Assumes nothing.
use Prim.Native.Nat.{ℕ, ◌+◌}
use mathlib.Core.List.{◌∷◌}
use mathlib.Core.Path.{◌≡◌, sym, ap, ◌∙◌}
use native.Mathlib.Omega.{arith}
use lib.ListN.{length, length-set}
use Rattle.rlp.specs.Numbers.{uint_bytes}
use Rattle.rlp.specs.Encoding.{header}
use Rattle.rlp.proofs.Numbers.{uint_bound}
use Rattle.octets.proofs.Writing.{wrote_one, wrote_cons}
use Rattle.rlp.proofs.Writing.{header_short, header-long}
use Rattle.rlp_write.proofs.write_header.Goals as goal

pub bounds-buf-at : goal.bounds-buf-at
bounds-buf-at c = let a = c.args in
    omega (arith, ap length (header_short a.base a.n c.if-n-lt56.true))

pub returns-then-n-lt56 : goal.returns-then-n-lt56
returns-then-n-lt56 c = let a = c.args in record { next = (wrote_one a.buf.now a.at (a.base + a.n) (header a.base a.n) (header_short a.base a.n c.if-n-lt56.true)).0; bytes = (wrote_one a.buf.now a.at (a.base + a.n) (header a.base a.n) (header_short a.base a.n c.if-n-lt56.true)).1 }

pub overflow_cast-buf-2 : goal.overflow_cast-buf-2
overflow_cast-buf-2 c = omega (arith, c.uint_len-k.ensures, uint_bound c.args.n c.ranges.n.fits)

pub overflow_add-buf-3 : goal.overflow_add-buf-3
overflow_add-buf-3 c = omega (arith, c.uint_len-k.ensures, uint_bound c.args.n c.ranges.n.fits)

pub bounds-buf-at-2 : goal.bounds-buf-at-2
bounds-buf-at-2 c = let a = c.args in
    omega (arith, ap length (header-long a.base a.n c.if-n-lt56.false))

pub write_digits-requires : goal.write_digits-requires
write_digits-requires c = let a = c.args in
    simp length-set (omega (arith, ap length (header-long a.base a.n c.if-n-lt56.false)))

pub shape_of-buf : goal.shape_of-buf
shape_of-buf c = c.write_digits.auto.buf ∙ simp length-set

pub returns : goal.returns
returns c = let k = c.uint_len-k in
    let a = c.args in
    let q : header a.base a.n ≡ (a.base + 55 + k.result) ∷ uint_bytes a.n =
    header-long a.base a.n c.if-n-lt56.false ∙ ap (λ (j : ℕ). (a.base + 55 + j) ∷ uint_bytes a.n) (sym k.ensures) in record { next = (wrote_cons a.buf.now a.at (a.base + 55 + k.result) (uint_bytes a.n) (header a.base a.n) _ _ q (c.write_digits.ensures.next, c.write_digits.ensures.bytes)).0; bytes = (wrote_cons a.buf.now a.at (a.base + 55 + k.result) (uint_bytes a.n) (header a.base a.n) _ _ q (c.write_digits.ensures.next, c.write_digits.ensures.bytes)).1 }

-- `text::put_unhex` meets its contract. The invariant: the first i bytes are stored. Assumes nothing.
use Prim.Native.Nat.{◌+◌, ◌*◌}
use mathlib.Core.Path.{◌≡◌, sym, ap, ◌∙◌}
use lib.ListN.{length, get_or, take}
use lib.Seq.{take_all}
use Rattle.octets.proofs.Laws.{length-store, store-take}
use Rattle.text.specs.Hex.{unhex}
use Rattle.text.proofs.Hex.{length-unhex, unhex_at}
use native.Mathlib.Omega.{arith}
use Rattle.text.proofs.put_unhex.Goals as goal

pub overflow_mul-buf : goal.overflow_mul-buf
overflow_mul-buf c = omega (arith, c.hex_value.ensures.upper_bound)

pub overflow_add-buf : goal.overflow_add-buf
overflow_add-buf c = omega (arith, c.hex_value.ensures.upper_bound, c.hex_value-in-loop-i.ensures.upper_bound)

pub overflow_add-buf-in-loop-i : goal.overflow_add-buf-in-loop-i
overflow_add-buf-in-loop-i c = let l = c in omega (arith, length-unhex l.args.s.now)

pub bounds-buf-at : goal.bounds-buf-at
bounds-buf-at c =
    let size : length c.loop-i.buf ≡ length c.args.buf.now = ap length c.loop-i.invariant ∙ length-store (take c.loop-i.i (unhex c.args.s.now)) c.args.buf.now c.args.at in
    let l = c in omega (arith, size, length-unhex l.args.s.now)

pub loop-i-preserved : goal.loop-i-preserved
loop-i-preserved c = let l = c.loop-i in
    let a = c.args in
    let s = a.s.now in
    let next : c.hex_value.result * 16 + c.hex_value-in-loop-i.result ≡ get_or (unhex s) l.i 0 =
    rw (c.hex_value.ensures.value, c.hex_value-in-loop-i.ensures.value) (sym (unhex_at s l.i (omega arith))) in
    rw (next, l.invariant) (store-take a.buf.now (unhex s) a.at l.i (omega (arith, length-unhex s)))

pub shape_of-buf : goal.shape_of-buf
shape_of-buf c =
    let size : length c.loop-i.buf ≡ length c.args.buf.now = ap length c.loop-i.invariant ∙ length-store (take c.loop-i.i (unhex c.args.s.now)) c.args.buf.now c.args.at in
    size

pub returns : goal.returns
returns c = let l = c.loop-i in
    let a = c.args in
    let all : take l.i (unhex a.s.now) ≡ unhex a.s.now = take_all l.i (unhex a.s.now) (omega (arith, length-unhex a.s.now)) in record { next = omega (arith, length-unhex a.s.now); bytes = rw all at l.invariant }

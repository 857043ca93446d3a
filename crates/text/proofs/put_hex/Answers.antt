-- `text::put_hex` meets its contract. The invariant: the hex of the bytes before this one is stored. Assumes nothing.
use Prim.Native.Nat.{◌+◌}
use mathlib.Core.Path.{◌≡◌, ap, ◌∙◌}
use lib.ListN.{length, take, length-set}
use lib.Seq.{take_all, length-take-le}
use Rattle.octets.proofs.Laws.{length-store}
use Rattle.text.specs.Hex.{hex}
use Rattle.text.proofs.Hex.{length-hex, store-hex}
use native.Mathlib.Omega.{arith}
use Rattle.text.proofs.put_hex.Goals as goal

pub bounds-buf-next-in-loop-b : goal.bounds-buf-next-in-loop-b
bounds-buf-next-in-loop-b c =
    let size : length c.loop-b.buf ≡ length c.args.buf.now = ap length c.loop-b.invariant.1 ∙ length-store (hex (take c.loop-b.b-index c.args.src.now)) c.args.buf.now c.args.at in
    simp length-set (omega (arith, size))

pub loop-b-preserved : goal.loop-b-preserved
loop-b-preserved c = let l = c.loop-b in
    let a = c.args in
    let src = a.src.now in
    let place : l.next ≡ a.at + length (hex (take l.b-index src)) = omega (arith, length-hex (take l.b-index src), length-take-le l.b-index src (omega arith)) in
    (omega arith, rw (c.hex_digit.ensures, c.hex_digit-in-loop-b.ensures, l.invariant.1) (store-hex a.buf.now src a.at l.b-index l.next (omega arith) place))

pub returns : goal.returns
returns c = let l = c.loop-b in
    let a = c.args in
    let all : take l.b-index a.src.now ≡ a.src.now = take_all l.b-index a.src.now (omega arith) in record { next = omega (arith, length-hex a.src.now); bytes = rw all at l.invariant.1 }

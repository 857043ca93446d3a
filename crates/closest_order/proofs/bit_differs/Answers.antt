-- `closest_order::bit_differs` meets its contract. Assumes nothing.
use Prim.Native.Nat.{◌/◌, ◌%◌, ◌^◌}
use mathlib.Core.Path.{sym, ap, ◌∙◌}
use borrow.Author.Rules.{rules}
use mir.Syntax.{w8}
use mir.Val.{Fits}
use lib.Bits.{bit_xor}
use lib.Dec.{eqb}
use lib.ListN.{get_or}
use Rattle.octets.specs.Octets.{IsBytes}
use Rattle.closest_order.proofs.Digit.{digit}
use Rattle.closest_order.proofs.bit_differs.Goals as goal

pub returns : goal.returns
returns c = let start = c in
    let args = start.args in
    let bytes_a : IsBytes args.a = λ k. let byte : Fits w8 (get_or args.a k 0) = search rules in byte.fits in
    let bytes_b : IsBytes args.b = λ k. let byte : Fits w8 (get_or args.b k 0) = search rules in byte.fits in
    ap (λ k. eqb (bit_xor (get_or args.a k 0) (get_or args.b k 0) / 2 ^ (args.i % 8) % 2) 1) c.byte_of-k.ensures
    ∙ sym (digit args.a args.b (search rules) (search rules) bytes_a bytes_b args.i start.requires)

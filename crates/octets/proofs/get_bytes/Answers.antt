-- `octets::get_bytes` meets its contract. The invariant: the first i bytes are copied. Assumes nothing.
use mathlib.Core.Path.{◌≡◌, refl, ap, ◌∙◌}
use Prim.Native.Nat.{ℕ}
use native.Mathlib.Nat.{zero-add}
use native.Mathlib.Omega.{arith}
use lib.ListN.{length, drop, length-set, length-drop}
use lib.Seq.{get_or-drop}
use Rattle.octets.specs.Octets.{part, store}
use Rattle.octets.proofs.Laws.{length_part, store-take, store_all}
use Rattle.octets.proofs.get_bytes.Goals as goal

pub loop-i-init : goal.loop-i-init
loop-i-init c = (omega arith, (refl, refl))

pub loop-i-preserved : goal.loop-i-preserved
unfolding part
loop-i-preserved c = let at_loop = c in
    let args = at_loop.args in
    let i = at_loop.loop-i.i in
    let rest = drop args.at args.bytes.now in (
      omega arith,
      (
        simp length-set (omega arith),
        cc (get_or-drop args.at args.bytes.now i 0, zero-add i, store-take args.dst.now rest 0 i (omega (arith, length-drop args.at args.bytes.now))),
      ),
    )

pub returns : goal.returns
unfolding part
returns c = let at_loop = c in
    let args = at_loop.args in
    let e : at_loop.loop-i.i ≡ length args.dst.now = omega arith in
    at_loop.loop-i.invariant.1.1
    ∙ ap (λ (n : ℕ). store args.dst.now 0 (part args.bytes.now args.at n)) e
    ∙ store_all args.dst.now _ (length_part args.bytes.now args.at (length args.dst.now) (omega arith))

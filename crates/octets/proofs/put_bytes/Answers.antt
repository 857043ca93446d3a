-- `octets::put_bytes` meets its contract. The invariant: the first i bytes of `src` are stored. Assumes nothing.
use mathlib.Core.Path.{◌≡◌, refl, ap, ◌∙◌}
use mathlib.Core.List.{List}
use Prim.Native.Nat.{ℕ}
use native.Mathlib.Omega.{arith}
use lib.ListN.{length, take}
use lib.Seq.{take_all}
use Rattle.octets.specs.Octets.{store}
use Rattle.octets.proofs.Laws.{length-store, store-take}
use Rattle.octets.proofs.put_bytes.Goals as goal

pub loop-i-init : goal.loop-i-init
loop-i-init c = (omega arith, refl)

pub bounds-bytes-at : goal.bounds-bytes-at
bounds-bytes-at c =
    let size : length c.loop-i.bytes ≡ length c.args.bytes.now = ap length c.loop-i.invariant.1 ∙ length-store (take c.loop-i.i c.args.src.now) c.args.bytes.now c.args.at in
    omega (arith, size)

pub loop-i-preserved : goal.loop-i-preserved
loop-i-preserved c = let at_loop = c in
    let args = at_loop.args in (
      omega arith,
      cc (store-take args.bytes.now args.src.now args.at at_loop.loop-i.i (omega arith)),
    )

pub shape_of-bytes : goal.shape_of-bytes
shape_of-bytes c =
    let size : length c.loop-i.bytes ≡ length c.args.bytes.now = ap length c.loop-i.invariant.1 ∙ length-store (take c.loop-i.i c.args.src.now) c.args.bytes.now c.args.at in
    size

pub returns : goal.returns
returns c = let at_loop = c in
    let args = at_loop.args in
    at_loop.loop-i.invariant.1
    ∙ ap (λ (v : List ℕ). store args.bytes.now args.at v) (take_all at_loop.loop-i.i args.src.now (omega arith))

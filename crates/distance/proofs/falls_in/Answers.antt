-- `distance::falls_in` meets its contract. Assumes nothing.
use Prim.Native.Nat.{◌^◌, ◌<◌}
use Rattle.distance.specs.Distance.{distance}
use Rattle.distance.proofs.Laws.{distance-less}
use Rattle.distance.proofs.Buckets.{nowhere, somewhere}
use Rattle.distance.proofs.falls_in.Goals as goal

pub returns-then-bits-eq0 : goal.returns-then-bits-eq0
returns-then-bits-eq0 c =
    let less : distance c.args.own.now c.args.hash.now < 2 ^ 256 = let start = c in
    distance-less start.args.own.now start.args.hash.now start.requires.0 start.requires.1
    (λ k. (c.shared_slice_known-1.given k).fits) (λ k. (c.shared_slice_known-2-1.given k).fits) in
    let known = c in
    let args = known.args in
    nowhere (distance args.own.now args.hash.now) args.i less c.bit_length-bits.ensures c.if-bits-eq0.true

pub returns : goal.returns
returns c =
    let less : distance c.args.own.now c.args.hash.now < 2 ^ 256 = let start = c in
    distance-less start.args.own.now start.args.hash.now start.requires.0 start.requires.1
    (λ k. (c.shared_slice_known-1.given k).fits) (λ k. (c.shared_slice_known-2-1.given k).fits) in
    let known = c in
    let args = known.args in
    somewhere (distance args.own.now args.hash.now) args.i less c.bit_length-bits.ensures c.if-bits-eq0.false

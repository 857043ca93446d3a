-- `closest_distance::far` meets its contract. The invariant: the first i bytes are those of the distance of the hashes' first i. Assumes nothing.
use mathlib.Core.Path.{◌≡◌, refl}
use mathlib.Core.List.{[]}
use native.Mathlib.Omega.{arith}
use borrow.Author.Rules.{rules}
use mir.Syntax.{w8}
use mir.Val.{Fits}
use lib.ListN.{length, get_or, length-set}
use Rattle.octets.specs.Octets.{IsBytes}
use Rattle.closest_distance.proofs.Bytes.{far_none, far-turn, far-all}
use Rattle.closest_distance.proofs.far.Goals as goal

pub loop-i-init : goal.loop-i-init
loop-i-init c = (omega arith, (refl, far_none c.args.target c.args.hash []))

pub loop-i-preserved : goal.loop-i-preserved
loop-i-preserved c =
    let size_target : length c.args.target ≡ 32 = search rules in
    let size_hash : length c.args.hash ≡ 32 = search rules in
    let bytes_target : IsBytes c.args.target = λ i. let byte : Fits w8 (get_or c.args.target i 0) = search rules in byte.fits in
    let bytes_hash : IsBytes c.args.hash = λ i. let byte : Fits w8 (get_or c.args.hash i 0) = search rules in byte.fits in
    let at_loop = c in
    let start = at_loop in (
      omega arith,
      (
        simp length-set at_loop.loop-i.invariant.1.0,
        far-turn start.args.target start.args.hash size_target size_hash bytes_target bytes_hash
            at_loop.loop-i.bytes at_loop.loop-i.i (omega arith) at_loop.loop-i.invariant.1.0 at_loop.loop-i.invariant.1.1,
      ),
    )

pub returns : goal.returns
returns c =
    let size_target : length c.args.target ≡ 32 = search rules in
    let size_hash : length c.args.hash ≡ 32 = search rules in
    let bytes_target : IsBytes c.args.target = λ i. let byte : Fits w8 (get_or c.args.target i 0) = search rules in byte.fits in
    let bytes_hash : IsBytes c.args.hash = λ i. let byte : Fits w8 (get_or c.args.hash i 0) = search rules in byte.fits in
    let at_loop = c in
    let start = at_loop in
    let done : at_loop.loop-i.i ≡ 32 = omega arith in
    far-all start.args.target start.args.hash size_target size_hash bytes_target bytes_hash
    at_loop.loop-i.bytes at_loop.loop-i.invariant.1.0 (rw done at at_loop.loop-i.invariant.1.1)

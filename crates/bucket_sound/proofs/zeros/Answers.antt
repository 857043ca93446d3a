-- `bucket_sound::zeros` meets its contract. The invariant: the answer is that of the bytes passed and of those from here on. Assumes nothing.
use Prim.Native.Nat.{◌+◌, ◌-◌}
use mathlib.Core.Path.{◌≡◌, sym, ap, ◌∙◌}
use native.Mathlib.Omega.{arith}
use lib.ListN.{length, take, drop, replicate}
use Rattle.octets.specs.Octets.{same_bytes}
use Rattle.bucket_sound.proofs.Steps.{zeros_start, zeros_turn, zeros_done, lent, length-lent}
use Rattle.bucket_sound.proofs.zeros.Goals as goal

pub loop-b-init : goal.loop-b-init
loop-b-init c = let args = c.args in
    sym (zeros_start (take (args.at + args.n - args.at) (drop args.at args.bytes.now)) args.n)

pub loop-b-preserved : goal.loop-b-preserved
loop-b-preserved c =
    let args = c.args in
    let xs = take (args.at + args.n - args.at) (drop args.at args.bytes.now) in
    let size : length xs ≡ args.n = length-lent args.bytes.now args.at args.n c.requires in
    zeros_turn xs args.n c.loop-b.b-index c.loop-b.any size (omega arith) ∙ c.loop-b.invariant

pub returns : goal.returns
returns c =
    let args = c.args in
    let xs = take (args.at + args.n - args.at) (drop args.at args.bytes.now) in
    let size : length xs ≡ args.n = length-lent args.bytes.now args.at args.n c.requires in
    sym (zeros_done xs args.n c.loop-b.b-index c.loop-b.any size (omega arith)) ∙ c.loop-b.invariant
    ∙ ap (λ s. same_bytes (replicate args.n 0) s) (lent args.bytes.now args.at args.n)

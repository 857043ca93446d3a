-- `bucket_sound::absent` meets its contract. The invariant: the answer is that of the records from i on. Assumes nothing.
use mathlib.Core.Path.{sym, ap, ◌∙◌}
use mathlib.Core.Bool.{not}
use Prim.Native.Nat.{◌+◌, ◌*◌, ◌-◌}
use native.Mathlib.Omega.{arith}
use Rattle.octets.specs.Octets.{part}
use Rattle.lists.specs.Lists.{any}
use Rattle.bucket_model.specs.Contents.{entries_at}
use Rattle.bucket_model.specs.Rules.{is_of}
use Rattle.bucket_sound.proofs.Steps.{any_left, finds, passes_by, from_start, at_end, no_entries}
use Rattle.bucket_sound.proofs.absent.Goals as goal

pub loop-i-init : goal.loop-i-init
loop-i-init c = (omega arith, from_start (λ x k. any (is_of (part c.args.bytes.now c.args.key 64)) (entries_at c.args.bytes.now x k)) c.args.at c.args.n)

pub same_key-requires : goal.same_key-requires
same_key-requires c = (omega arith, omega arith)

pub returns-then-same_key : goal.returns-then-same_key
returns-then-same_key c = let at_loop = c in
    let args = at_loop.args in
    let s = args.bytes.now in
    let i = at_loop.loop-i.i in
    finds (any (is_of (part s args.key 64)) (entries_at s (args.at + (i + 1) * 143) (args.n - (i + 1))))
    at_loop.loop-i.invariant.1 (any_left s args.at args.n i (omega arith) (part s args.key 64)) c.same_key.ensures c.if-same_key.true

pub loop-i-preserved : goal.loop-i-preserved
loop-i-preserved c = let at_loop = c in
    let args = at_loop.args in
    let s = args.bytes.now in (
      omega arith,
      passes_by at_loop.loop-i.invariant.1 (any_left s args.at args.n at_loop.loop-i.i (omega arith) (part s args.key 64)) c.same_key.ensures c.if-same_key.false,
    )

pub returns : goal.returns
returns c = let at_loop = c in
    let args = at_loop.args in
    let s = args.bytes.now in
    let from = args.at + at_loop.loop-i.i * 143 in
    sym (ap not (at_loop.loop-i.invariant.1 ∙ at_end (λ x k. any (is_of (part s args.key 64)) (entries_at s x k)) from args.n at_loop.loop-i.i (omega arith) ∙ no_entries (part s args.key 64) s from))

-- `bucket_sound::records_sound` meets its contract. The invariant: the answer is that of the records from i on. Assumes nothing.
use mathlib.Core.Path.{sym, ◌∙◌}
use Prim.Native.Nat.{◌+◌, ◌*◌, ◌-◌}
use native.Mathlib.Omega.{arith}
use Rattle.bucket_sound.specs.Steps.{home_if, record_sound, all_records}
use Rattle.bucket_sound.proofs.Steps.{records-left, goes_on, stops, from_start, at_end, no_records}
use Rattle.bucket_sound.proofs.records_sound.Goals as goal

pub loop-i-init : goal.loop-i-init
loop-i-init c = (omega arith, from_start (λ x k. all_records (record_sound (home_if c.args.tested c.args.own.now c.args.number) c.args.clock.0 c.args.proved c.args.unproved) c.args.bytes.now x k) c.args.at c.args.n)

pub record_sound-requires : goal.record_sound-requires
record_sound-requires c = (omega arith, c.requires.1.1)

pub returns-then-not-record_sound : goal.returns-then-not-record_sound
returns-then-not-record_sound c = let at_loop = c in
    let args = at_loop.args in
    let s = args.bytes.now in
    let i = at_loop.loop-i.i in
    let f = record_sound (home_if args.tested args.own.now args.number) args.clock.0 args.proved args.unproved in
    stops (all_records f s (args.at + (i + 1) * 143) (args.n - (i + 1))) at_loop.loop-i.invariant.1 (records-left s args.at args.n i (omega arith) f)
    c.record_sound.ensures (c.if-not-record_sound.true)

pub loop-i-preserved : goal.loop-i-preserved
loop-i-preserved c = let at_loop = c in
    let args = at_loop.args in (
      omega arith,
      goes_on at_loop.loop-i.invariant.1 (records-left args.bytes.now args.at args.n at_loop.loop-i.i (omega arith) (record_sound (home_if args.tested args.own.now args.number) args.clock.0 args.proved args.unproved))
          c.record_sound.ensures (c.if-not-record_sound.false),
    )

pub returns : goal.returns
returns c = let at_loop = c in
    let args = at_loop.args in
    let s = args.bytes.now in
    let from = args.at + at_loop.loop-i.i * 143 in
    let f = record_sound (home_if args.tested args.own.now args.number) args.clock.0 args.proved args.unproved in
    sym (at_loop.loop-i.invariant.1 ∙ at_end (λ x k. all_records f s x k) from args.n at_loop.loop-i.i (omega arith) ∙ no_records f s from)

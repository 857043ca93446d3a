-- `bucket_sound::sound_where` meets its contract. Assumes nothing.
use Prim.Native.Nat.{◌+◌}
use native.Mathlib.Omega.{arith}
use Rattle.bucket_sound.specs.Steps.{home_if}
use Rattle.bucket_sound.proofs.Exact.{sound-done, too_many, too-many-waiting}
use Rattle.bucket_sound.proofs.sound_where.Goals as goal

pub overflow_cast-n : goal.overflow_cast-n
overflow_cast-n c = omega (arith, c.shared_slice_known-3-1.given c.args.at)

pub overflow_cast-m : goal.overflow_cast-m
overflow_cast-m c = omega (arith, c.shared_slice_known-4-1.given (c.args.at + 1))

pub returns-then-n-gt-ENTRIES : goal.returns-then-n-gt-ENTRIES
returns-then-n-gt-ENTRIES c = let start = c in let args = start.args in too_many (home_if args.tested args.own.now args.number) args.clock.0 args.bytes.now args.at start.requires.0 c.if-n-gt-ENTRIES.true

pub returns-then-m-gt-REPLACEMENTS : goal.returns-then-m-gt-REPLACEMENTS
returns-then-m-gt-REPLACEMENTS c = let start = c in let args = start.args in too-many-waiting (home_if args.tested args.own.now args.number) args.clock.0 args.bytes.now args.at start.requires.0 c.if-n-gt-ENTRIES.false c.if-m-gt-REPLACEMENTS.true

pub returns : goal.returns
returns c = let at_records = c in
    let at_tests = at_records in
    let start = at_tests in
    let args = start.args in
    sound-done (home_if args.tested args.own.now args.number) args.clock.0 args.bytes.now args.at start.requires.0
    (λ k. (at_tests.shared_slice_known-1.given k).fits) at_tests.if-n-gt-ENTRIES.false at_tests.if-m-gt-REPLACEMENTS.false
    at_records.zeros.ensures at_records.zeros-2.ensures at_records.both-unused.ensures
    at_records.keys_apart.ensures at_records.keys_apart-2.ensures at_records.both-keys.ensures
    at_records.records_sound-entries.ensures c.records_sound-replacements.ensures
    c.ranges_kept.ensures c.line_settled.ensures c.both-ranges.ensures
    c.both.ensures c.both-form.ensures c.both-2.ensures c.both-3.ensures

-- `bucket_sound::record_sound` meets its contract. Assumes nothing.
use Rattle.bucket_sound.specs.Steps.{home_if}
use Rattle.bucket_sound.proofs.Exact.{shape_is, record-yes, record-no}
use Rattle.bucket_sound.proofs.record_sound.Goals as goal

pub returns-then-shape : goal.returns-then-shape
returns-then-shape c = let start = c in
    let args = start.args in
    let at_shape = c in
    record-yes (home_if args.tested args.own.now args.number) args.clock.0 args.proved args.unproved args.bytes.now args.at start.requires.0 (λ k. (c.shared_slice_known-1.given k).fits)
    (shape_is (home_if args.tested args.own.now args.number) args.clock.0 args.proved args.unproved args.bytes.now args.at
    at_shape.number_at-seen.ensures at_shape.load_stamp-proof.ensures at_shape.load_stamp-ping.ensures at_shape.stamp_form.ensures at_shape.stamp_form-2.ensures at_shape.both-form.ensures
    at_shape.stamp_by.ensures at_shape.stamp_by-2.ensures at_shape.both-stamps.ensures at_shape.both-times.ensures at_shape.may_stand.ensures at_shape.address_form.ensures
    at_shape.both-stands.ensures at_shape.both.ensures at_shape.both-shape.ensures)
    c.if-shape.true c.at_home.ensures

pub returns : goal.returns
returns c = let start = c in
    let args = start.args in
    let at_shape = c in
    record-no (home_if args.tested args.own.now args.number) args.clock.0 args.proved args.unproved args.bytes.now args.at start.requires.0 (λ k. (c.shared_slice_known-1.given k).fits)
    (shape_is (home_if args.tested args.own.now args.number) args.clock.0 args.proved args.unproved args.bytes.now args.at
    at_shape.number_at-seen.ensures at_shape.load_stamp-proof.ensures at_shape.load_stamp-ping.ensures at_shape.stamp_form.ensures at_shape.stamp_form-2.ensures at_shape.both-form.ensures
    at_shape.stamp_by.ensures at_shape.stamp_by-2.ensures at_shape.both-stamps.ensures at_shape.both-times.ensures at_shape.may_stand.ensures at_shape.address_form.ensures
    at_shape.both-stands.ensures at_shape.both.ensures at_shape.both-shape.ensures)
    c.if-shape.false

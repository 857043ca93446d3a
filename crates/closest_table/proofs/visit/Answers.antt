-- `closest_table::visit` meets its contract. Assumes nothing.
use native.Mathlib.Omega.{arith}
use Rattle.table_model.specs.Layout.{bucket_at}
use Rattle.closest_table.proofs.Take.{not-put-in, put_in}
use Rattle.closest_table.proofs.visit.Goals as goal

pub returns-then-gathered-ge16 : goal.returns-then-gathered-ge16
returns-then-gathered-ge16 c = let start = c in
    let args = start.args in record {
      sound_value = c.sound-sound.ensures;
      nearest_value = λ yes.
          not-put-in args.gathered args.target args.slot (bucket_at args.bytes.now args.slot).entries args.nearest
          (omega (arith, c.if-gathered-ge16.true)) start.requires.1;
    }

pub returns : goal.returns
returns c = let at_take = c in
    let args = at_take.args in record {
      sound_value = at_take.take_bucket-taken.ensures.sound_value;
      nearest_value = λ yes.
          put_in args.gathered args.target args.slot (bucket_at args.bytes.now args.slot).entries args.nearest
          (omega (arith, at_take.if-gathered-ge16.false)) (at_take.take_bucket-taken.ensures.nearest_value yes);
    }

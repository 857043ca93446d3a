-- `printout_table::print_table` meets its contract. Assumes nothing.
use mathlib.Core.Path.{◌≡◌, sym, ◌∙◌}
use mathlib.Core.Bool.{true}
use native.Mathlib.Omega.{arith}
use Rattle.table_model.specs.Sound.{table_sound}
use Rattle.printout.proofs.Slots.{header_in, at-most}
use Rattle.printout_table.proofs.Tells.{unsound, short, done}
use Rattle.printout_table.proofs.print_table.Goals as goal

pub returns-then-not-sound : goal.returns-then-not-sound
returns-then-not-sound c = let a = c.args in record { value = (unsound a.out.now a.table.now (sym c.sound.ensures ∙ c.if-not-sound.true)).0; out_after = (unsound a.out.now a.table.now (sym c.sound.ensures ∙ c.if-not-sound.true)).1 }

pub bucket_count-buckets-requires : goal.bucket_count-buckets-requires
bucket_count-buckets-requires c = header_in c.args.table.now (sym c.sound.ensures ∙ c.if-not-sound.false)

pub room_for-requires : goal.room_for-requires
room_for-requires c = omega (
  arith,
  c.bucket_count-buckets.ensures,
  at-most c.args.table.now (sym c.sound.ensures ∙ c.if-not-sound.false),
)

pub returns-then-out-room_for : goal.returns-then-out-room_for
returns-then-out-room_for c = let a = c.args in record {
  value = (short a.out.now a.table.now (sym c.sound.ensures ∙ c.if-not-sound.false)
      (omega (arith, c.if-out-room_for.true, c.room_for.ensures, c.bucket_count-buckets.ensures))).0;
  out_after = (short a.out.now a.table.now (sym c.sound.ensures ∙ c.if-not-sound.false)
      (omega (arith, c.if-out-room_for.true, c.room_for.ensures, c.bucket_count-buckets.ensures))).1;
}

pub put_table-size-requires : goal.put_table-size-requires
put_table-size-requires c = (
  sym c.sound.ensures ∙ c.if-not-sound.false,
  omega (arith, c.if-out-room_for.false, c.room_for.ensures, c.bucket_count-buckets.ensures),
)

pub returns : goal.returns
returns c = let a = c.args in
    let sound : table_sound a.table.now ≡ true = sym c.sound.ensures ∙ c.if-not-sound.false in record {
      value = (done a.out.now a.table.now sound
          (omega (arith, c.if-out-room_for.false, c.room_for.ensures, c.bucket_count-buckets.ensures))
          (c.put_table-size.ensures.value, c.put_table-size.ensures.out_after)).0;
      out_after = (done a.out.now a.table.now sound
          (omega (arith, c.if-out-room_for.false, c.room_for.ensures, c.bucket_count-buckets.ensures))
          (c.put_table-size.ensures.value, c.put_table-size.ensures.out_after)).1;
    }

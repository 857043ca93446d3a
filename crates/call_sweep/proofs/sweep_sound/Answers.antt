-- `call_sweep::sweep_sound` meets its contract. Assumes nothing.
use mathlib.Core.Path.{◌≡◌}
use mathlib.Core.Bool.{true}
use Prim.Native.Nat.{◌≤◌}
use native.Mathlib.Omega.{arith}
use lib.ListN.{length}
use Rattle.octets.specs.Octets.{Bytes}
use Rattle.table_model.specs.Sound.{table_sound}
use Rattle.table_model.proofs.Sound.{table_header}
use Rattle.call_model.proofs.IfAny.{some_sound, none_unsound}
use Rattle.call_sweep.proofs.Model.{sweep-unsound, sweep-back, sweep_end}
use Rattle.call_sweep.proofs.sweep_sound.Goals as goal

long : (s : Bytes) → table_sound s ≡ true → 512 ≤ length s
long s h = let header = table_header s h in omega (arith, header.size)

pub returns-then-table-eq0 : goal.returns-then-table-eq0
returns-then-table-eq0 c = let args = c.args in record { value = (sweep-unsound args.table.now args.time.0 (none_unsound args.table.now c.if-table-eq0.true)).0; table_after = (sweep-unsound args.table.now args.time.0 (none_unsound args.table.now c.if-table-eq0.true)).1 }

pub clock-clock-requires : goal.clock-clock-requires
clock-clock-requires c =
    let is_sound : table_sound c.args.table.now ≡ true = some_sound _ c.requires c.if-table-eq0.false in
    long c.args.table.now is_sound

pub returns-then-time-clock : goal.returns-then-time-clock
returns-then-time-clock c =
    let is_sound : table_sound c.args.table.now ≡ true = some_sound _ c.requires c.if-table-eq0.false in
    let at_if1 = c in
    let args = at_if1.args in record { value = (sweep-back args.table.now args.time.0 is_sound (omega (arith, c.clock-clock.ensures, c.if-time-clock.true))).0; table_after = (sweep-back args.table.now args.time.0 is_sound (omega (arith, c.clock-clock.ensures, c.if-time-clock.true))).1 }

pub sweep_buckets-requires : goal.sweep_buckets-requires
sweep_buckets-requires c =
    let is_sound : table_sound c.args.table.now ≡ true = some_sound _ c.requires c.if-table-eq0.false in
    (is_sound, omega (arith, c.clock-clock.ensures, c.if-time-clock.false))

pub set_clock-requires : goal.set_clock-requires
set_clock-requires c =
    let is_sound : table_sound c.args.table.now ≡ true = some_sound _ c.requires c.if-table-eq0.false in
    let at_if1 = c in
    omega (arith, long at_if1.args.table.now is_sound)

pub returns : goal.returns
returns c =
    let is_sound : table_sound c.args.table.now ≡ true = some_sound _ c.requires c.if-table-eq0.false in
    let at_if2 = c in
    let at_if1 = at_if2 in
    let args = at_if1.args in record {
      value = (sweep_end args.table.now args.time.0 is_sound (omega (arith, at_if2.clock-clock.ensures, at_if2.if-time-clock.false))
          c.sweep_buckets.ensures c.set_clock.ensures).0;
      table_after = (sweep_end args.table.now args.time.0 is_sound (omega (arith, at_if2.clock-clock.ensures, at_if2.if-time-clock.false))
          c.sweep_buckets.ensures c.set_clock.ensures).1;
    }
